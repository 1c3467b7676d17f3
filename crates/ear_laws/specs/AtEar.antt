-- The laws of a shared connection at the ear of the gate: what was said for every steady way of reading responses, of the one that there is.
use Rattle.std.specs.Prelude.{◌≡◌, List, ◌++◌, map}
use Rattle.std.specs.List.{concat}
use Rattle.text.specs.Bytes.{Text}
use Rattle.connection.specs.Model.{Conn, fresh, Event, says, run}
use Rattle.connection_laws.specs.Laws.{MomentsAtRest, SettledNow, Said, Honest, Served}
use Rattle.connection_laws.specs.Moments.{Rests, Leads}
use Rattle.connection_laws.specs.Promise.{Promised}
use Rattle.response_laws.specs.Ear.{ear}

-- reached: where a connection rests it is what the events make of it. settled: then no bytes wait for an owner who has not asked yet. cut_free: where a
-- server's bytes are cut makes no difference. to_owner: an honest server's responses go each to the client who asked, at every moment. promised: the whole
-- promise, of any server, at every moment that calls can lead to.
pub record AtEar : Type 0 where
  pub reached : (vs : List Event) → MomentsAtRest ear vs
  pub settled : (vs : List Event) (c : Conn) → Leads ear vs c → Rests ear c → SettledNow ear c
  pub cut_free : (vs ws : List Event) (ss ts : List Text) → concat ss ≡ concat ts → run ear (vs ++ (map (λ s. says s) ss ++ ws)) fresh ≡ run ear (vs ++ (map (λ s. says s) ts ++ ws)) fresh
  pub to_owner : (vs : List Event) (c : Conn) → Leads ear vs c → (ts : List Said) → Honest ear vs c ts → Served ear vs c ts
  pub promised : (vs : List Event) (c : Conn) → Leads ear vs c → Promised ear vs c
