-- What is promised of each server's connection, in terms of what happened.
use Rattle.std.specs.Prelude.{◌≡◌, ℕ, cond, T, List, [], ◌∷◌, ◌++◌, map, Some, None, slice_get}
use Rattle.reader.specs.Reader.{Reader, Fair}
use Rattle.request.specs.Canonical.{writes}
use Rattle.rules_laws.specs.Views.{View, FairView, good_rules}
use Rattle.connection.specs.Model.{Owner, Given, Conn}
use Rattle.connection.specs.Model.{Event as Said}
use Rattle.connection_laws.specs.Laws.{said_in, requests_of}
use Rattle.connection_laws.specs.Promise.{Promise}
use Rattle.response_laws.specs.Ear.{ear}
use Rattle.proxy.specs.Model.{Servers, Gate, downs, rules_of, turn}
use Rattle.proxy_laws.specs.Traces.{Entry, Got, events_at, said_by, asked_of, bytes_to, got_from, told_by, downs_of}

abbrev pub got_of : Given → Got
got_of x = record { owner = x.to; response = x.response }

-- Of the server k: its connection c, and what was asked and said on it, vs. in_order: just that happened at the gate, in this order. said, asked, bytes,
-- given: so it is what this server said, the requests that went out to it, whose bytes are all that went out to it, and the responses that clients got from it. down: its
-- connection has ended once if it is down, and never while it is up. told: those who were told so are the first of those who waited then, and where the gate
-- rests, all of them. promised: the whole promise of a connection, for every server that reads and sees paths fairly, with the rules of this server.
pub record ServerPromise (servers : Servers) (es : List Entry) (g : Gate) (k : ℕ) : Type 0 where
  pub c : Conn
  pub vs : List Said
  pub is : slice_get g.connections k ≡ Some c
  pub in_order : vs ≡ events_at k es
  pub said : said_in vs ≡ said_by k es
  pub asked : c.sent ≡ asked_of k es
  pub bytes : writes (requests_of c) ≡ bytes_to k es
  pub given : map got_of c.given ≡ got_from k es
  pub down : downs_of k es ≡ cond c.up [] (downs k ∷ [])
  pub told : (untold : List Owner) × (c.told ≡ told_by k es ++ untold) × (turn servers ear g ≡ None → untold ≡ [])
  pub promised : T (good_rules (rules_of servers k)) → (r : Reader) → Fair r → (v : View) → FairView v → Promise (rules_of servers k) r v ear vs c
