-- The moments of a connection: what its calls can lead to, and by what was asked and said so far. A connection that has heard a piece of which not all
-- that is whole has been handed over is at a moment too. Assumes nothing.
use Rattle.std.specs.Prelude.{◌≡◌, ℕ, List, [], ◌∷◌, ◌++◌}
use Rattle.text.specs.Bytes.{Text}
use Rattle.request.specs.Canonical.{Req}
use Rattle.connection.specs.Model.{Ear, Conn, fresh, rests, gives, falls, down, Event, asks, says, step}
use Rattle.connection.specs.Stands.{come, turn_now}

-- nothing is to be handed over: a client may ask, and the server may say something
abbrev pub Rests : Ear → Conn → Type 0
Rests e c = turn_now e c ≡ rests

-- What was asked and said so far, in order, leads to this moment of the connection. Requests and pieces come only where it rests; a piece counts as said
-- from when its hearing begins, and then its responses are handed over turn by turn.
pub data Leads (e : Ear) : List Event → Conn → Type 0 where
  start : Leads e [] fresh
  asking : {vs : List Event} {c : Conn} (p : ℕ) (q : Req) → Leads e vs c → Rests e c → Leads e (vs ++ (asks p q ∷ [])) (step e (asks p q) c)
  hearing : {vs : List Event} {c : Conn} (s : Text) → Leads e vs c → Rests e c → Leads e (vs ++ (says s ∷ [])) (come s c)
  handing : {vs : List Event} {c : Conn} (d : Conn) → Leads e vs c → turn_now e c ≡ gives d → Leads e vs d
  falling : {vs : List Event} {c : Conn} → Leads e vs c → turn_now e c ≡ falls → Leads e vs (down c)
