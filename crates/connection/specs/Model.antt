-- One connection to a server, on which the requests of many clients follow each other, as a machine on lists: who waits, what was given to whom, and
-- what happens when a client asks or the server says something. How responses are read is a parameter, the ear. Assumes nothing.
use Rattle.std.specs.Prelude.{◌≡◌, ℕ, zero, suc, ◌+◌, ◌-◌, Bool, true, false, cond, ◌&&◌, List, [], ◌∷◌, ◌++◌, length, nat_lt}
use Rattle.text.specs.Bytes.{Text}
use Rattle.request.specs.Canonical.{Req}

-- one response, as it goes to the client; last: no further response to the same request follows
pub record Response : Type 0 where
  pub last : Bool
  pub text : Text

-- what is found at the front of a server's bytes: nothing whole yet, nothing that can be read, or a response and what follows it
pub data Found : Type 0 where
  more : Found
  unreadable : Found
  whole : Response → (rest : Text) → Found

-- how responses are read: by the method that was asked, and the bytes
abbrev pub Ear : Type 0
Ear = Text → Text → Found

-- what was found stays found when more bytes come, and was found in bytes of its own; in no bytes nothing is found
pub record Steady (e : Ear) : Type 0 where
  pub stays : (m s t : Text) (a : Response) (rest : Text) → e m s ≡ whole a rest → e m (s ++ t) ≡ whole a (rest ++ t)
  pub stays_unreadable : (m s t : Text) → e m s ≡ unreadable → e m (s ++ t) ≡ unreadable
  pub own : (m s : Text) (a : Response) (rest : Text) → e m s ≡ whole a rest → (t : Text) × (s ≡ t ++ rest) × (e m t ≡ whole a [])
  pub silent : (m : Text) → e m [] ≡ more

-- whose request waits for its response: the client, the request's number on this connection, from 0, and its method
pub record Owner : Type 0 where
  pub client : ℕ
  pub number : ℕ
  pub method : Text

-- a request that went out, and whose it is
pub record Sent : Type 0 where
  pub client : ℕ
  pub request : Req

-- a response that was handed over; from: how many bytes the server had said before the first one of it
pub record Given : Type 0 where
  pub to : Owner
  pub from : ℕ
  pub response : Response

-- waiting: the owners that wait, first to last; part: what has come and is not whole yet; given: the responses handed over, and told: the owners who were
-- told that the connection is down, both in order; sent: the requests that went out, in order; used: how many bytes the responses given had as they
-- were said
pub record Conn : Type 0 where
  pub waiting : List Owner
  pub part : Text
  pub given : List Given
  pub told : List Owner
  pub sent : List Sent
  pub used : ℕ
  pub up : Bool

abbrev pub fresh : Conn
fresh = record { waiting = []; part = []; given = []; told = []; sent = []; used = 0; up = true }

-- so many owners wait at most
abbrev pub owner_limit : ℕ
owner_limit = 64

-- and so many requests go out at most, since their numbers have 64 bits
abbrev pub sent_limit : ℕ
sent_limit = 18446744073709551615

abbrev pub has_room : Conn → Bool
has_room c = nat_lt (length c.waiting) owner_limit && nat_lt (length c.sent) sent_limit

-- a request goes out at once, and its owner waits behind the others
abbrev pub asked : ℕ → Req → Conn → Conn
asked p q c = record c {
  waiting = c.waiting ++ (record { client = p; number = length c.sent; method = q.method } ∷ []);
  sent = c.sent ++ (record { client = p; request = q } ∷ []);
}

-- for good: all who wait are told, and what had come of a response is dropped
abbrev pub down : Conn → Conn
down c = record c { waiting = []; part = []; told = c.waiting; up = false }

-- the bytes s come
abbrev pub put : Text → Conn → Conn
put s c = record c { part = c.part ++ s }

-- the first owner, o, is given a whole response, and leaves if it is the last; behind it wait os, and the bytes rest are left
abbrev pub gave : Owner → Response → List Owner → Text → Conn → Conn
gave o a os rest c = record c {
  waiting = cond a.last os (o ∷ os);
  part = rest;
  given = c.given ++ (record { to = o; from = c.used; response = a } ∷ []);
  used = c.used + (length c.part - length rest);
}

-- what is to happen with the bytes that have come: nothing until more come, the first owner is given a response, or the connection goes down
pub data Turn : Type 0 where
  rests : Turn
  gives : (then : Conn) → Turn
  falls : Turn

abbrev pub on_found : Conn → Owner → List Owner → Found → Turn
on_found c o os more = rests
on_found c o os unreadable = falls
on_found c o os (whole a rest) = gives (gave o a os rest c)

-- a byte that nobody waits for
abbrev pub on_idle : Text → Turn
on_idle [] = rests
on_idle (x ∷ xs) = falls

-- responses are read by the method of the first owner that waits
abbrev pub turn_by : Ear → Conn → List Owner → Turn
turn_by e c [] = on_idle c.part
turn_by e c (o ∷ os) = on_found c o os (e o.method c.part)

abbrev pub turn : Ear → Conn → Turn
turn e c = turn_by e c c.waiting

abbrev pub on_turn : (Conn → Conn) → Conn → Turn → Conn
on_turn go c rests = c
on_turn go c (gives d) = go d
on_turn go c falls = down c

-- turn after turn, at most so many
unfoldable pub drain : ℕ → Ear → Conn → Conn
drain zero e c = c
drain (suc k) e c = on_turn (λ d. drain k e d) c (turn e c)

-- all that is whole is handed over; a response has a byte at least, so that there are no more turns than bytes
abbrev pub drained : Ear → Conn → Conn
drained e c = drain (suc (length c.part)) e c

-- a client asks, with a request that was let pass; or the server says some bytes
pub data Event : Type 0 where
  asks : (client : ℕ) → Req → Event
  says : Text → Event

-- nothing goes out where there is no room for an owner, and nothing happens on a connection that is down
abbrev pub step : Ear → Event → Conn → Conn
step e (asks p q) c = cond (c.up && has_room c) (asked p q c) c
step e (says s) c = cond c.up (drained e (put s c)) c

unfoldable pub run : Ear → List Event → Conn → Conn
run e [] c = c
run e (v ∷ vs) c = run e vs (step e v c)
