-- The owners that a ring holds, first to last.
use Rattle.std.specs.Prelude.{◌≡◌, ℕ, ◌<◌, ◌≤◌, min, cond, List, [], ◌∷◌, ◌++◌, length, take, drop, Some, None, Option, Ok, Err, Result, nat_lt}
use Rattle.text.specs.Bytes.{Text}
use Rattle.connection.specs.Model.{Owner}
use Rattle.connection.specs.declared.owners.Owner.{Owner as Held}

-- the owner that is held, as the model's: of the letters as many as the method has, at most all 16
abbrev pub owner_of : Held → Owner
owner_of o = record { client = o.client; number = o.number; method = take (min o.method_len 16) o.letters }

-- the owner of a client's request of this number and method, which has at most 16 letters
abbrev pub owner_by : ℕ → ℕ → Text → Option Held → Type 0
owner_by client number method None = 16 < length method
owner_by client number method (Some o) = (length method ≤ 16) × (owner_of o ≡ record { client = client; number = number; method = method })

-- from the first place on, round the end of the places, as many as wait
abbrev pub queued : {A : Type 0} → List A → ℕ → ℕ → List A
queued places first count = take count (drop first (places ++ places))

-- the first of 64 places is one of them, and at most all are taken
pub record IsRing {A : Type 0} (places : List A) (first count : ℕ) : Type 0 where
  pub long : length places ≡ 64
  pub begins : first < 64
  pub fits : count ≤ 64

-- one more at the end, where there is room
abbrev pub pushed : List Held → Held → List Held
pushed os o = cond (nat_lt (length os) 64) (os ++ (o ∷ [])) os

-- whether there is room; where there is none, the owner is given back
abbrev pub push_answer : List Held → Held → Result (Unit {0}) Held
push_answer os o = cond (nat_lt (length os) 64) (Ok tt) (Err o)
