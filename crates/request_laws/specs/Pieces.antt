-- What one call that reads a piece does, in terms of all the bytes that have come of a request.
use Rattle.std.specs.Prelude.{◌≡◌, ℕ, ◌+◌, ◌^◌, ◌<◌, ◌≤◌, List, [], ◌++◌, length, Ok, Err, Result}
use Rattle.text.specs.Bytes.{Text}
use Rattle.message.specs.declared.fault.Unfit.{Unfit}
use Rattle.request.specs.Found.{found_in}
use Rattle.request.specs.Reading.{after, memory_size}
use Rattle.request.specs.declared.reading.Fed.{Fed}
use Rattle.request.specs.declared.reading.Reading.{Reading}
use Rattle.request.specs.declared.reading.Reading.TheVariants.{InHead}
use Rattle.request_laws.specs.Laws.{joined, feeding, finding_of}
use Rattle.request_laws.specs.Outcome.{Outcome, wants, broken, whole, outcome}

-- This part of a request has come: calls on a fresh state that were lent its pieces one after the other took all of them, and led to this state and memory.
pub record InHand (names : List Text) (r : Reading) (memory part : Text) : Type 0 where
  pub first : Text
  pub pieces : List Text
  pub size : length first ≡ memory_size
  pub are : joined pieces ≡ part
  pub fed : feeding names (InHead 0) first pieces ≡ Ok (after r (length part) memory)

-- how much of a piece was taken, by what all the bytes mean: all of it where more are wanted, and where a request is whole, of n bytes, what belongs to it
abbrev pub Takes : List Text → Text → Text → Fed → Text → Outcome → Type 0
Takes names part piece fed then wants = (fed.taken ≡ length piece) × InHand names fed.reading then (part ++ piece)
Takes names part piece fed then (broken w) = Unit {0}
Takes names part piece fed then (whole f n) = (length part + fed.taken ≡ n) × (fed.taken ≤ length piece)

-- EACH CALL that is lent a piece finds what all the bytes mean, whatever the pieces before it were, and is not refused. (The bytes can be counted.)
abbrev pub ReadsOn : List Text → Text → Text → Text → Result Fed Unfit → Type 0
ReadsOn names part piece then (Ok fed) =
    (found_in fed.reading then ≡ Ok (finding_of (outcome names (part ++ piece)))) × Takes names part piece fed then (outcome names (part ++ piece))
ReadsOn names part piece then (Err u) = ⊥

-- before the first call nothing has come, whatever the memory holds
abbrev pub Begins : Type 0
Begins = (names : List Text) (memory : Text) → length memory ≡ memory_size → InHand names (InHead 0) memory []
