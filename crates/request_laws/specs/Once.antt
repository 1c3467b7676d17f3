-- What a call that reads a client's bytes hands out, in words of the grammar.
use Rattle.std.specs.Prelude.{◌≡◌, ℕ, ◌<◌, ◌⊎◌, List, ◌++◌, Ok, Err, Result, ◌≢◌}
use Rattle.text.specs.Bytes.{Text}
use Rattle.message.specs.declared.fault.Flaw.{Flaw}
use Rattle.message.specs.declared.fault.Unfit.{Unfit}
use Rattle.request.specs.Canonical.{Req, field_limit}
use Rattle.request.specs.Found.{Finding, passed, more, fault}
use Rattle.request.specs.Reading.{memory_size}
use Rattle.request_laws.specs.Faults.{FirstFault}
use Rattle.request_laws.specs.Grammar.{Spelled}

-- The bytes s begin with a request for the server k that means q.
abbrev pub Begins : List Text → Text → ℕ → Req → Type 0
Begins names s k q = (t rest : Text) × (s ≡ t ++ rest) × Spelled names t k q

-- A request that is handed out is one that the bytes begin with; a fault is the first in the stated order; and where more is wanted, the bytes begin with
-- no request and have no fault.
abbrev pub Told : List Text → Text → Finding → Type 0
Told names s (passed k q) = Begins names s k q
Told names s (fault v) = FirstFault names s v
Told names s more = ((k : ℕ) (q : Req) → Begins names s k q → ⊥) × ((v : Flaw) → FirstFault names s v → ⊥)

-- The same of a call with so many bytes of memory and so much room for fields lent; it is refused only where one of them is not of the wanted size.
abbrev pub Explained : List Text → ℕ → ℕ → Text → Result Finding Unfit → Type 0
Explained names memory room s (Ok f) = Told names s f
Explained names memory room s (Err u) = (memory ≢ memory_size) ⊎ (room < field_limit)
