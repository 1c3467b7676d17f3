-- A fault is found exactly where the grammar is broken so, and it is the first in the stated order. Each is a type; a proof of the type is the theorem.
use Rattle.std.specs.Prelude.{◌≡◌, ◌≤◌, T, ◌⊎◌, List, length, Err}
use Rattle.text.specs.Bytes.{Text}
use Rattle.text_laws.specs.Laws.{Iff}
use Rattle.message.specs.declared.fault.Flaw.{Flaw}
use Rattle.request.specs.Canonical.{begins_with_slash}
use Rattle.request.specs.Found.{fault}
use Rattle.request.specs.Heads.{window, judged}
use Rattle.request.specs.Targets.{check_target}
use Rattle.request_laws.specs.Faults.{LineFault, HeadFault, TargetFault, FirstFault}
use Rattle.request_laws.specs.Laws.{finding_of}
use Rattle.request_laws.specs.Outcome.{outcome}

-- A head, as far as it has come, is refused exactly where a line or the whole of it breaks the grammar.
abbrev pub HeadsRefused : Type 0
HeadsRefused = (names : List Text) (w : Text) (v : Flaw) → length w ≤ window → Iff (judged names w ≡ Err v) (LineFault w v ⊎ HeadFault names w v)

-- So is a target.
abbrev pub TargetsRefused : Type 0
TargetsRefused = (t : Text) (v : Flaw) → T (begins_with_slash t) → Iff (check_target t ≡ Err v) (TargetFault t v)

-- The fault that is found is the first in the stated order, with its place.
abbrev pub FaultIsFirst : Type 0
FaultIsFirst = (names : List Text) (s : Text) (v : Flaw) → Iff (finding_of (outcome names s) ≡ fault v) (FirstFault names s v)
