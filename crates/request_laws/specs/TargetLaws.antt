-- Targets are read by the grammar. Each law is a type; a proof of the type is the theorem.
use Rattle.std.specs.Prelude.{◌≡◌, T, Ok}
use Rattle.text.specs.Bytes.{Text}
use Rattle.text_laws.specs.Laws.{Iff}
use Rattle.request.specs.Canonical.{begins_with_slash}
use Rattle.request.specs.Targets.{check_target, undone}
use Rattle.request.specs.Places.{Place, good_place, target_of}
use Rattle.request_laws.specs.Targets.{TargetSpelled}

-- Nothing is wrong with a target exactly where the grammar has a place that it means.
abbrev pub TargetsRead : Type 0
TargetsRead = (t : Text) → T (begins_with_slash t) → Iff (check_target t ≡ Ok tt) ((p : Place) × TargetSpelled t p)

-- The canonical form of a target is the target of the place that it means.
abbrev pub TargetsMean : Type 0
TargetsMean = (t : Text) (p : Place) → TargetSpelled t p → undone t ≡ target_of p

-- The target of a good place means that place.
abbrev pub PlacesAgain : Type 0
PlacesAgain = (p : Place) → T (good_place p) → TargetSpelled (target_of p) p
