-- What is promised of rules: they decide on what every fair server sees as they decide on what is compared. Each is a type; a proof of the type is the
-- theorem.
use Rattle.std.specs.Prelude.{◌≡◌, T, List, [], ◌∷◌, ◌++◌}
use Rattle.std.specs.List.{AllByRecursion}
use Rattle.text.specs.Bytes.{Text}
use Rattle.request.specs.Places.{Place, part_texts, good_place, or_root, target_of}
use Rattle.rules.specs.Rules.{Rule, ruled_from, parts_in, view_rule, view_rules}
use Rattle.rules.specs.declared.Rule.{Rule as Held}
use Rattle.rules.specs.declared.Ruling.{Ruling}
use Rattle.rules_laws.specs.Views.{View, FairView, untouched, good_start, good_rules}

-- Good rules say of what any fair view makes of a good place's target what they say of what is compared: the same ruling, by the same rule.
abbrev pub RuledAlike : Type 0
RuledAlike =
    (v : View) → FairView v → (us : List Rule) → T (good_rules us) → (m : Text) (p : Place) → T (good_place p) → ruled_from 0 us m (v.see (target_of p)) ≡ ruled_from 0 us m (parts_in (target_of p))

-- What is compared are the parts of the place.
abbrev pub PartsIn : Type 0
PartsIn = (p : Place) → T (good_place p) → parts_in (target_of p) ≡ part_texts p.parts

-- There is a fair view, so that the promises here are not empty.
abbrev pub UntouchedIsFair : Type 0
UntouchedIsFair = FairView untouched

-- A ruling of a call: where the rules are good and the target is that of a good place, it is the one on what any fair view makes of that target.
abbrev pub JudgedAlike : List Rule → Text → Text → Ruling → Type 0
JudgedAlike us m target ruling = T (good_rules us) → (p : Place) → T (good_place p) → target ≡ target_of p → (v : View) → FairView v → ruling ≡ ruled_from 0 us m (v.see target)

-- parts as settings write them, each after a slash
unfoldable pub after_slashes : List Text → Text
after_slashes [] = []
after_slashes (t ∷ ts) = (47 ∷ t) ++ after_slashes ts

-- A rule's path as settings write it: a slash alone, or parts that each follow a slash, none of them empty, of plain bytes without capitals.
pub record RulePath (path : Text) : Type 0 where
  pub parts : List Text
  pub good : T (good_start parts)
  pub joined : path ≡ or_root (after_slashes parts)

-- The first parts of a rule whose path is so written are those that it was written with.
abbrev pub RuleParts : Type 0
RuleParts = (r : Held) (h : RulePath r.path.now) → (view_rule r).start ≡ h.parts

-- Rules whose paths are so written are good.
abbrev pub GoodRules : Type 0
GoodRules = (rs : List Held) → AllByRecursion (λ r. RulePath r.path.now) rs → T (good_rules (view_rules rs))
