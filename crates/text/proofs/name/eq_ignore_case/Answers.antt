use Rattle.std.proofs.Common.{◌≡◌, ◌↔◌, Bool, true, false, map, IsTrue, sym, refl, ◌∙◌}
use Rattle.std.proofs.lemmas.Bool.{both_ways}
use Rattle.std.specs.Char.{to_ascii_lowercase}
use Rattle.text.specs.Bytes.{Text, lowered, same_no_case}
use Rattle.text.proofs.Folding.{lowered_is}
use Rattle.text.proofs.Passing.{same_is, same_self}
use Rattle.text.proofs.name.eq_ignore_case.Goals as goal

lowered_same_so : (s t : Text) → map to_ascii_lowercase s ≡ map to_ascii_lowercase t → same_no_case s t ≡ true
lowered_same_so s t e = rw (lowered_is s ∙ e ∙ sym (lowered_is t)) (same_self (lowered t))

told : (r b : Bool) (s t : Text) → same_no_case s t ≡ b → IsTrue r ↔ (map to_ascii_lowercase s ≡ map to_ascii_lowercase t) → r ≡ b
told true true s t e h = refl
told true false s t e h = absurd (both_ways (same_no_case s t) e (lowered_same_so s t (h.0 refl)))
told false true s t e h = h.1 (sym (lowered_is s) ∙ same_is (lowered s) (lowered t) e ∙ lowered_is t)
told false false s t e h = refl

pub returns : goal.returns
returns c = told _ _ c.args.a.now c.args.b.now refl c.eq_ignore_ascii_case.ensures.test
