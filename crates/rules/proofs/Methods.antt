-- Methods between commas.
use Rattle.std.proofs.Common.{◌≡◌, true, false, cond, ◌||◌, not, ◌&&◌, Bool, List, [], ◌∷◌, codes, sym, refl, ap, ◌∙◌}
use Rattle.std.specs.List.{list_any}
use Rattle.text.specs.Bytes.{Text, same, among}
use Rattle.text.specs.Marks.{split}
use Rattle.rules.specs.Rules.{methods_of}

any_among : (m : Text) (ts : List Text) → list_any (same m) ts ≡ among m ts
unfolding among
any_among m [] = refl
any_among m (t ∷ ts) = ap (λ b. same m t || b) (any_among m ts)

choose : (m : Text) (b : Bool) (ts : List Text) → among m (cond b [] ts) ≡ (not b && among m ts)
unfolding among
choose m true ts = refl
choose m false ts = refl

-- the words that a comma separates, unless the text is `-`
pub listed : (m w : Text) → among m (methods_of w) ≡ (not (same w (codes "-")) && list_any (same m) (split 44 w))
listed m w = choose m (same w (codes "-")) (split 44 w) ∙ ap (λ b. not (same w (codes "-")) && b) (sym (any_among m (split 44 w)))
