-- How the verdict on pieces follows from the piece that comes first.
use Rattle.std.proofs.Common.{◌≡◌, ℕ, zero, suc, ◌-◌, ◌<◌, cond, List, [], ◌∷◌, Ok, Err, refl, ap, arith}
use Rattle.text.specs.Bytes.{Text}
use Rattle.script.specs.Words.{good_word}
use Rattle.script.specs.Series.{judged}
use Rattle.script.specs.declared.series.Series.{Series}

-- no piece is left
pub judged_none : {X : Type 0} (s : Series) (x : X) (k : ℕ) → judged s x k [] ≡ Ok x
unfolding judged
judged_none s x zero = refl
judged_none s x (suc k) = refl

-- a piece more, and one too many
pub judged_one : {X : Type 0} (s : Series) (x : X) (k : ℕ) (t : Text) (ts : List Text) → 0 < k → judged s x k (t ∷ ts) ≡ cond (good_word s.word t) (judged s x (k - 1) ts) (Err s.wrong)
unfolding judged
judged_one s x zero t ts h = absurd (omega arith)
judged_one s x (suc k) t ts h = let e : k ≡ suc k - 1 = omega arith in ap (λ j. cond (good_word s.word t) (judged s x j ts) (Err s.wrong)) e

pub judged_over : {X : Type 0} (s : Series) (x : X) (k : ℕ) (t : Text) (ts : List Text) → k ≡ 0 → judged s x k (t ∷ ts) ≡ Err s.too_many
unfolding judged
judged_over s x zero t ts h = refl
judged_over s x (suc k) t ts h = absurd (omega arith)
