-- Tests of every byte of a text, and of whether it has any.
use Rattle.std.proofs.Common.{◌≡◌, ℕ, Bool, true, false, ◌&&◌, eqb, [], ◌∷◌, length, refl, ap, arith}
use Rattle.std.proofs.lemmas.Bool.{eqb-true}
use Rattle.std.specs.List.{list_all}
use Rattle.text.specs.Bytes.{Text, all, nonempty}

pub all_listed : (p : ℕ → Bool) (t : Text) → list_all p t ≡ all p t
unfolding all
all_listed p [] = refl
all_listed p (c ∷ t) = ap (λ b. p c && b) (all_listed p t)

pub some_bytes : (t : Text) → eqb (length t) 0 ≡ false → nonempty t ≡ true
unfolding nonempty
some_bytes [] e = cc
some_bytes (c ∷ t) e = refl

pub no_bytes : (t : Text) → eqb (length t) 0 ≡ true → nonempty t ≡ false
unfolding nonempty
no_bytes [] e = refl
no_bytes (c ∷ t) e = absurd (omega (arith, eqb-true (length (c ∷ t)) 0 e))
