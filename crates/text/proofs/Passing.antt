-- Tests that passed, and tests on bytes: what passes one passes another.
use Rattle.std.proofs.Common.{◌≡◌, ℕ, zero, suc, Bool, true, false, not, ◌&&◌, T, eqb, [], ◌∷◌, ◌++◌, take, sym, refl, ap, ap₂, ◌∙◌}
use Rattle.std.proofs.lemmas.Bool.{eq-eqb, eqb-true, ne_eqb, both_ways}
use Rattle.text.specs.Bytes.{Text, all, same, clean, line_end}
-- what a test says that passed or failed, and both of two tests: the library's, passed on from here
pub use lib.Ieee.Bits.{is_true, is_false}
pub use lib.Ieee.Fits.{and_i, and_l, and_r}

-- neither CR nor LF
abbrev pub not_end : ℕ → Bool
not_end c = not (line_end c)

-- a byte that passes a test is none that fails it
pub differs : (p : ℕ → Bool) (b c : ℕ) → p b ≡ false → T (p c) → eqb c b ≡ false
differs p b c e h = ne_eqb c b (λ f. both_ways (p b) e (ap p (sym f) ∙ is_true (p c) h))

-- what holds of every byte
pub all_weaker : (p q : ℕ → Bool) → ((c : ℕ) → T (p c) → T (q c)) → (t : Text) → T (all p t) → T (all q t)
unfolding all
all_weaker p q f [] h = tt
all_weaker p q f (c ∷ t) h = and_i (q c) (all q t) (f c (and_l (p c) (all p t) h)) (all_weaker p q f t (and_r (p c) (all p t) h))

pub all_append : (p : ℕ → Bool) (s t : Text) → T (all p s) → T (all p t) → T (all p (s ++ t))
unfolding all
all_append p [] t g h = h
all_append p (c ∷ s) t g h = and_i (p c) (all p (s ++ t)) (and_l (p c) (all p s) g) (all_append p s t (and_r (p c) (all p s) g) h)

pub all_take : (p : ℕ → Bool) (n : ℕ) (t : Text) → T (all p t) → T (all p (take n t))
unfolding all
all_take p zero t h = tt
all_take p (suc n) [] h = tt
all_take p (suc n) (c ∷ t) h = and_i (p c) (all p (take n t)) (and_l (p c) (all p t) h) (all_take p n t (and_r (p c) (all p t) h))

-- a text of bytes that pass a test which CR and LF fail
pub clean_by : (p : ℕ → Bool) → p 13 ≡ false → p 10 ≡ false → (t : Text) → T (all p t) → T (clean t)
clean_by p cr lf t h = all_weaker p not_end (λ c h. rw (differs p 13 c cr h, differs p 10 c lf h) tt) t h

-- one test follows from another
pub so : (a b : Bool) → (a ≡ true → b ≡ true) → T a → T b
so true b f h = rw (f refl) tt
so false b f h = absurd h

-- the same texts
pub same_self : (t : Text) → same t t ≡ true
unfolding same
same_self [] = refl
same_self (c ∷ t) = ap (λ b. b && same t t) (eq-eqb c c refl) ∙ same_self t

pub same_is : (s t : Text) → same s t ≡ true → s ≡ t
unfolding same
same_is [] [] e = refl
same_is [] (d ∷ t) e = absurd (both_ways false refl e)
same_is (c ∷ s) [] e = absurd (both_ways false refl e)
same_is (c ∷ s) (d ∷ t) e =
    let h : T (eqb c d && same s t) = rw e tt in
    ap₂ (λ x xs. x ∷ xs) (eqb-true c d (is_true (eqb c d) (and_l (eqb c d) (same s t) h))) (same_is s t (is_true (same s t) (and_r (eqb c d) (same s t) h)))
