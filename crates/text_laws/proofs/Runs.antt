-- A squeezed value is what the laws say.
use Rattle.std.proofs.Common.{◌≡◌, ℕ, true, not, T, [], ◌∷◌, ◌++◌, refl, ap, ◌∙◌, ⊎_elim}
use Rattle.std.proofs.lemmas.Bool.{cases_Bool}
use Rattle.text.specs.Bytes.{Text, blank, all}
use Rattle.text.specs.Trims.{squeezed_after, squeezed}
use Rattle.text_laws.specs.Laws.{blank_first, SqueezesTo, none, byte, run, Squeezes}
use Rattle.text.proofs.Passing.{is_true, is_false, and_i, and_l, and_r}
use Rattle.text_laws.proofs.Fronts.{exactly}

-- nothing is kept of what is left of a run
run_off : (cs t : Text) → T (all blank cs) → T (not (blank_first t)) → squeezed_after true (cs ++ t) ≡ squeezed t
unfolding all blank_first squeezed_after
run_off [] [] g h = refl
run_off [] (c ∷ t) g h = rw (is_false (blank c) h)
run_off (c ∷ cs) t g h = rw (is_true (blank c) (and_l (blank c) (all blank cs) g)) (run_off cs t (and_r (blank c) (all blank cs) g) h)

only : (t v : Text) → SqueezesTo t v → squeezed t ≡ v
unfolding squeezed_after
only t v none = refl
only t v (byte {c} h s) = rw (is_false (blank c) h) (ap (λ u. c ∷ u) (only _ _ s))
only t v (run {c} cs u b bs h s) = rw (is_true (blank c) b) (ap (λ w. 32 ∷ w) (run_off cs u bs h ∙ only _ _ s))

-- one more blank in front
more : (c : ℕ) (t v : Text) → T (blank c) → SqueezesTo t v → (w : Text) × SqueezesTo (c ∷ t) w
unfolding all blank_first
more c t v b none = (32 ∷ [], run [] [] b tt tt none)
more c t v b (byte {c = d} {t = u} {v = w} h s) = (32 ∷ d ∷ w, run [] (d ∷ u) b tt h (byte h s))
more c t v b (run {c = d} ds u {v = w} e es h s) = (32 ∷ w, run (d ∷ ds) u b (and_i (blank d) (all blank ds) e es) h s)

some : (t : Text) → (v : Text) × SqueezesTo t v
some [] = ([], none)
some (c ∷ t) =
    let s = some t in
    ⊎_elim (λ e. more c t s.0 (rw e tt) s.1) (λ e. (c ∷ s.0, byte (rw e tt) s.1)) (cases_Bool (blank c))

pub squeezes : Squeezes
squeezes = exactly squeezed SqueezesTo some only
