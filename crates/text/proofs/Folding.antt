-- Names in lower case and squeezed values: how long they are, one byte of each, and what they leave as it is.
use Rattle.std.proofs.Common.{◌≡◌, ℕ, suc, ◌≤◌, Bool, true, false, not, T, [], ◌∷◌, map, length, Some, None, Option, refl, ap, ap₂, arith}
use Rattle.std.proofs.lemmas.List.{nil_from_length}
use Rattle.std.proofs.lemmas.Bool.Decides.{nat_tests}
use Rattle.std.specs.Char.{to_ascii_lowercase}
use Rattle.text.specs.Bytes.{Text, upper, lower, lowered, blank, all}
use Rattle.text.specs.Trims.{before, squeezed_byte, squeezed_after}
use Rattle.text.proofs.Passing.{is_false, and_l, and_r}

pub length_lowered : (t : Text) → length (lowered t) ≡ length t
unfolding lowered
length_lowered [] = refl
length_lowered (c ∷ t) = ap suc (length_lowered t)

-- as the library makes it
pub lowered_is : (t : Text) → lowered t ≡ map to_ascii_lowercase t
unfolding lowered
lowered_is [] = refl
lowered_is (c ∷ t) = let one : lower c ≡ to_ascii_lowercase c = grind (arith, nat_tests) in ap₂ (λ d ds. d ∷ ds) one (lowered_is t)

-- the first byte of a value, and what follows it
pub squeezed_first : (run : Bool) (c : ℕ) (s t : Text) → s ≡ c ∷ t → squeezed_after run s ≡ before (squeezed_byte run c) (squeezed_after (blank c) t)
unfolding squeezed_after
squeezed_first run c s t e = ap (squeezed_after run) e

pub squeezed_none : (run : Bool) (t : Text) → length t ≡ 0 → squeezed_after run t ≡ []
unfolding squeezed_after
squeezed_none run t e = ap (squeezed_after run) (nil_from_length t e)

length_before : (o : Option ℕ) (n : ℕ) (t : Text) → length t ≤ n → length (before o t) ≤ suc n
length_before None n t h = omega arith
length_before (Some c) n t h = omega arith

-- squeezing makes nothing longer
pub length_squeezed : (run : Bool) (t : Text) → length (squeezed_after run t) ≤ length t
unfolding squeezed_after
length_squeezed run [] = omega arith
length_squeezed run (c ∷ t) = length_before (squeezed_byte run c) (length t) (squeezed_after (blank c) t) (length_squeezed (blank c) t)

-- a text without capitals is in lower case
lower_same : (c : ℕ) → upper c ≡ false → lower c ≡ c
lower_same c e = rw e refl

pub lowered_same : (t : Text) → T (all (λ c. not (upper c)) t) → lowered t ≡ t
unfolding lowered all
lowered_same [] h = refl
lowered_same (c ∷ t) h = rw (lower_same c (is_false (upper c) (and_l (not (upper c)) (all (λ d. not (upper d)) t) h))) (ap (λ u. c ∷ u) (lowered_same t (and_r (not (upper c)) (all (λ d. not (upper d)) t) h)))

-- and so is one in lower case
lower_lower : (c : ℕ) → lower (lower c) ≡ lower c
lower_lower c = grind (arith, nat_tests)

pub lowered_lowered : (t : Text) → lowered (lowered t) ≡ lowered t
unfolding lowered
lowered_lowered [] = refl
lowered_lowered (c ∷ t) = rw (lower_lower c) (ap (λ u. lower c ∷ u) (lowered_lowered t))

-- a text without blanks is squeezed
pub squeezed_bare : (run : Bool) (t : Text) → T (all (λ c. not (blank c)) t) → squeezed_after run t ≡ t
unfolding squeezed_after all
squeezed_bare run [] h = refl
squeezed_bare run (c ∷ t) h =
    let bare = is_false (blank c) (and_l (not (blank c)) (all (λ d. not (blank d)) t) h) in
    rw bare (ap (λ u. c ∷ u) (squeezed_bare false t (and_r (not (blank c)) (all (λ d. not (blank d)) t) h)))

-- and so is a squeezed one
twice : (run b : Bool) (c : ℕ) (t : Text) → blank c ≡ b → ((r : Bool) → squeezed_after r (squeezed_after r t) ≡ squeezed_after r t) → squeezed_after run (squeezed_after run (c ∷ t)) ≡ squeezed_after run (c ∷ t)
unfolding squeezed_after
twice true true c t e more = rw e (more true)
twice false true c t e more = rw e (ap (λ u. 32 ∷ u) (more true))
twice run false c t e more = rw (e, e) (ap (λ u. c ∷ u) (more false))

pub squeezed_squeezed : (run : Bool) (t : Text) → squeezed_after run (squeezed_after run t) ≡ squeezed_after run t
unfolding squeezed_after
squeezed_squeezed run [] = refl
squeezed_squeezed run (c ∷ t) = twice run (blank c) c t refl (λ r. squeezed_squeezed r t)
