-- The front of a text that passes a test, what follows it, and texts with something in them.
use Rattle.std.proofs.Common.{◌≡◌, ℕ, ◌+◌, ◌-◌, ◌<◌, ◌≤◌, Bool, not, T, eqb, [], ◌∷◌, ◌++◌, length, get_or, take, sym, refl, ap, ◌∙◌, ⊎_elim, append-nil, arith}
use lib.Seq.{take-append-add}
use Rattle.std.specs.List.{prefix_len}
use Rattle.std.proofs.lemmas.Bool.{cases_lt, eqb-true, not-false}
use Rattle.std.proofs.lemmas.List.{take_at, take_all, take-append-le, take-take, length-take-le}
use Rattle.std.proofs.lemmas.List.Sums.{prefix_len-le-length, prefix_len_stops}
use Rattle.text.specs.Bytes.{Text, all, nonempty}
use Rattle.text.specs.Marks.{before}
use Rattle.text.proofs.Passing.{and_r, all_take}
use Rattle.text_laws.proofs.Fronts.{split, leading_at}

-- what is counted passes
pub all_leading : (p : ℕ → Bool) (t : Text) → T (all p (take (prefix_len p t) t))
all_leading p t =
    let s = split p t in
    let n = leading_at p s.front s.rest s.passes s.ends in
    rw (s.joined, n, take_at s.front s.rest (length s.front) refl) s.passes

-- and so does a front of that
pub leads : (p : ℕ → Bool) (t : Text) (n : ℕ) → n ≤ prefix_len p t → T (all p (take n t)) × (length (take n t) ≡ n)
leads p t n h = (rw (take-take n (prefix_len p t) t h) at (all_take p n (take (prefix_len p t) t) (all_leading p t)), length-take-le n t (omega (arith, prefix_len-le-length p t)))

-- what holds of all bytes holds of those in front, and of those behind
pub all_front : (p : ℕ → Bool) (s t : Text) → T (all p (s ++ t)) → T (all p s)
all_front p s t h = rw (take_at s t (length s) refl) at (all_take p (length s) (s ++ t) h)

pub all_behind : (p : ℕ → Bool) (s t : Text) → T (all p (s ++ t)) → T (all p t)
unfolding all
all_behind p [] t h = h
all_behind p (c ∷ s) t h = all_behind p s t (and_r (p c) (all p (s ++ t)) h)

-- the front of two texts joined
pub take_joined : (n : ℕ) (s t : Text) → take n (s ++ t) ≡ take n s ++ take (n - length s) t
take_joined n s t =
    ⊎_elim
    (λ (h : n < length s).
    let le : n ≤ length s = omega arith in
    let none : n - length s ≡ 0 = omega arith in
    take-append-le n s t le ∙ sym (append-nil (take n s)) ∙ ap (λ k. take n s ++ take k t) (sym none))
    (λ (h : length s ≤ n).
    let far : n ≡ length s + (n - length s) = omega arith in
    ap (λ k. take k (s ++ t)) far ∙ take-append-add s t (n - length s) ∙ ap (λ u. u ++ take (n - length s) t) (sym (take_all n s h)))
    (cases_lt n (length s))

-- a mark stands where it was found
pub mark_at : (m : ℕ) (t : Text) → before m t < length t → get_or t (before m t) 0 ≡ m
mark_at m t h = eqb-true (get_or t (before m t) 0) m (not-false (eqb (get_or t (before m t) 0) m) (prefix_len_stops (λ c. not (eqb c m)) t 0 h))

-- some bytes
pub nonempty_by : (t : Text) → 0 < length t → T (nonempty t)
unfolding nonempty
nonempty_by [] h = absurd (omega arith)
nonempty_by (c ∷ t) h = tt

pub nonempty_long : (t : Text) → T (nonempty t) → 0 < length t
unfolding nonempty
nonempty_long [] h = absurd h
nonempty_long (c ∷ t) h = omega arith
