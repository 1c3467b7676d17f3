-- What one byte of a line decides for a cut, and how the pieces of a text follow from a cut at the mark between them.
use Rattle.std.proofs.Common.{◌≡◌, ℕ, suc, ◌+◌, ◌<◌, Bool, true, false, not, cond, ◌&&◌, ◌||◌, T, eqb, ltb, ◌==◌, List, [], ◌∷◌, ◌++◌, length, take, drop, Some, None, Option, sym, refl, ap, ◌∙◌, subst, arith}
use lib.Pointwise.{pointwise}
use Rattle.std.specs.List.{position}
use Rattle.std.specs.Option.{MatchOption, option_map}
use Rattle.std.proofs.lemmas.Bool.{eq-eqb, cond-true, cond-false}
use Rattle.text.specs.Bytes.{Text, all}
use Rattle.text.proofs.Passing.{and_l, and_r, differs}
use Rattle.text.specs.Marks.{rest_after, before, cut_at, split, on_first}

-- what follows a word is what is left when it is stripped off
one_stripped : (b p : Bool) (o : Option Text) (t : Text) → o ≡ cond p (Some t) None → cond b o None ≡ cond (b && p) (Some t) None
one_stripped true p o t e = e
one_stripped false p o t e = refl

stripped : (ws cs : Text) → cond (pointwise (λ c w. c == w) (take (length ws) cs) ws) (Some (drop (length ws) cs)) None ≡ rest_after ws cs
unfolding rest_after
stripped [] cs = refl
stripped (w ∷ ws) [] = refl
stripped (w ∷ ws) (c ∷ cs) = sym (one_stripped (c == w) (pointwise (λ c w. c == w) (take (length ws) cs) ws) (rest_after ws cs) (drop (length ws) cs) (sym (stripped ws cs)))

found : {A : Type 0} (P : A → Type 0) (v : A → Text) (p : Bool) (t : Text) (r : Option A) → MatchOption r (p ≡ false) (λ x. (p ≡ true) × (v x ≡ t) × P x) → option_map v r ≡ cond p (Some t) None
found P v p t None h = rw h refl
found P v p t (Some x) h = rw h.0 (ap Some h.1)

pub after_stripped : {A : Type 0} (P : A → Type 0) (v : A → Text) (ws cs : Text) (r : Option A) → MatchOption r (pointwise (λ c w. c == w) (take (length ws) cs) ws ≡ false) (λ x. (pointwise (λ c w. c == w) (take (length ws) cs) ws ≡ true) × (v x ≡ drop (length ws) cs) × P x)
    → option_map v r ≡ rest_after ws cs
after_stripped P v ws cs r h = found P v (pointwise (λ c w. c == w) (take (length ws) cs) ws) (drop (length ws) cs) r h ∙ stripped ws cs

-- a cut, with a byte put in front of what stands before the mark
abbrev front : ℕ → Option (Text × Text) → Option (Text × Text)
front c o = option_map (λ p. (c ∷ p.0, p.1)) o

-- a cut where the mark stands behind n bytes, inside the text
abbrev cut_behind : ℕ → Text → Option (Text × Text)
cut_behind n t = cond (ltb n (length t)) (Some (take n t, drop (n + 1) t)) None

one_later : (n c : ℕ) (t : Text) → cut_behind (1 + n) (c ∷ t) ≡ cond (ltb n (length t)) (Some (c ∷ take n t, drop (n + 1) t)) None
one_later n c t =
    let a : 1 + n ≡ suc n = omega arith in
    let b : suc n + 1 ≡ suc (n + 1) = omega arith in
    let d : ltb (suc n) (suc (length t)) ≡ ltb n (length t) = grind arith in
    rw (a, b, d) refl

later : (b : Bool) (c : ℕ) (p : Text × Text) → front c (cond b (Some p) None) ≡ cond b (Some (c ∷ p.0, p.1)) None
later true c p = refl
later false c p = refl

one_cut : (b : Bool) (n c : ℕ) (t : Text) (o : Option (Text × Text)) → o ≡ cut_behind n t → cond b (Some ([], t)) (front c o) ≡ cut_behind (cond (not b) (1 + n) 0) (c ∷ t)
one_cut true n c t o e = let d : ltb 0 (suc (length t)) ≡ true = grind arith in rw d refl
one_cut false n c t o e = ap (front c) e ∙ later (ltb n (length t)) c (take n t, drop (n + 1) t) ∙ sym (one_later n c t)

placed : (m : ℕ) (t : Text) → cut_at m t ≡ cut_behind (before m t) t
unfolding cut_at
placed m [] = refl
placed m (c ∷ t) = one_cut (eqb c m) (before m t) c t (cut_at m t) (placed m t)

-- the cut at a place, if there is one
abbrev pub cut_where : Text → Option ℕ → Option (Text × Text)
cut_where t o = option_map (λ n. (take n t, drop (n + 1) t)) o

chosen : (b : Bool) (n : ℕ) (t : Text) → cut_where t (cond b (Some n) None) ≡ cond b (Some (take n t, drop (n + 1) t)) None
chosen true n t = refl
chosen false n t = refl

-- a cut is made at the first place of the mark
pub cut_found : (m : ℕ) (t : Text) (o : Option ℕ) → o ≡ position (λ c. c == m) t → cut_where t o ≡ cut_at m t
cut_found m t o e = ap (cut_where t) e ∙ chosen (ltb (before m t) (length t)) (before m t) t ∙ sym (placed m t)

-- a text of bytes that pass a test which the mark fails, and then the mark: the text is what stands before it
pub cut_at_so : (m : ℕ) (p : ℕ → Bool) → p m ≡ false → (t s : Text) → T (all p t) → cut_at m (t ++ (m ∷ s)) ≡ Some (t, s)
unfolding all cut_at
cut_at_so m p e [] s h = cond-true (eqb m m) _ _ (eq-eqb m m refl)
cut_at_so m p e (c ∷ t) s h = cond-false (eqb c m) _ _ (differs p m c e (and_l (p c) (all p t) h)) ∙ ap (option_map (λ q. (c ∷ q.0, q.1))) (cut_at_so m p e t s (and_r (p c) (all p t) h))

-- the pieces of a text that a cut takes apart, or leaves whole
abbrev pub pieced : ℕ → Text → Option (Text × Text) → List Text
pieced m t None = t ∷ []
pieced m t (Some p) = p.0 ∷ split m p.1

pieced_on : (m c : ℕ) (cs : Text) (o : Option (Text × Text)) → on_first c (pieced m cs o) ≡ pieced m (c ∷ cs) (option_map (λ p. (c ∷ p.0, p.1)) o)
pieced_on m c cs None = refl
pieced_on m c cs (Some p) = refl

one : (b : Bool) (m c : ℕ) (cs : Text) → split m cs ≡ pieced m cs (cut_at m cs) → cond b ([] ∷ split m cs) (on_first c (split m cs)) ≡ pieced m (c ∷ cs) (cond b (Some ([], cs)) (option_map (λ p. (c ∷ p.0, p.1)) (cut_at m cs)))
one true m c cs e = refl
one false m c cs e = ap (on_first c) e ∙ pieced_on m c cs (cut_at m cs)

pub split_cut : (m : ℕ) (t : Text) → split m t ≡ pieced m t (cut_at m t)
unfolding split cut_at
split_cut m [] = refl
split_cut m (c ∷ cs) = one (eqb c m) m c cs (split_cut m cs)

-- what a cut leaves is shorter
abbrev Shorter : ℕ → Option (Text × Text) → Type 0
Shorter n None = Unit {0}
Shorter n (Some p) = length p.1 < n

one_shorter : (b : Bool) (c : ℕ) (cs : Text) (o : Option (Text × Text)) → Shorter (length cs) o → Shorter (suc (length cs)) (cond b (Some ([], cs)) (option_map (λ p. (c ∷ p.0, p.1)) o))
one_shorter true c cs o h = omega arith
one_shorter false c cs None h = tt
one_shorter false c cs (Some p) h = omega arith

cut_shorter : (m : ℕ) (t : Text) → Shorter (length t) (cut_at m t)
unfolding cut_at
cut_shorter m [] = tt
cut_shorter m (c ∷ cs) = one_shorter (eqb c m) c cs (cut_at m cs) (cut_shorter m cs)

pub shorter : (m : ℕ) (t before after : Text) → Some (before, after) ≡ cut_at m t → length after < length t
shorter m t before after e = subst (λ (o : Option (Text × Text)). Shorter (length t) o) (sym e) (cut_shorter m t)

-- a choice whose second is no
pub or_none : (b : Bool) → (b || false) ≡ b
or_none true = refl
or_none false = refl
