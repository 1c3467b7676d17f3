-- A list with one element changed: what stands at each place.
use Rattle.std.proofs.Common.{◌≡◌, ◌≢◌, ℕ, zero, suc, ◌<◌, List, [], ◌∷◌, length, replicate, set, Some, None, Option, sym, refl, ap, ◌∙◌, subst, ⊎_elim, length-set, arith}
use Rattle.std.specs.Prelude.{slice_get}
use Rattle.std.proofs.lemmas.Bool.{cases_eq}
use Rattle.proxy.specs.Model.{changed_by, changed}

module _ {A : Type 0} where
  set_here : (xs : List A) (i : ℕ) (x y : A) → slice_get xs i ≡ Some x → slice_get (set xs i y) i ≡ Some y
  set_here [] i x y h = cc
  set_here (z ∷ xs) zero x y h = refl
  set_here (z ∷ xs) (suc i) x y h = set_here xs i x y h

  set_elsewhere : (xs : List A) (i k : ℕ) (y : A) → k ≢ i → slice_get (set xs i y) k ≡ slice_get xs k
  set_elsewhere [] i k y n = refl
  set_elsewhere (z ∷ xs) zero zero y n = absurd (n refl)
  set_elsewhere (z ∷ xs) zero (suc k) y n = refl
  set_elsewhere (z ∷ xs) (suc i) zero y n = refl
  set_elsewhere (z ∷ xs) (suc i) (suc k) y n = set_elsewhere xs i k y (λ e. n (ap suc e))

  module _ (f : A → A) (xs : List A) (i : ℕ) where
    pub changed_here : (x : A) → slice_get xs i ≡ Some x → slice_get (changed f i xs) i ≡ Some (f x)
    changed_here x h = ap (λ o. slice_get (changed_by f xs i o) i) h ∙ set_here xs i x (f x) h

    elsewhere_by : (k : ℕ) (o : Option A) → k ≢ i → slice_get (changed_by f xs i o) k ≡ slice_get xs k
    elsewhere_by k None n = refl
    elsewhere_by k (Some x) n = set_elsewhere xs i k (f x) n

    pub changed_elsewhere : (k : ℕ) → k ≢ i → slice_get (changed f i xs) k ≡ slice_get xs k
    changed_elsewhere k n = elsewhere_by k (slice_get xs i) n

    long_by : (o : Option A) → length (changed_by f xs i o) ≡ length xs
    long_by None = refl
    long_by (Some x) = length-set xs i (f x)

    pub changed_long : length (changed f i xs) ≡ length xs
    changed_long = long_by (slice_get xs i)

  -- P holds of each element and its place
  abbrev pub Each : (ℕ → A → Type 0) → List A → Type 0
  Each P xs = (k : ℕ) (x : A) → slice_get xs k ≡ Some x → P k x

  same_some : (x y : A) → ◌≡◌ {A = Option A} (Some x) (Some y) → x ≡ y
  same_some x y e = cc

  module _ (P Q : ℕ → A → Type 0) (f : A → A) (xs : List A) (i : ℕ) where
    at_place : (there : (x : A) → slice_get xs i ≡ Some x → P i x → Q i (f x)) → Each P xs → (y : A) (o : Option A) → slice_get xs i ≡ o → slice_get (changed_by f xs i o) i ≡ Some y → Q i y
    at_place there h y None g e = cc
    at_place there h y (Some x) g e = subst (Q i) (same_some (f x) y (sym (set_here xs i x (f x) g) ∙ e)) (there x g (h i x g))

    -- what holds where one element was changed
    pub each_changed : ((x : A) → slice_get xs i ≡ Some x → P i x → Q i (f x)) → ((k : ℕ) (x : A) → k ≢ i → slice_get xs k ≡ Some x → P k x → Q k x) → Each P xs → Each Q (changed f i xs)
    each_changed there others h k y e =
        ⊎_elim (λ same. subst (λ j. Q j y) (sym same) (at_place there h y (slice_get xs i) refl (subst (λ j. slice_get (changed f i xs) j ≡ Some y) same e)))
        (λ n. let before : slice_get xs k ≡ Some y = sym (changed_elsewhere f xs i k n) ∙ e in others k y n before (h k y before)) (cases_eq k i)

  -- an element stands at each place that there is
  pub stands : (xs : List A) (k : ℕ) → k < length xs → (x : A) × (slice_get xs k ≡ Some x)
  stands [] k h = absurd (omega arith)
  stands (x ∷ xs) zero h = (x, refl)
  stands (x ∷ xs) (suc k) h = stands xs k (omega arith)

  pub replicated : (n k : ℕ) (x y : A) → slice_get (replicate n x) k ≡ Some y → x ≡ y
  replicated zero k x y e = cc
  replicated (suc n) zero x y e = cc
  replicated (suc n) (suc k) x y e = replicated n k x y e
