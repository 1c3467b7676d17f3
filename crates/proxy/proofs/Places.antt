-- Places of a list of which one is changed, and slots of a slab of which one is written.
use Rattle.std.proofs.Common.{◌≡◌, ◌≢◌, ◌⊎◌, inl, inr, ℕ, zero, suc, ◌<◌, ◌≤◌, Bool, true, false, ltb, List, [], ◌∷◌, length, set, Some, None, Option, sym, refl, ap, ◌∙◌, slice_get}
use Rattle.std.proofs.lemmas.Bool.{ltb-true, ltb-false}
use Rattle.std.proofs.lemmas.Bool.Decides.{eqb_tells}
use Rattle.std.proofs.lemmas.Option.{slice_get_past}
use Rattle.proxy.specs.Model.{changed, changed_by}

-- two numbers are the same or not, and one is less than the other or not
told_same : {P : Type 0} {a b : ℕ} {t : Bool} → ((t ≡ true) × (a ≡ b)) ⊎ ((t ≡ false) × (a ≢ b)) → (a ≡ b → P) → (a ≢ b → P) → P
told_same (inl h) f g = f h.1
told_same (inr h) f g = g h.1

pub same_or : {P : Type 0} (a b : ℕ) → (a ≡ b → P) → (a ≢ b → P) → P
same_or a b f g = told_same (eqb_tells a b) f g

told_less : {P : Type 0} (a b : ℕ) (t : Bool) → ltb a b ≡ t → (a < b → P) → (b ≤ a → P) → P
told_less a b true e f g = f (ltb-true a b e)
told_less a b false e f g = g (ltb-false a b e)

pub less_or : {P : Type 0} (a b : ℕ) → (a < b → P) → (b ≤ a → P) → P
less_or a b f g = told_less a b (ltb a b) refl f g

module _ {A : Type 0} where
  some_is : (x y : A) → Some x ≡ Some y → x ≡ y
  some_is x y e = cc

  pub set_here : (xs : List A) (i : ℕ) (x y : A) → slice_get xs i ≡ Some x → slice_get (set xs i y) i ≡ Some y
  set_here [] i x y h = absurd (cc)
  set_here (z ∷ zs) zero x y h = refl
  set_here (z ∷ zs) (suc i) x y h = set_here zs i x y h

  pub set_there : (xs : List A) (i k : ℕ) (y : A) → k ≢ i → slice_get (set xs i y) k ≡ slice_get xs k
  set_there [] i k y h = refl
  set_there (z ∷ zs) zero zero y h = absurd (h refl)
  set_there (z ∷ zs) zero (suc k) y h = refl
  set_there (z ∷ zs) (suc i) zero y h = refl
  set_there (z ∷ zs) (suc i) (suc k) y h = set_there zs i k y (λ e. h (ap suc e))

  pub set_none : (xs : List A) (i : ℕ) (y : A) → slice_get xs i ≡ None → set xs i y ≡ xs
  set_none [] i y h = refl
  set_none (z ∷ zs) zero y h = absurd (cc)
  set_none (z ∷ zs) (suc i) y h = ap (λ ws. z ∷ ws) (set_none zs i y h)

  pub changed_here : (f : A → A) (xs : List A) (i : ℕ) (x : A) → slice_get xs i ≡ Some x → slice_get (changed f i xs) i ≡ Some (f x)
  changed_here f xs i x h = ap (λ o. slice_get (changed_by f xs i o) i) h ∙ set_here xs i x (f x) h

  changed_by_there : (f : A → A) (xs : List A) (i k : ℕ) (o : Option A) → k ≢ i → slice_get (changed_by f xs i o) k ≡ slice_get xs k
  changed_by_there f xs i k None h = refl
  changed_by_there f xs i k (Some x) h = set_there xs i k (f x) h

  pub changed_there : (f : A → A) (xs : List A) (i k : ℕ) → k ≢ i → slice_get (changed f i xs) k ≡ slice_get xs k
  changed_there f xs i k h = changed_by_there f xs i k (slice_get xs i) h

  pub changed_none : (f : A → A) (xs : List A) (i : ℕ) → slice_get xs i ≡ None → changed f i xs ≡ xs
  changed_none f xs i h = ap (λ o. changed_by f xs i o) h

  -- a write behind the end changes nothing
  pub set_past : (xs : List A) (i : ℕ) (y : A) → length xs ≤ i → set xs i y ≡ xs
  set_past xs i y h = set_none xs i y (slice_get_past xs i h)

  -- the changed element, where there is one
  abbrev pub mapped : (A → A) → Option A → Option A
  mapped f None = None
  mapped f (Some x) = Some (f x)

  changed_by_map : (f : A → A) (xs : List A) (i : ℕ) (o : Option A) → slice_get xs i ≡ o → slice_get (changed_by f xs i o) i ≡ mapped f o
  changed_by_map f xs i None e = e
  changed_by_map f xs i (Some x) e = set_here xs i x (f x) e

  pub changed_map : (f : A → A) (xs : List A) (i : ℕ) → slice_get (changed f i xs) i ≡ mapped f (slice_get xs i)
  changed_map f xs i = changed_by_map f xs i (slice_get xs i) refl

  -- a write of what stands there
  pub set_same : (xs : List A) (i : ℕ) (x : A) → slice_get xs i ≡ Some x → set xs i x ≡ xs
  set_same [] i x e = absurd (cc)
  set_same (z ∷ zs) zero x e = ap (λ w. w ∷ zs) (some_is x z (sym e))
  set_same (z ∷ zs) (suc i) x e = ap (λ ws. z ∷ ws) (set_same zs i x e)
