-- A text cut where a test first fails, and when a function is what a relation says.
use Rattle.std.proofs.Common.{◌≡◌, ℕ, Bool, true, not, T, [], ◌∷◌, ◌++◌, length, sym, refl, ap, ◌∙◌, subst, ⊎_elim, arith}
use Rattle.std.proofs.lemmas.Bool.{cases_Bool}
use Rattle.std.specs.List.{prefix_len}
use Rattle.text.specs.Bytes.{Text, all}
use Rattle.text.proofs.Passing.{is_true, is_false, and_l, and_r}
use Rattle.text_laws.specs.Laws.{Iff}

-- a function is what a relation says where every text is related to something, and to nothing but the function's value
pub exactly : {A : Type 0} (f : Text → A) (R : Text → A → Type 0) → ((t : Text) → (a : A) × R t a) → ((t : Text) (a : A) → R t a → f t ≡ a) → (t : Text) (a : A) → Iff (f t ≡ a) (R t a)
exactly f R some only t a = (λ e. subst (R t) (sym (only t (some t).0 (some t).1) ∙ e) (some t).1, only t a)

-- the first byte, where there is one, fails the test
abbrev pub stops : (ℕ → Bool) → Text → Bool
stops p [] = true
stops p (c ∷ t) = not (p c)

-- a front that passes, and a rest that does not go on so
pub record Split (p : ℕ → Bool) (t : Text) : Type 0 where
  pub front : Text
  pub rest : Text
  pub passes : T (all p front)
  pub ends : T (stops p rest)
  pub joined : t ≡ front ++ rest

-- every text is so
pub split : (p : ℕ → Bool) (t : Text) → Split p t
unfolding all
split p [] = record { front = []; rest = []; passes = tt; ends = tt; joined = refl }
split p (c ∷ t) =
    let s = split p t in
    ⊎_elim (λ e. record { front = c ∷ s.front; rest = s.rest; passes = rw e s.passes; ends = s.ends; joined = ap (λ u. c ∷ u) s.joined })
    (λ e. record { front = []; rest = c ∷ t; passes = tt; ends = rw e tt; joined = refl }) (cases_Bool (p c))

-- and its front is what is counted
pub leading_at : (p : ℕ → Bool) (l s : Text) → T (all p l) → T (stops p s) → prefix_len p (l ++ s) ≡ length l
unfolding all
leading_at p [] [] g h = refl
leading_at p [] (c ∷ s) g h = rw (is_false (p c) h)
leading_at p (c ∷ l) s g h = let more = leading_at p l s (and_r (p c) (all p l) g) h in rw (is_true (p c) (and_l (p c) (all p l) g)) (omega arith)
