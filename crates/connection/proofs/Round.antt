-- A ring of 64 places, read round its end from one place on.
use Rattle.std.proofs.Common.{◌≡◌, ℕ, zero, suc, ◌+◌, ◌-◌, ◌%◌, ◌<◌, List, [], ◌∷◌, ◌++◌, length, get_or, drop, set, sym, ap, ◌∙◌, inl, inr, arith}
use Rattle.std.proofs.lemmas.List.{length-take, length-drop, length-append, length-set, get_or_append_left, get_or-append_right, get_or-take, get_or-drop, get_or-set_same, get_or-set_other, get_or_push, get_or_default, same_lists}
use Rattle.std.proofs.lemmas.Bool.{cases_lt, cases_eq}
use Rattle.std.proofs.lemmas.Grind.{common_steps}
use Rattle.connection.specs.Owners.{queued, IsRing}

module _ {A : Type 0} (xs : List A) (f n : ℕ) (r : IsRing xs f n) where
  -- as many are read as are taken
  pub length-queued : length (queued xs f n) ≡ n
  length-queued = simp (length-take, length-drop, length-append) (omega arith)

  -- the one at j lies at the place f + j, round the end
  get_or-queued : (j : ℕ) (d : A) → j < n → get_or (queued xs f n) j d ≡ get_or xs ((f + j) % 64) d
  get_or-queued j d h =
      get_or-take n (drop f (xs ++ xs)) j d h ∙ get_or-drop f (xs ++ xs) j d ∙ elim (cases_lt (f + j) 64) [
        | inl lt ↦ get_or_append_left xs xs d (f + j) (omega arith) ∙ ap (λ k. get_or xs k d) (omega arith)
        | inr ge ↦ get_or-append_right xs xs 64 (f + j) d r.long ge ∙ ap (λ k. get_or xs k d) (omega arith)
      ]

module _ {A : Type 0} (xs : List A) (f n : ℕ) (r : IsRing xs f n) where
  -- what is written behind the last one is read as one more
  pub queued_push : (x : A) → n < 64 → queued (set xs ((f + n) % 64) x) f (n + 1) ≡ queued xs f n ++ x ∷ []
  queued_push x room =
      let ys : List A = set xs ((f + n) % 64) x in
      let s : IsRing ys f (n + 1) = record { long = length-set xs ((f + n) % 64) x ∙ r.long; begins = r.begins; fits = omega arith } in
      let old : length (queued xs f n) ≡ n = length-queued xs f n r in
      let new : length (queued ys f (n + 1)) ≡ n + 1 = length-queued ys f (n + 1) s in
      same_lists _ _ (grind (arith, common_steps)) (λ k d h.
      get_or-queued ys f (n + 1) s k d (omega arith)
      ∙ elim (cases_eq k n) [
        | inl e ↦ rw e (get_or-set_same xs ((f + n) % 64) x d (omega (arith, r.long)) ∙ sym (get_or_push (queued xs f n) x d n old))
        | inr ne ↦
            get_or-set_other xs ((f + n) % 64) ((f + k) % 64) x d (omega arith) ∙ sym (get_or_append_left (queued xs f n) (x ∷ []) d k (omega arith) ∙ get_or-queued xs f n r k d (omega arith))
      ])

  -- the first one, and those behind it
  pub queued_pop : (e : A) → 0 < n → queued xs f n ≡ get_or xs f e ∷ queued xs ((f + 1) % 64) (n - 1)
  queued_pop e some =
      let s : IsRing xs ((f + 1) % 64) (n - 1) = record { long = r.long; begins = omega arith; fits = omega (arith, r.fits) } in
      let old : length (queued xs f n) ≡ n = length-queued xs f n r in
      let new : length (queued xs ((f + 1) % 64) (n - 1)) ≡ n - 1 = length-queued xs ((f + 1) % 64) (n - 1) s in
      let at : (k : ℕ) (d : A) → k < n → get_or (queued xs f n) k d ≡ get_or (get_or xs f e ∷ queued xs ((f + 1) % 64) (n - 1)) k d = elim [
        | zero ↦ λ d h. get_or-queued xs f n r 0 d h ∙ ap (λ j. get_or xs j d) (omega (arith, r.begins)) ∙ get_or_default xs f d e (omega (arith, r.begins, r.long))
        | suc k ↦ λ d h.
            get_or-queued xs f n r (suc k) d h ∙ ap (λ j. get_or xs j d) (omega (arith, r.begins)) ∙ sym (get_or-queued xs ((f + 1) % 64) (n - 1) s k d (omega arith))
      ] in
      same_lists _ _ (omega arith) (λ k d h. at k d (omega arith))
