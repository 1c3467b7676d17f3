-- Codes, undone one by one.
use Rattle.std.proofs.Common.{◌≡◌, ℕ, [], ◌∷◌, drop, Some, None, sym, ap, ◌∙◌}
use Rattle.text.specs.Bytes.{Text}
use Rattle.forgiving.specs.Views.{code_in, on_code, undone}

pub coded : (t : Text) (b : ℕ) → Some b ≡ code_in t → undone t ≡ b ∷ undone (drop 3 t)
unfolding undone
coded [] b e = cc
coded (c ∷ []) b e = cc
coded (c ∷ a ∷ []) b e = cc
coded (c ∷ a ∷ x ∷ t) b e = ap (λ o. on_code c o (undone t) (undone (a ∷ x ∷ t))) (sym e)

pub uncoded : (t : Text) (c : ℕ) (rest : Text) → None ≡ code_in t → t ≡ c ∷ rest → undone t ≡ c ∷ undone rest
unfolding undone
uncoded [] c rest e is = cc
uncoded (d ∷ []) c rest e is = let a : d ≡ c = cc in let b : [] ≡ rest = cc in ap (λ x. x ∷ []) a ∙ ap (λ u. c ∷ undone u) b
uncoded (d ∷ a ∷ []) c rest e is = let x : d ≡ c = cc in let b : a ∷ [] ≡ rest = cc in ap (λ y. y ∷ undone (a ∷ [])) x ∙ ap (λ u. c ∷ undone u) b
uncoded (d ∷ a ∷ x ∷ t) c rest e is =
    let y : d ≡ c = cc in
    let b : a ∷ x ∷ t ≡ rest = cc in
    ap (λ o. on_code d o (undone t) (undone (a ∷ x ∷ t))) (sym e) ∙ ap (λ z. z ∷ undone (a ∷ x ∷ t)) y ∙ ap (λ u. c ∷ undone u) b
