-- What is in canonical form stays as it is when it is brought into it.
use Rattle.std.proofs.Common.{◌≡◌, ℕ, Bool, true, false, not, ◌&&◌, ◌||◌, T, eqb, [], ◌∷◌, refl, ap, ◌∙◌, arith}
use Rattle.std.proofs.lemmas.Bool.Decides.{nat_tests}
use Rattle.text.specs.Bytes.{Text, upper, lowered, visible, blank, all}
use Rattle.text.specs.Trims.{squeezed, squeezed_after}
use Rattle.text.proofs.Folding.{lowered_same}
use Rattle.text.proofs.Passing.{is_true, and_l, and_r, so, all_weaker}
use Rattle.message.specs.Fields.{Field, lower_name_byte, value_tail, canonical_value, canonical_field}

-- a name of small letters, digits and hyphens
pub lowered_name : (t : Text) → T (all lower_name_byte t) → lowered t ≡ t
lowered_name t h = lowered_same t (all_weaker lower_name_byte (λ c. not (upper c)) (λ c k. so (lower_name_byte c) (not (upper c)) (λ e. grind (arith, nat_tests)) k) t h)

visible_bare : (c : ℕ) → visible c ≡ true → blank c ≡ false
visible_bare c e = grind (arith, nat_tests)

-- a blank in a value is a space, and a visible byte follows it
space : (c d : ℕ) → (visible c || (eqb c 32 && visible d)) ≡ true → blank c ≡ true → 32 ≡ c
space c d h b = grind (arith, nat_tests)

bare_after : (c d : ℕ) → (visible c || (eqb c 32 && visible d)) ≡ true → blank c ≡ true → blank d ≡ false
bare_after c d h b = grind (arith, nat_tests)

one_more_so : (c d : ℕ) (t : Text) (b : Bool) → blank c ≡ b → (visible c || (eqb c 32 && visible d)) ≡ true → squeezed (d ∷ t) ≡ d ∷ t → squeezed (c ∷ d ∷ t) ≡ c ∷ d ∷ t
unfolding squeezed_after
one_more_so c d t true e h more =
    let bare = bare_after c d h e in
    rw (e, bare) (ap (λ u. 32 ∷ u) (rw bare at more) ∙ ap (λ x. x ∷ d ∷ t) (space c d h e))
one_more_so c d t false e h more = rw e (ap (λ u. c ∷ u) more)

squeezed_tail : (t : Text) → T (value_tail t) → squeezed t ≡ t
unfolding squeezed_after value_tail
squeezed_tail [] h = refl
squeezed_tail (c ∷ []) h = rw (visible_bare c (is_true (visible c) h)) refl
squeezed_tail (c ∷ d ∷ t) h =
    let first = is_true (visible c || (eqb c 32 && visible d)) (and_l (visible c || (eqb c 32 && visible d)) (value_tail (d ∷ t)) h) in
    one_more_so c d t (blank c) refl first (squeezed_tail (d ∷ t) (and_r (visible c || (eqb c 32 && visible d)) (value_tail (d ∷ t)) h))

-- a value of visible bytes and single spaces
pub squeezed_value : (t : Text) → T (canonical_value t) → squeezed t ≡ t
unfolding canonical_value
squeezed_value [] h = unfold squeezed_after in refl
squeezed_value (c ∷ t) h = squeezed_tail (c ∷ t) (and_r (visible c) (value_tail (c ∷ t)) h)

-- a field of these
pub settled : (f : Field) → T (canonical_field f) → record { name = lowered f.name; value = squeezed f.value } ≡ f
settled f h =
    let name = lowered_name f.name (search (and_l, and_r) depth 8) in
    let value = squeezed_value f.value (search (and_l, and_r) depth 8) in
    rw (name, value) refl
