-- Which bytes a field in canonical form has.
use Rattle.std.proofs.Common.{◌&&◌, ◌||◌, true, T, eqb, ℕ, [], ◌∷◌, arith}
use Rattle.std.proofs.lemmas.Bool.Decides.{nat_tests}
use Rattle.text.specs.Bytes.{Text, name_byte, visible, value_byte, all}
use Rattle.text.proofs.Passing.{and_i, and_l, and_r, so}
use Rattle.message.specs.Fields.{lower_name_byte, value_tail, canonical_value}

-- a byte of a name in lower case is one of a name
pub name_byte_so : (c : ℕ) → T (lower_name_byte c) → T (name_byte c)
name_byte_so c h = so (lower_name_byte c) (name_byte c) (λ e. grind (arith, nat_tests)) h

-- a value has visible bytes and spaces
pub tail_bytes : (t : Text) → T (value_tail t) → T (all value_byte t)
unfolding all value_tail
tail_bytes [] h = tt
tail_bytes (c ∷ []) h = and_i (value_byte c) true (so (visible c) (value_byte c) (λ e. grind (arith, nat_tests)) h) tt
tail_bytes (c ∷ d ∷ t) h =
    let first : T (visible c || (eqb c 32 && visible d)) = and_l (visible c || (eqb c 32 && visible d)) (value_tail (d ∷ t)) h in
    and_i (value_byte c) (all value_byte (d ∷ t)) (so (visible c || (eqb c 32 && visible d)) (value_byte c) (λ e. grind (arith, nat_tests)) first)
    (tail_bytes (d ∷ t) (and_r (visible c || (eqb c 32 && visible d)) (value_tail (d ∷ t)) h))

-- visible bytes are a value
visible_tail : (t : Text) → T (all visible t) → T (value_tail t)
unfolding all value_tail
visible_tail [] h = tt
visible_tail (c ∷ []) h = and_l (visible c) true h
visible_tail (c ∷ d ∷ t) h =
    and_i (visible c || (eqb c 32 && visible d)) (value_tail (d ∷ t)) (so (visible c) (visible c || (eqb c 32 && visible d)) (λ e. grind (arith, nat_tests)) (and_l (visible c) (all visible (d ∷ t)) h))
    (visible_tail (d ∷ t) (and_r (visible c) (all visible (d ∷ t)) h))

pub visible_value : (t : Text) → T (all visible t) → T (canonical_value t)
unfolding all canonical_value
visible_value [] h = tt
visible_value (c ∷ t) h = and_i (visible c) (value_tail (c ∷ t)) (and_l (visible c) (all visible t) h) (visible_tail (c ∷ t) h)
