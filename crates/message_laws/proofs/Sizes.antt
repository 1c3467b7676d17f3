-- The digits of a size, and what they are worth.
use Rattle.std.proofs.Common.{◌≡◌, ℕ, ◌+◌, ◌*◌, ◌<◌, ◌≤◌, Bool, true, false, cond, ◌&&◌, ltb, leb, [], ◌∷◌, length, Some, None, Option, refl, ◌∙◌, arith}
use Rattle.std.proofs.lemmas.Bool.{cond-true, le-leb, leb-true, ltb-true, and_from, and_parts}
use Rattle.text.specs.Bytes.{Text, nonempty}
use Rattle.text.specs.Numerals.{hex_value, below, digit_value, on_digit, value_after}
use Rattle.text.specs.declared.numeral.Base.TheVariants.{Hexadecimal}
use Rattle.message_laws.specs.Chunks.{Says}

if_some : (t : Bool) (o : Option ℕ) (n : ℕ) → cond t o None ≡ Some n → (t ≡ true) × (o ≡ Some n)
if_some true o n e = (refl, e)
if_some false o n e = absurd cc

long : (ds : Text) → nonempty ds ≡ true → 1 ≤ length ds
unfolding nonempty
long [] h = absurd cc
long (d ∷ ds) h = omega arith

some : (ds : Text) → 1 ≤ length ds → nonempty ds ≡ true
unfolding nonempty
some [] h = absurd (omega arith)
some (d ∷ ds) h = refl

-- a size, by the number of its digits and their worth
pub says_so : (ds : Text) (n : ℕ) → Says ds n → (1 ≤ length ds) × (length ds ≤ 5) × (value_after Hexadecimal 0 ds ≡ Some n)
says_so ds n e =
    let both = if_some (nonempty ds && leb (length ds) 5) (value_after Hexadecimal 0 ds) n e in
    let tests = and_parts (nonempty ds) (leb (length ds) 5) both.0 in
    (long ds tests.0, leb-true _ _ tests.1, both.1)

pub says_from : (ds : Text) (n : ℕ) → 1 ≤ length ds → length ds ≤ 5 → value_after Hexadecimal 0 ds ≡ Some n → Says ds n
says_from ds n h k e =
    cond-true (nonempty ds && leb (length ds) 5) (value_after Hexadecimal 0 ds) None (and_from (nonempty ds) (leb (length ds) 5) (some ds h) (le-leb (length ds) 5 k)) ∙ e

-- one digit first
pub value_on : (v : ℕ) (ds : Text) (n : ℕ) (o : Option ℕ) → on_digit o (λ d. value_after Hexadecimal (v * 16 + d) ds) ≡ Some n → (x : ℕ) × (o ≡ Some x) × (value_after Hexadecimal (v * 16 + x) ds ≡ Some n)
value_on v ds n (Some x) e = (x, refl, e)
value_on v ds n None e = absurd cc

below_small : (o : Option ℕ) (x : ℕ) → below 16 o ≡ Some x → x < 16
below_small None x e = absurd cc
below_small (Some d) x e =
    let both = if_some (ltb d 16) (Some d) x e in
    let low = ltb-true d 16 both.0 in
    let same : d ≡ x = cc both.1 in
    omega arith

pub digit_small : (c x : ℕ) → digit_value Hexadecimal c ≡ Some x → x < 16
digit_small c x e = below_small (hex_value c) x e
