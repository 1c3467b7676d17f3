-- A numeral's digits are those of its number: read back they give the number, and the first is no zero.
use Rattle.std.proofs.Common.{◌≡◌, ℕ, zero, suc, ◌+◌, ◌*◌, ◌/◌, ◌%◌, ◌^◌, ◌<◌, ◌≤◌, true, false, not, ◌&&◌, T, eqb, ltb, leb, List, [], ◌∷◌, ◌++◌, map, length, get_or, Some, None, sym, refl, ap, ◌∙◌, mod-eq_of_lt, div-lt_iff_lt-mul, pow-suc, le-div_iff_mul-le, arith}
use native.Mathlib.Nat.{pow-zero, div-eq_of_lt}
use Rattle.std.specs.Int.Digits.{digits_of, AllBelowBase, number_from_digits_after}
use Rattle.std.proofs.lemmas.Int.Digits.{digits_of_step, length-digits_of-le, all_below_base_digits_of, first_digits_of, number_digits_of}
use Rattle.std.proofs.lemmas.List.{length-map, map_push}
use Rattle.std.proofs.lemmas.Bool.{cond_both, cond-true, and_from, ltb-true, ltb-false, le-leb}
use Rattle.std.proofs.lemmas.Bool.Decides.{nat_tests}
use Rattle.text.specs.Bytes.{nonempty}
use Rattle.text.specs.Numerals.{radix, most_digits, digit_byte, digits, numeral, digit_value, value_after, number_of}
use Rattle.text.specs.declared.numeral.Base.{Base}
use Rattle.text.specs.declared.numeral.Base.TheVariants.{Decimal, Hexadecimal}
use Rattle.text_laws.specs.Laws.{needless_zero, ReadBack, ExactNumeral}

two : (base : Base) → 2 ≤ radix base
two Decimal = omega arith
two Hexadecimal = omega arith

-- a digit is written as a byte that is worth it
pub byte_value : (base : Base) (d : ℕ) → d < radix base → digit_value base (digit_byte d) ≡ Some d
byte_value Decimal d h = grind (arith, nat_tests)
byte_value Hexadecimal d h = grind (arith, nat_tests)

-- the digits written are the number's, where there is room for them
written : (b k n : ℕ) → 2 ≤ b → 0 < n → n < b ^ k → digits b k n ≡ map digit_byte (digits_of b n)
unfolding digits
written b zero n h some room = absurd (omega (arith, room, pow-zero b))
written b (suc k) n h some room =
    let base : 0 < b = omega arith in
    cond_both (ltb n b) (digit_byte n ∷ []) (digits b k (n / b) ++ (digit_byte (n % b) ∷ [])) (λ t. t ≡ map digit_byte (digits_of b n))
    (λ e. let l = ltb-true n b e in rw (digits_of_step b n h some, div-eq_of_lt l, mod-eq_of_lt l))
    (λ e.
    let l = ltb-false n b e in
    let more : 0 < n / b = (le-div_iff_mul-le base).1 (omega arith) in
    let less : n / b < b ^ k = (div-lt_iff_lt-mul base).1 (rw pow-suc at room) in
    ap (λ t. t ++ (digit_byte (n % b) ∷ [])) (written b k (n / b) h more less) ∙ sym (ap (map digit_byte) (digits_of_step b n h some) ∙ map_push digit_byte (digits_of b (n / b)) (n % b)))

numeral_is : (base : Base) (n : ℕ) → 0 < n → n < radix base ^ 20 → numeral base n ≡ map digit_byte (digits_of (radix base) n)
unfolding numeral
numeral_is base n some room = written (radix base) 20 n (two base) some room

-- what they are worth where they are read
value_is : (base : Base) (n : ℕ) (ds : List ℕ) → AllBelowBase (radix base) ds → value_after base n (map digit_byte ds) ≡ Some (number_from_digits_after (radix base) n ds)
unfolding value_after
value_is base n [] u = refl
value_is base n (d ∷ ds) u = rw (byte_value base d u.0) (value_is base (n * radix base + d) ds u.1)

-- digits of which the first is no zero, as bytes
first : (ds : List ℕ) → 0 < get_or ds 0 0 → (nonempty (map digit_byte ds) ≡ true) × T (not (needless_zero (map digit_byte ds)))
unfolding nonempty needless_zero
first [] h = absurd (omega arith)
first (d ∷ []) h = (refl, tt)
first (d ∷ e ∷ ds) h = let not-zero : eqb (digit_byte d) 48 ≡ false = grind (arith, nat_tests) in (refl, rw not-zero tt)

-- the laws for numbers other than 0
module _ (base : Base) (n : ℕ) (some : 0 < n) (room : n < radix base ^ 20) where
  is : numeral base n ≡ map digit_byte (digits_of (radix base) n)
  is = numeral_is base n some room

  begins : (nonempty (numeral base n) ≡ true) × T (not (needless_zero (numeral base n)))
  begins = rw is (first (digits_of (radix base) n) (first_digits_of (radix base) n (two base) some))

  worth : value_after base 0 (numeral base n) ≡ Some n
  worth = ap (value_after base 0) is ∙ value_is base 0 (digits_of (radix base) n) (all_below_base_digits_of (radix base) n (two base)) ∙ ap Some (number_digits_of (radix base) n (two base))

  back : n < radix base ^ most_digits base → number_of base (numeral base n) ≡ Some n
  back few =
      let t = numeral base n in
      let short : length (numeral base n) ≤ most_digits base = rw (is, length-map) (length-digits_of-le (radix base) (most_digits base) n (two base) few) in
      cond-true (nonempty t && leb (length t) (most_digits base)) (value_after base 0 t) None (and_from (nonempty t) (leb (length t) (most_digits base)) begins.0 (le-leb (length t) (most_digits base) short)) ∙ worth

  exact : T (nonempty (numeral base n)) × (value_after base 0 (numeral base n) ≡ Some n) × T (not (needless_zero (numeral base n)))
  exact = (rw begins.0 tt, worth, begins.1)

pub read_back : ReadBack
read_back Decimal zero h = unfold numeral digits nonempty value_after in refl
read_back Hexadecimal zero h = unfold numeral digits nonempty value_after in refl
read_back Decimal (suc n) h = back Decimal (suc n) (omega arith) (omega arith) h
read_back Hexadecimal (suc n) h = back Hexadecimal (suc n) (omega arith) (omega arith) h

pub exact_numeral : ExactNumeral
exact_numeral Decimal zero h = unfold numeral digits nonempty value_after needless_zero in (tt, refl, tt)
exact_numeral Hexadecimal zero h = unfold numeral digits nonempty value_after needless_zero in (tt, refl, tt)
exact_numeral Decimal (suc n) h = exact Decimal (suc n) (omega arith) (omega arith)
exact_numeral Hexadecimal (suc n) h = exact Hexadecimal (suc n) (omega arith) (omega arith)
