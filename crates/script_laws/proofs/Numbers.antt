-- A sender's number is read as it is written.
use Rattle.std.proofs.Common.{◌≡◌, ℕ, suc, ◌+◌, ◌*◌, ◌/◌, ◌%◌, ◌<◌, ◌≤◌, false, ◌&&◌, T, eqb, leb, [], ◌∷◌, Some, None, sym, ap, ◌∙◌, ap₂, ⊎_elim, arith}
use Rattle.std.proofs.lemmas.Bool.{cond_both, cond-true, and_parts, and_from, leb-true, le-leb, lt-ltb, le-ltb, cases_lt}
use Rattle.std.proofs.lemmas.Bool.Decides.{nat_tests}
use Rattle.text.specs.Bytes.{Text, all}
use Rattle.text.specs.Numerals.{digit_byte, digits, numeral, decimal, digit_value}
use Rattle.text.specs.declared.numeral.Base.TheVariants.{Decimal}
use Rattle.text_laws.proofs.Digits.{byte_value}
use Rattle.script.specs.Statements.{ranged, number_in}
use Rattle.script_laws.proofs.Given.{Gives, on_digit_so}
use Rattle.script_laws.proofs.Words.{other}

-- a digit and what it is worth
digit_made : (c d : ℕ) → digit_value Decimal c ≡ Some d → (d < 10) × (c ≡ digit_byte d)
digit_made c d e = (grind (arith, nat_tests), grind (arith, nat_tests))

no_space : (d : ℕ) → eqb (digit_byte d) 32 ≡ false
no_space d = grind (arith, nat_tests)

-- numbers of one digit, and of two
one : (k n : ℕ) → n < 10 → digits 10 (suc k) n ≡ digit_byte n ∷ []
unfolding digits
one k n h = rw (lt-ltb n 10 h)

two : (k n : ℕ) → 10 ≤ n → n < 100 → digits 10 (suc (suc k)) n ≡ digit_byte (n / 10) ∷ digit_byte (n % 10) ∷ []
unfolding digits
two k n low high = let h : n / 10 < 10 = omega arith in rw (le-ltb n 10 low, one k (n / 10) h)

decimal_one : (n : ℕ) → n < 10 → decimal n ≡ digit_byte n ∷ []
unfolding numeral
decimal_one n h = one 19 n h

decimal_two : (n : ℕ) → 10 ≤ n → n < 100 → decimal n ≡ digit_byte (n / 10) ∷ digit_byte (n % 10) ∷ []
unfolding numeral
decimal_two n low high = two 18 n low high

-- what is read is the number
abbrev pub Number : ℕ → Text → ℕ → Type 0
Number most t n = (1 ≤ n) × (n ≤ most) × (t ≡ decimal n)

in_range : (P : ℕ → Type 0) (least most n : ℕ) → (least ≤ n → n ≤ most → P n) → Gives P (ranged least most n)
in_range P least most n f = cond_both (leb least n && leb n most) (Some n) None (Gives P) (λ e. let h = and_parts (leb least n) (leb n most) e in f (leb-true least n h.0) (leb-true n most h.1)) (λ _. tt)

pub number_made : (most : ℕ) → most ≤ 16 → (t : Text) → Gives (Number most t) (number_in most t)
number_made most few [] = tt
number_made most few (a ∷ []) =
    on_digit_so (Number most (a ∷ [])) (digit_value Decimal a) _ (λ n e.
    let d = digit_made a n e in
    in_range (Number most (a ∷ [])) 1 most n (λ low high. (low, high, ap (λ c. c ∷ []) d.1 ∙ sym (decimal_one n d.0))))
number_made most few (a ∷ b ∷ []) =
    let P = Number most (a ∷ b ∷ []) in
    on_digit_so P (digit_value Decimal a) _ (λ m e.
    on_digit_so P (digit_value Decimal b) _ (λ n f.
    in_range P 10 most (m * 10 + n) (λ low high.
    let d = digit_made a m e in
    let c = digit_made b n f in
    let tens : m ≡ (m * 10 + n) / 10 = omega arith in
    let ones : n ≡ (m * 10 + n) % 10 = omega arith in
    (omega arith, high, ap₂ (λ x y. x ∷ y ∷ []) (d.1 ∙ ap digit_byte tens) (c.1 ∙ ap digit_byte ones) ∙ sym (decimal_two (m * 10 + n) low (omega arith))))))
number_made most few (a ∷ b ∷ c ∷ t) = tt

-- and the number as it is written is read, and holds no space
from_range : (least most n : ℕ) → least ≤ n → n ≤ most → ranged least most n ≡ Some n
from_range least most n low high = cond-true (leb least n && leb n most) (Some n) None (and_from (leb least n) (leb n most) (le-leb least n low) (le-leb n most high))

pub number_read : (most n : ℕ) → most ≤ 16 → 1 ≤ n → n ≤ most → (number_in most (decimal n) ≡ Some n) × T (all (other 32) (decimal n))
unfolding all
number_read most n few low high =
    ⊎_elim (λ h. rw (decimal_one n h) (rw (byte_value Decimal n h) (from_range 1 most n low high), rw (no_space n) tt))
    (λ h.
    let less : n < 100 = omega arith in
    let d : n / 10 < 10 = omega arith in
    let e : n % 10 < 10 = omega arith in
    let sum : n / 10 * 10 + n % 10 ≡ n = omega arith in
    rw (decimal_two n h less) (rw (byte_value Decimal (n / 10) d, byte_value Decimal (n % 10) e, sum) (from_range 10 most n h high), rw (no_space (n / 10), no_space (n % 10)) tt))
    (cases_lt n 10)
