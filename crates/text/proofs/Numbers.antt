-- A number in base ten is written in digits, and nothing else.
use Rattle.std.proofs.Common.{◌≡◌, ℕ, zero, suc, ◌/◌, ◌%◌, ◌<◌, true, false, not, T, ltb, [], ◌∷◌, arith}
use Rattle.std.proofs.lemmas.Bool.{cond_both, ltb-true}
use Rattle.std.proofs.lemmas.Bool.Decides.{nat_tests}
use Rattle.text.specs.Bytes.{all, digit, blank}
use Rattle.text.specs.Numerals.{digits, numeral, decimal, digit_byte}
use Rattle.text.specs.Trims.{squeezed}
use Rattle.text.proofs.Folding.{squeezed_bare}
use Rattle.text.proofs.Passing.{so, all_weaker, all_append}

one_digit : (d : ℕ) → d < 10 → T (all digit (digit_byte d ∷ []))
unfolding all
one_digit d h = let is : digit (digit_byte d) ≡ true = grind (arith, nat_tests) in rw is tt

all_digits : (k n : ℕ) → T (all digit (digits 10 k n))
unfolding digits
all_digits zero n = unfold all in tt
all_digits (suc k) n =
    cond_both (ltb n 10) _ _ (λ t. T (all digit t)) (λ e. one_digit n (ltb-true n 10 e))
    (λ e. let low : n % 10 < 10 = omega arith in all_append digit (digits 10 k (n / 10)) (digit_byte (n % 10) ∷ []) (all_digits k (n / 10)) (one_digit (n % 10) low))

pub decimal_digits : (n : ℕ) → T (all digit (decimal n))
unfolding numeral
decimal_digits n = all_digits 20 n

-- so that there is nothing to squeeze
pub squeezed_decimal : (n : ℕ) → squeezed (decimal n) ≡ decimal n
squeezed_decimal n =
    squeezed_bare false (decimal n) (all_weaker digit (λ c. not (blank c)) (λ c h. so (digit c) (not (blank c)) (λ e. grind (arith, nat_tests)) h) (decimal n) (decimal_digits n))
