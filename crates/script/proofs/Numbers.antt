-- A sender's number is a numeral of one digit or two.
use Rattle.std.proofs.Common.{◌≡◌, ℕ, ◌+◌, ◌*◌, ◌<◌, ◌≤◌, cond, ◌&&◌, eqb, leb, Bool, true, false, [], ◌∷◌, length, Some, None, Option, Ok, Err, Result, refl, ap, ◌∙◌, arith}
use Rattle.std.specs.Bool.{then_some}
use Rattle.std.specs.List.{starts_with}
use Rattle.std.specs.Result.{OkIff, result_ok}
use Rattle.std.proofs.lemmas.Bool.{cond-false, lt-leb}
use Rattle.std.proofs.lemmas.Bool.Decides.{nat_tests}
use Rattle.text.specs.Bytes.{Text, nonempty}
use Rattle.text.specs.Numerals.{digit_value, on_digit, value_after, number_of}
use Rattle.text.specs.declared.numeral.Base.TheVariants.{Decimal}
use Rattle.script.specs.Statements.{ranged, number_in}

-- a number that is at most so large
abbrev pub at_most : ℕ → Option ℕ → Option ℕ
at_most most o = on_digit o (λ n. cond (leb n most) (Some n) None)

some_if : (b : Bool) (n : ℕ) → then_some b n ≡ cond b (Some n) None
some_if true n = refl
some_if false n = refl

first : (b : ℕ) → false ≡ (eqb 48 b && true) → eqb 48 b ≡ false
first b e = grind arith

one_digit : (most c : ℕ) → eqb 48 c ≡ false → on_digit (digit_value Decimal c) (λ n. ranged 1 most n) ≡ at_most most (on_digit (digit_value Decimal c) (λ n. Some (0 + n)))
one_digit most c h = grind (arith, nat_tests)

two_digits : (most b c : ℕ) → eqb 48 b ≡ false → on_digit (digit_value Decimal b) (λ m. on_digit (digit_value Decimal c) (λ n. ranged 10 most (m * 10 + n))) ≡ at_most most (on_digit (digit_value Decimal b) (λ m. on_digit (digit_value Decimal c) (λ n. Some ((0 + m) * 10 + n))))
two_digits most b c h = grind (arith, nat_tests)

pub small_number : (most : ℕ) (t : Text) → length t ≤ 2 → false ≡ starts_with eqb t (48 ∷ []) → number_in most t ≡ at_most most (number_of Decimal t)
unfolding nonempty value_after
small_number most [] h k = refl
small_number most (b ∷ []) h k = one_digit most b (first b k)
small_number most (b ∷ c ∷ []) h k = two_digits most b c (first b k)
small_number most (a ∷ b ∷ c ∷ t) h k = absurd (omega arith)

-- a number that is read into a byte, or is too large for one
pub as_byte : {E : Type 0} (most m n : ℕ) (r : Result ℕ E) → OkIff r (n < 256) n → Some m ≡ result_ok r → then_some (leb m most) m ≡ at_most most (Some n)
as_byte most m n (Ok x) h e = let is : m ≡ n = cc in some_if (leb m most) m ∙ ap (λ k. at_most most (Some k)) is
as_byte most m n (Err f) h e = cc

pub no_byte : {E : Type 0} (most n : ℕ) (r : Result ℕ E) → most < 256 → OkIff r (n < 256) n → None ≡ result_ok r → at_most most (Some n) ≡ None
no_byte most n (Ok x) l h e = cc
no_byte most n (Err f) l h e = cond-false _ _ _ (lt-leb n most (omega (arith, h)))
