-- Numbers as digits, in base ten and sixteen.
use Rattle.std.specs.Prelude.{ℕ, zero, suc, ◌+◌, ◌-◌, ◌*◌, ◌/◌, ◌%◌, cond, ◌&&◌, [], ◌∷◌, ◌++◌, length, Some, None, Option, nat_le, nat_lt}
use Rattle.text.specs.Bytes.{Text, between, nonempty}
use Rattle.text.specs.declared.numeral.Base.{Base}
use Rattle.text.specs.declared.numeral.Base.TheVariants.{Decimal, Hexadecimal}

abbrev pub radix : Base → ℕ
radix Decimal = 10
radix Hexadecimal = 16

-- how many digits a numeral may have where it is read. RFC 9110, 8.6: Content-Length = 1*DIGIT; RFC 9112, 7.1: chunk-size = 1*HEXDIG. Stricter: as
-- many as the largest body has, so that no sum can overflow anywhere
abbrev pub most_digits : Base → ℕ
most_digits Decimal = 6
most_digits Hexadecimal = 5

-- the digit for a value below sixteen: 0 to 9, a to f
abbrev pub digit_byte : ℕ → ℕ
digit_byte d = cond (nat_lt d 10) (48 + d) (87 + d)

-- n in base b, without a needless first zero; k bounds the digits
unfoldable pub digits : ℕ → ℕ → ℕ → Text
digits b zero n = []
digits b (suc k) n = cond (nat_lt n b) (digit_byte n ∷ []) (digits b k (n / b) ++ (digit_byte (n % b) ∷ []))

-- as it is written; twenty digits are enough for every number of 64 bits
unfoldable pub numeral : Base → ℕ → Text
numeral base n = digits (radix base) 20 n

abbrev pub decimal : ℕ → Text
decimal n = numeral Decimal n

-- what a byte is worth as a digit, letters in either case
abbrev pub hex_value : ℕ → Option ℕ
hex_value c =
    cond (between 48 57 c) (Some (c - 48))
    (cond (between 97 102 c) (Some (c - 87))
    (cond (between 65 70 c) (Some (c - 55)) None))

abbrev pub below : ℕ → Option ℕ → Option ℕ
below b None = None
below b (Some d) = cond (nat_lt d b) (Some d) None

abbrev pub digit_value : Base → ℕ → Option ℕ
digit_value base c = below (radix base) (hex_value c)

abbrev pub on_digit : Option ℕ → (ℕ → Option ℕ) → Option ℕ
on_digit None go = None
on_digit (Some d) go = go d

-- the byte that two hexadecimal digits stand for
abbrev pub hex_pair : ℕ → ℕ → Option ℕ
hex_pair a b = on_digit (hex_value a) (λ x. on_digit (hex_value b) (λ y. Some (x * 16 + y)))

-- the value of digits that follow others worth n; none where a byte is no digit
unfoldable pub value_after : Base → ℕ → Text → Option ℕ
value_after base n [] = Some n
value_after base n (c ∷ cs) = on_digit (digit_value base c) (λ d. value_after base (n * radix base + d) cs)

-- what a numeral is worth where it is read: at least one digit, and not too many; zeros in front are allowed
abbrev pub number_of : Base → Text → Option ℕ
number_of base t = cond (nonempty t && nat_le (length t) (most_digits base)) (value_after base 0 t) None
