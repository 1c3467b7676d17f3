-- Bytes of a path, and codes of two digits.
use Rattle.std.proofs.Common.{◌≡◌, ℕ, ◌+◌, ◌-◌, ◌*◌, ◌<◌, ◌≤◌, Bool, true, false, cond, ◌&&◌, ◌||◌, T, eqb, [], ◌∷◌, Some, None, codes, Option, sym, refl, ap, ◌∙◌, arith}
use Rattle.std.proofs.lemmas.Bool.Decides.{nat_tests}
use Rattle.text.specs.Bytes.{between, digit, lower, visible, plain_byte, same, lowered, same_no_case}
use Rattle.text.specs.Numerals.{hex_pair, hex_value, on_digit}
use Rattle.text.proofs.Passing.{is_true, and_l, and_r, differs, so}
use Rattle.request.specs.Targets.{capital}
use Rattle.request.specs.Places.{high_digit, capital_digit}

-- a hexadecimal digit, in either case
abbrev pub hex_digit : ℕ → Bool
hex_digit c = digit c || between 97 102 c || between 65 70 c

-- a byte that a part as sent may have: a plain one (digits are plain), or the sign of a code; and one that a path may have
abbrev pub part_byte : ℕ → Bool
part_byte c = plain_byte c || eqb c 37

abbrev pub path_byte : ℕ → Bool
path_byte c = part_byte c || eqb c 47

hex_digit_so : (c d : ℕ) → hex_value c ≡ Some d → hex_digit c ≡ true
hex_digit_so c d e = grind (arith, nat_tests)

hex_small : (c d : ℕ) → hex_value c ≡ Some d → d < 16
hex_small c d e = grind (arith, nat_tests)

hex_two : (c d : ℕ) → hex_value c ≡ Some d → eqb (lower c) 50 ≡ eqb d 2
hex_two c d e = grind (arith, nat_tests)

hex_e : (c d : ℕ) → hex_value c ≡ Some d → eqb (lower c) 101 ≡ eqb d 14
hex_e c d e = grind (arith, nat_tests)

pub plain_part : (c : ℕ) → T (plain_byte c) → T (part_byte c)
plain_part c h = so (plain_byte c) (part_byte c) (λ e. grind (arith, nat_tests)) h

pub hex_part : (c : ℕ) → T (hex_digit c) → T (part_byte c)
hex_part c h = so (hex_digit c) (part_byte c) (λ e. grind (arith, nat_tests)) h

pub part_path : (c : ℕ) → T (part_byte c) → T (path_byte c)
part_path c h = so (part_byte c) (path_byte c) (λ e. grind (arith, nat_tests)) h

pub path_visible : (c : ℕ) → T (path_byte c) → T (visible c)
path_visible c h = so (path_byte c) (visible c) (λ e. grind (arith, nat_tests)) h

-- no byte above 127 is plain
pub high_not_plain : (v : ℕ) → 128 ≤ v → plain_byte v ≡ false
high_not_plain v h = grind (arith, nat_tests)

high_capital : (a x : ℕ) → hex_value a ≡ Some x → 8 ≤ x → high_digit (capital a) ≡ true
high_capital a x e h = grind (arith, nat_tests)

low_capital : (a x : ℕ) → hex_value a ≡ Some x → capital_digit (capital a) ≡ true
low_capital a x e = grind (arith, nat_tests)

-- the digits of a code, and their worth
pub record Digits (a b v : ℕ) : Type 0 where
  pub high : ℕ
  pub low : ℕ
  pub first : hex_value a ≡ Some high
  pub second : hex_value b ≡ Some low
  pub worth : v ≡ high * 16 + low

digits_of : (a b v : ℕ) (o p : Option ℕ) → hex_value a ≡ o → hex_value b ≡ p → on_digit o (λ x. on_digit p (λ y. Some (x * 16 + y))) ≡ Some v → Digits a b v
digits_of a b v None p e f g = cc
digits_of a b v (Some x) None e f g = cc
digits_of a b v (Some x) (Some y) e f g = record { high = x; low = y; first = e; second = f; worth = cc }

pub digits : (a b v : ℕ) → hex_pair a b ≡ Some v → Digits a b v
digits a b v e = digits_of a b v (hex_value a) (hex_value b) refl refl e

pub first_digit : (a b v : ℕ) → hex_pair a b ≡ Some v → T (hex_digit a)
first_digit a b v e = let d = digits a b v e in rw (hex_digit_so a d.high d.first) tt

pub second_digit : (a b v : ℕ) → hex_pair a b ≡ Some v → T (hex_digit b)
second_digit a b v e = let d = digits a b v e in rw (hex_digit_so b d.low d.second) tt

-- of a byte above 127, in capitals
pub capitals : (a b v : ℕ) → hex_pair a b ≡ Some v → 128 ≤ v → T (high_digit (capital a) && capital_digit (capital b))
capitals a b v e h =
    let d = digits a b v e in
    let small = hex_small b d.low d.second in
    let big : 8 ≤ d.high = omega (arith, d.worth) in
    rw (high_capital a d.high d.first big, low_capital b d.low d.second) tt

-- a digit in capitals is kept, and has a worth
capital_again : (c : ℕ) → capital_digit c ≡ true → capital c ≡ c
capital_again c h = grind (arith, nat_tests)

high_digit_so : (c : ℕ) → high_digit c ≡ true → capital_digit c ≡ true
high_digit_so c h = grind (arith, nat_tests)

abbrev worth_of : ℕ → ℕ
worth_of c = cond (digit c) (c - 48) (c - 55)

hex_some : (c : ℕ) → capital_digit c ≡ true → hex_value c ≡ Some (worth_of c)
hex_some c h = grind (arith, nat_tests)

high_worth : (c : ℕ) → high_digit c ≡ true → 8 ≤ worth_of c
high_worth c h = grind (arith, nat_tests)

-- a code of two such digits
pub record Kept (a b : ℕ) : Type 0 where
  pub value : ℕ
  pub read : hex_pair a b ≡ Some value
  pub high : 128 ≤ value
  pub first : capital a ≡ a
  pub second : capital b ≡ b

pub kept : (a b : ℕ) → T (high_digit a && capital_digit b) → Kept a b
kept a b h =
    let e = is_true (high_digit a) (and_l (high_digit a) (capital_digit b) h) in
    let f = is_true (capital_digit b) (and_r (high_digit a) (capital_digit b) h) in
    let g = high_digit_so a e in
    record {
      value = worth_of a * 16 + worth_of b;
      read = rw (hex_some a g, hex_some b f);
      high = omega (arith, high_worth a e);
      first = capital_again a g;
      second = capital_again b f;
    }

-- a dot as a code
dot_worth : (x y : ℕ) → y < 16 → (eqb x 2 && (eqb y 14 && true)) ≡ eqb (x * 16 + y) 46
dot_worth x y h = grind (arith, nat_tests)

pub dot_code : (a b v : ℕ) → hex_pair a b ≡ Some v → (eqb b 46 || same_no_case (37 ∷ a ∷ b ∷ []) (codes "%2e")) ≡ eqb v 46
unfolding same lowered
dot_code a b v e =
    let d = digits a b v e in
    rw (differs hex_digit 46 b refl (second_digit a b v e), hex_two a d.high d.first, hex_e b d.low d.second) (dot_worth d.high d.low (hex_small b d.low d.second) ∙ ap (λ n. eqb n 46) (sym d.worth))
