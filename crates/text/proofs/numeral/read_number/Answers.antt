use Rattle.std.proofs.Common.{◌≡◌, ℕ, suc, ◌+◌, ◌*◌, ◌^◌, ◌<◌, ◌≤◌, [], ◌∷◌, length, get_or, drop, Some, None, sym, refl, ap, ◌∙◌, mul-le-mul_right, mul-le-mul_left, arith, pow-add}
use native.Mathlib.Nat.{pow-le-pow_right}
use Rattle.std.proofs.lemmas.List.{drop_more, drop_all}
use Rattle.std.proofs.lemmas.Bool.{eqb-true, eqb-false, le-leb, lt-leb, and_right, cond-true, cond-false}
use Rattle.text.specs.Bytes.{Text, nonempty}
use Rattle.text.specs.declared.numeral.Base.{Base}
use Rattle.text.specs.Numerals.{radix, most_digits, digit_value, on_digit, value_after, number_of}
use Rattle.text.proofs.numeral.read_number.Goals as goal
use Rattle.text.proofs.numeral.read_number.Goals.{then-is_empty-via-then-is_empty, then-is_empty-via-else-is_empty+then-s-most_digits}

empty : (base : Base) (t : Text) → length t ≡ 0 → None ≡ number_of base t
unfolding nonempty
empty base [] e = refl
empty base (x ∷ xs) e = absurd (omega arith)

long : (base : Base) (t : Text) → most_digits base < length t → None ≡ number_of base t
long base t h = sym (cond-false _ _ _ (and_right (nonempty t) _ (lt-leb (length t) (most_digits base) h)))

some : (base : Base) (t : Text) → (length t ≡ 0 → ⊥) → length t ≤ most_digits base → number_of base t ≡ value_after base 0 t
unfolding nonempty
some base [] e h = absurd (e refl)
some base (x ∷ xs) e h = cond-true _ _ _ (le-leb (length (x ∷ xs)) (most_digits base) h)

one : (base : Base) (n i : ℕ) (t : Text) → i < length t → value_after base n (drop i t) ≡ on_digit (digit_value base (get_or t i 0)) (λ d. value_after base (n * radix base + d) (drop (i + 1) t))
unfolding value_after
one base n i t h = rw (drop_more t i 0 h)

ended : (base : Base) (n i : ℕ) (t : Text) → length t ≤ i → value_after base n (drop i t) ≡ Some n
unfolding value_after
ended base n i t h = rw (drop_all i t h)

-- the value stays small
grows : (v r d i : ℕ) → v < 16 ^ i → r ≤ 16 → d < 16 → v * r + d < 16 ^ (i + 1)
grows v r d i h k l = rw (pow-add 16 i 1) (omega (arith, mul-le-mul_left {m = r} {n = 16} v k, mul-le-mul_right {m = suc v} {n = 16 ^ i} 16 h))

bounded : (i : ℕ) → i ≤ 6 → 16 ^ i ≤ 16777216
bounded i h = pow-le-pow_right {n = 16} (omega arith) {i = i} {j = 6} h

pub returns-then-is_empty : goal.returns-then-is_empty
returns-then-is_empty c =
    elim c.then-is_empty.branch [
      | then-is_empty-via-then-is_empty w ↦ empty c.args.base c.args.s.now (eqb-true _ 0 (sym c.is_empty.ensures ∙ w.if-is_empty.true))
      | then-is_empty-via-else-is_empty+then-s-most_digits w ↦ long c.args.base c.args.s.now (omega (arith, w.if-s-most_digits.true, w.most_digits.ensures.is))
    ]

-- the digits are few enough, and the value so far is not 2 ^ 24 or more
module _ (c : goal.In_ok-d) where
  next : c.loop-b.value * c.radix-radix.result + c.in_ok-d.d < 16 ^ (c.loop-b.b-index + 1)
  next = grows c.loop-b.value c.radix-radix.result c.in_ok-d.d c.loop-b.b-index c.loop-b.invariant.1 c.radix-radix.ensures.high c.in_ok-d.ensures.small

  small : 16 ^ (c.loop-b.b-index + 1) ≤ 16777216
  small = bounded (c.loop-b.b-index + 1) (omega (arith, c.loop-b-test.true, c.loop-b.invariant.0))

pub returns-in_err-d : goal.returns-in_err-d
returns-in_err-d c =
    let base = c.args.base in
    let s = c.args.s.now in
    let i = c.loop-b.b-index in
    let few = some base s (eqb-false _ 0 (sym c.is_empty.ensures ∙ c.if-is_empty.false)) (omega (arith, c.most_digits.ensures.is)) in
    c.from_residual.ensures ∙ sym (few ∙ sym c.loop-b.invariant.2 ∙ one base c.loop-b.value i s c.loop-b-test.true ∙ ap (λ o. on_digit o (λ d. value_after base (c.loop-b.value * radix base + d) (drop (i + 1) s))) (sym c.in_err-d.ensures.is))

pub overflow_mul-value : goal.overflow_mul-value
overflow_mul-value c = omega (arith, next c, small c)

pub overflow_add-value : goal.overflow_add-value
overflow_add-value c = omega (arith, next c, small c)

pub loop-b-preserved : goal.loop-b-preserved
loop-b-preserved c =
    let base = c.args.base in
    let s = c.args.s.now in
    let i = c.loop-b.b-index in
    let v = c.loop-b.value in
    let d = c.in_ok-d.d in (
      c.loop-b.invariant.0,
      next c,
      ap (λ r. value_after base (v * r + d) (drop (i + 1) s)) c.radix-radix.ensures.is
          ∙ ap (λ o. on_digit o (λ e. value_after base (v * radix base + e) (drop (i + 1) s))) c.in_ok-d.ensures.is ∙ sym (one base v i s c.loop-b-test.true) ∙ c.loop-b.invariant.2,
    )

pub returns : goal.returns
returns c =
    let base = c.args.base in
    let s = c.args.s.now in
    let few = some base s (eqb-false _ 0 (sym c.is_empty.ensures ∙ c.if-is_empty.false)) (omega (arith, c.most_digits.ensures.is)) in
    sym (few ∙ sym c.loop-b.invariant.2 ∙ ended base c.loop-b.value c.loop-b.b-index s c.loop-b-test.false)
