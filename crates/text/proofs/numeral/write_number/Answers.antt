use Rattle.std.proofs.Common.{◌≡◌, ℕ, zero, suc, ◌+◌, ◌-◌, ◌/◌, ◌%◌, ◌<◌, ◌≤◌, [], ◌∷◌, ◌++◌, length, drop, set, sym, ap, ◌∙◌, ⊎_elim, append_assoc, append-nil, mod-eq_of_lt, arith}
use Rattle.std.proofs.Math.Nat.{div-eq_of_lt, lt-div-mul-add}
use Rattle.std.proofs.lemmas.List.{length-drop, length-set, take_all, drop_all, drop-set}
use Rattle.std.proofs.lemmas.Bool.{cond-true, cond-false, lt-ltb, le-ltb, cases_lt}
use Rattle.text.specs.Bytes.{Text}
use Rattle.text.specs.Numerals.{digit_byte, digits, numeral}
use Rattle.text.proofs.numeral.write_number.Goals as goal

-- one digit from the end
more : (b k n : ℕ) → 1 ≤ k → b ≤ n → digits b k n ≡ digits b (k - 1) (n / b) ++ (digit_byte (n % b) ∷ [])
unfolding digits
more b zero n h g = absurd (omega arith)
more b (suc k) n h g = let less : k ≡ suc k - 1 = omega arith in cond-false _ _ _ (le-ltb n b g) ∙ ap (λ j. digits b j (n / b) ++ (digit_byte (n % b) ∷ [])) less

below : (b k n : ℕ) → 1 ≤ k → n < b → digits b k n ≡ digit_byte (n % b) ∷ []
unfolding digits
below b zero n h g = absurd (omega arith)
below b (suc k) n h g = cond-true _ _ _ (lt-ltb n b g) ∙ ap (λ m. digit_byte m ∷ []) (sym (mod-eq_of_lt g))

-- the last digit that is written is the first of the numeral
low : (b n : ℕ) → 0 < b → n / b ≡ 0 → n < b
low b n h e = let less = lt-div-mul-add {a = n} {b = b} h in omega (arith, rw e at less)

high : (b n : ℕ) → 0 < b → (n / b ≡ 0 → ⊥) → b ≤ n
high b n h e = ⊎_elim (λ l. absurd (e (div-eq_of_lt l))) (λ l. l) (cases_lt n b)

-- a digit written before those that are there
step : (b k n d e : ℕ) (xs ds : Text) → 1 ≤ k → k ≤ length xs → digits b k n ≡ ds ++ (e ∷ []) → d ≡ e → ds ++ drop (k - 1) (set xs (k - 1) d) ≡ digits b k n ++ drop k xs
step b k n d e xs ds h g is same =
    let in-xs : k - 1 < length xs = omega arith in
    let back : (k - 1) + 1 ≡ k = omega arith in
    ap (λ zs. ds ++ zs) (drop-set xs (k - 1) d in-xs) ∙ ap (λ j. ds ++ (d ∷ drop j xs)) back ∙ ap (λ x. ds ++ (x ∷ drop k xs)) same ∙ sym (append_assoc ds (e ∷ []) (drop k xs)) ∙ ap (λ zs. zs ++ drop k xs) (sym is)

pub loop-at-init : goal.loop-at-init
loop-at-init c =
    let long : length c.args.buf.now ≤ 20 = omega arith in
    (omega arith, ap (λ zs. digits c.radix-radix.result 20 c.args.n ++ zs) (drop_all 20 c.args.buf.now long) ∙ append-nil _)

pub returns-then-rest-eq0 : goal.returns-then-rest-eq0
unfolding numeral
returns-then-rest-eq0 c =
    let k = c.loop-at.at in
    let b = c.radix-radix.result in
    let n = c.loop-at.rest in
    let xs = c.loop-at.buf in
    let one : 1 ≤ k = omega arith in
    let room : k ≤ length xs = omega (arith, c.loop-at.invariant.0) in
    let radix : 0 < b = omega arith in
    let all : length (drop (k - 1) (set xs (k - 1) c.digit_byte.result)) ≤ 20 - (k - 1) = simp (length-drop, length-set) (omega (arith, c.loop-at.invariant.0)) in
    take_all (20 - (k - 1)) _ all ∙ step b k n c.digit_byte.result (digit_byte (n % b)) xs [] one room (below b k n one (low b n radix c.if-rest-eq0.true)) c.digit_byte.ensures ∙ c.loop-at.invariant.1
    ∙ ap (λ m. digits m 20 c.args.n) c.radix-radix.ensures.is

pub loop-at-preserved : goal.loop-at-preserved
loop-at-preserved c =
    let k = c.loop-at.at in
    let b = c.radix-radix.result in
    let n = c.loop-at.rest in
    let xs = c.loop-at.buf in
    let one : 1 ≤ k = omega arith in
    let room : k ≤ length xs = omega (arith, c.loop-at.invariant.0) in
    let radix : 0 < b = omega arith in (
      length-set xs (k - 1) c.digit_byte.result ∙ c.loop-at.invariant.0,
      step b k n c.digit_byte.result (digit_byte (n % b)) xs (digits b (k - 1) (n / b)) one room (more b k n one (high b n radix c.if-rest-eq0.false)) c.digit_byte.ensures ∙ c.loop-at.invariant.1,
    )

pub returns : goal.returns
unfolding numeral digits
returns c =
    let none : c.loop-at.at ≡ 0 = omega arith in
    ap (λ k. digits c.radix-radix.result k c.loop-at.rest ++ drop k c.loop-at.buf) (sym none) ∙ c.loop-at.invariant.1 ∙ ap (λ m. digits m 20 c.args.n) c.radix-radix.ensures.is
