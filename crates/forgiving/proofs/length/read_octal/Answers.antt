use Rattle.std.proofs.Common.{◌+◌, ◌*◌, drop, sym, ap, ◌∙◌}
use Rattle.text.specs.Numerals.{on_digit}
use Rattle.forgiving.specs.Readers.{octal_after}
use Rattle.forgiving.proofs.Lengths.{one_octal, all_octal, grows}
use Rattle.forgiving.proofs.length.read_octal.Goals as goal

pub returns-in_err-d : goal.returns-in_err-d
returns-in_err-d c =
    let t = c.args.digits.now in
    let i = c.loop-b.b-index in
    let n = c.loop-b.value in
    c.from_residual.ensures ∙ ap (λ o. on_digit o (λ d. octal_after (n * 8 + d) (drop (i + 1) t))) c.in_err-d.ensures.is ∙ sym (one_octal n i t c.loop-b-test.true) ∙ c.loop-b.invariant.2

pub loop-b-preserved : goal.loop-b-preserved
loop-b-preserved c =
    let t = c.args.digits.now in
    let i = c.loop-b.b-index in
    let n = c.loop-b.value in (
      c.loop-b.invariant.0,
      rw c.from.ensures (grows n c.in_ok-d.d i c.loop-b.invariant.1 c.in_ok-d.ensures.small),
      ap (λ d. octal_after (n * 8 + d) (drop (i + 1) t)) c.from.ensures ∙ ap (λ o. on_digit o (λ d. octal_after (n * 8 + d) (drop (i + 1) t))) c.in_ok-d.ensures.is ∙ sym (one_octal n i t c.loop-b-test.true) ∙ c.loop-b.invariant.2,
    )

pub returns : goal.returns
returns c = sym (all_octal c.loop-b.value c.loop-b.b-index c.args.digits.now c.loop-b-test.false) ∙ c.loop-b.invariant.2
