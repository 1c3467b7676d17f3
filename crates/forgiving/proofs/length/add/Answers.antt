use Rattle.std.proofs.Common.{◌+◌, drop, sym, ap, ◌∙◌}
use Rattle.text.specs.Bytes.{capped}
use Rattle.text.specs.Numerals.{on_digit}
use Rattle.forgiving.specs.Readers.{added_after}
use Rattle.forgiving.specs.Held.{texts}
use Rattle.forgiving.proofs.Lengths.{one_added, all_added}
use Rattle.forgiving.proofs.length.add.Goals as goal

pub returns-in_err-read_number : goal.returns-in_err-read_number
returns-in_err-read_number c =
    let vs = c.args.lengths.now in
    let i = c.loop-length.length-index in
    let n = c.loop-length.sum in
    c.from_residual.ensures ∙ ap (λ o. on_digit o (λ m. added_after (capped (n + m)) (texts (drop (i + 1) vs)))) c.in_err-read_number.ensures ∙ sym (one_added n i vs _ c.loop-length-test.true) ∙ c.loop-length.invariant

pub loop-length-preserved : goal.loop-length-preserved
loop-length-preserved c =
    let vs = c.args.lengths.now in
    let i = c.loop-length.length-index in
    let n = c.loop-length.sum in
    ap (λ s. added_after s (texts (drop (i + 1) vs))) c.saturating_add-sum.ensures
    ∙ ap (λ o. on_digit o (λ m. added_after (capped (n + m)) (texts (drop (i + 1) vs)))) c.in_ok-read_number.ensures
    ∙ sym (one_added n i vs _ c.loop-length-test.true) ∙ c.loop-length.invariant

pub returns : goal.returns
returns c = sym (all_added c.loop-length.sum c.loop-length.length-index c.args.lengths.now c.loop-length-test.false) ∙ c.loop-length.invariant
