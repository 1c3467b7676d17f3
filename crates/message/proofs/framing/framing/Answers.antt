use Rattle.std.proofs.Common.{◌≡◌, ℕ, ◌+◌, ◌<◌, ◌≤◌, List, length, get_or, drop, Ok, Option, Result, sym, ap, ◌∙◌}
use Rattle.std.proofs.lemmas.List.{drop_more, drop_all}
use Rattle.std.proofs.lemmas.Result.{err_from_is_err_and}
use Rattle.message.specs.Faults.{onward}
use Rattle.message.specs.Framing.{said_with, framed}
use Rattle.message.specs.Sent.{view_line, view_lines}
use Rattle.message.specs.declared.fault.Flaw.{Flaw}
use Rattle.message.specs.declared.framing.Said.{Said}
use Rattle.message.specs.declared.sent.Line.{Line}
use Rattle.message.proofs.framing.framing.Goals as goal

-- one line more, which says so much with what was said
one : (said : Option Said) (ls : List Line) (i : ℕ) (d : Line) (r : Result (Option Said) Flaw) → i < length ls → r ≡ said_with said (view_line (get_or ls i d)) → onward r (λ s. framed s (view_lines (drop (i + 1) ls))) ≡ framed said (view_lines (drop i ls))
unfolding framed
one said ls i d r h e = ap (λ o. onward o (λ s. framed s (view_lines (drop (i + 1) ls)))) e ∙ sym (ap (λ xs. framed said (view_lines xs)) (drop_more ls i d h))

none : (said : Option Said) (ls : List Line) (i : ℕ) → length ls ≤ i → Ok said ≡ framed said (view_lines (drop i ls))
unfolding framed
none said ls i h = sym (ap (λ xs. framed said (view_lines xs)) (drop_all i ls h))

pub returns-in_err-said : goal.returns-in_err-said
returns-in_err-said c =
    let p = err_from_is_err_and c.from_residual.result c.from_residual.ensures.1 in
    rw (p.1, p.2) (one c.loop-line.said c.args.lines.now c.loop-line.line-index _ _ c.loop-line-test.true c.in_err-said.ensures ∙ c.loop-line.invariant)

pub loop-line-preserved : goal.loop-line-preserved
loop-line-preserved c = one c.loop-line.said c.args.lines.now c.loop-line.line-index _ _ c.loop-line-test.true c.in_ok-said.ensures ∙ c.loop-line.invariant

pub returns : goal.returns
returns c = none c.loop-line.said c.args.lines.now c.loop-line.line-index c.loop-line-test.false ∙ c.loop-line.invariant
