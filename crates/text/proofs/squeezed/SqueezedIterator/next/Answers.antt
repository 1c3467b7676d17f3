use Rattle.std.proofs.Common.{length, ◌∷◌, sym, ap, ◌∙◌, rules}
use Rattle.text.specs.Bytes.{blank}
use Rattle.text.specs.Trims.{before, squeezed_after}
use Rattle.text.proofs.Folding.{squeezed_first, squeezed_none}
use Rattle.text.proofs.squeezed.SqueezedIterator.next.Goals as goal

pub returns-in-Some-squeezed-clause-steps : goal.returns-in-Some-squeezed-clause-steps
returns-in-Some-squeezed-clause-steps c =
    let run = c.loop-b.self.run in
    let rest = c.in-Some.rest.now in
    sym c.loop-b.invariant ∙ squeezed_first run _ _ rest c.in-Some.ensures.cases.0 ∙ ap (λ o. before o (squeezed_after (blank c.in-Some.b.now) rest)) (sym c.in-Some-squeezed.ensures)
    ∙ ap (λ r. c.in-Some-squeezed.x ∷ squeezed_after r rest) (sym c.is_blank-self.ensures)

pub returns-in-Some-squeezed-clause-goes : goal.returns-in-Some-squeezed-clause-goes
returns-in-Some-squeezed-clause-goes c = let shorter = ap length (returns-in-Some-squeezed-clause-steps c) in search rules

pub loop-b-preserved : goal.loop-b-preserved
loop-b-preserved c =
    let run = c.loop-b.self.run in
    let rest = c.in-Some.rest.now in
    ap (λ r. squeezed_after r rest) c.is_blank-self.ensures ∙ ap (λ o. before o (squeezed_after (blank c.in-Some.b.now) rest)) c.in_default-squeezed.ensures ∙ sym (squeezed_first run _ _ rest c.in-Some.ensures.cases.0) ∙ c.loop-b.invariant

pub returns-clause-steps : goal.returns-clause-steps
returns-clause-steps c =
    let none = squeezed_none c.loop-b.self.run c.loop-b.self.rest.now c.in_default.ensures.cases in
    (sym c.loop-b.invariant ∙ none, none)
