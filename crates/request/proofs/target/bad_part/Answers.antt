use Rattle.std.proofs.Common.{length, sym, ap, ◌∙◌, arith}
use Rattle.std.proofs.lemmas.List.{take_rest}
use Rattle.std.proofs.lemmas.Bool.{cond-false, lt-leb}
use Rattle.text.specs.Marks.{split, pieces_left}
use Rattle.request.proofs.Paths.{parts_all, part_within, parts_good, parts_bad, parts_none}
use Rattle.request.proofs.target.bad_part.Goals as goal

pub loop-part-init : goal.loop-part-init
loop-part-init c =
    let t = c.args.path.now in
    parts_all t _ c.if-path-le1.false (ap pieces_left c.into_iter-part-iterator.ensures.into_iter_gives ∙ c.pieces-part-items.ensures ∙ ap (split 47) (take_rest t 1))

pub overflow_add-at-in-loop-part : goal.overflow_add-at-in-loop-part
overflow_add-at-in-loop-part c = let within = part_within c.args.path.now c.loop-part.at _ _ _ c.loop-part.invariant c.in-Some.ensures.steps in omega (arith, within)

pub loop-part-preserved : goal.loop-part-preserved
loop-part-preserved c = parts_good _ _ _ _ _ c.loop-part.invariant c.in-Some.ensures.steps c.if-is_bad_part.ensures

pub returns-then-is_bad_part : goal.returns-then-is_bad_part
returns-then-is_bad_part c =
    let t = c.args.path.now in
    record {
      is = parts_bad _ _ _ _ _ c.loop-part.invariant c.in-Some.ensures.steps c.if-is_bad_part.ensures ∙ sym (cond-false _ _ _ (lt-leb (length t) 1 c.if-path-le1.false));
      within = part_within t c.loop-part.at _ _ _ c.loop-part.invariant c.in-Some.ensures.steps;
    }

pub returns : goal.returns
returns c =
    let t = c.args.path.now in
    record { is = parts_none _ _ _ c.loop-part.invariant c.in-None.ensures.steps.0 ∙ sym (cond-false _ _ _ (lt-leb (length t) 1 c.if-path-le1.false)); within = tt }
