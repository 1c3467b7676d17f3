use Rattle.std.proofs.Common.{◌≡◌, ◌++◌, ◌∷◌, [], vec_items, sym, ap, ◌∙◌, arith}
use Rattle.std.proofs.lemmas.List.{map-append}
use Rattle.std.proofs.lemmas.Bool.{eqb-true, eqb-false}
use Rattle.forgiving.specs.Held.{texts}
use Rattle.forgiving.proofs.Heads.{behind, head_at, head_more, head_ended, head_short}
use Rattle.forgiving.proofs.habit.Habit.read_head.Goals as goal

pub returns-then-is_empty-clause-is : goal.returns-then-is_empty-clause-is
returns-then-is_empty-clause-is c =
    head_ended c.args.self c.args.bytes.now (texts (vec_items c.loop-line.lines)) c.loop-line.rest.now c.loop-line.invariant.0 c.in-Some.line.now c.in-Some.more.now
    (eqb-true _ 0 (sym c.is_empty.ensures ∙ c.if-is_empty.true)) c.in-Some.ensures.is

pub loop-line-preserved : goal.loop-line-preserved
loop-line-preserved c =
    let ls = vec_items c.loop-line.lines in
    let one = head_more c.args.self c.args.bytes.now (texts ls) c.loop-line.rest.now c.loop-line.invariant.0 c.in-Some.line.now c.in-Some.more.now (eqb-false _ 0 (sym c.is_empty.ensures ∙ c.if-is_empty.false)) c.in-Some.ensures.is in
    let pushed : texts (vec_items c.push.new.self) ≡ texts ls ++ (c.in-Some.line.now ∷ []) = ap texts c.in_ok-push.ensures.items ∙ map-append _ ls _ in
    (one ∙ ap (λ ms. behind ms (head_at c.args.self c.in-Some.more.now)) (sym pushed), omega (arith, c.in-Some.ensures.shorter))

pub returns-clause-is : goal.returns-clause-is
returns-clause-is c = head_short c.args.self c.args.bytes.now (texts (vec_items c.loop-line.lines)) c.loop-line.rest.now c.loop-line.invariant.0 c.in_default.ensures.is
