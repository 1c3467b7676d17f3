use Rattle.std.proofs.Common.{◌<◌, length, sym, ap, ◌∙◌, arith}
use Rattle.std.proofs.lemmas.Result.{IfOk-weaker}
use Rattle.reader.specs.Reader.{HeadOf}
use Rattle.forgiving.specs.Held.{texts, view_head}
use Rattle.forgiving.proofs.Fields.{none_left}
use Rattle.forgiving.proofs.Reading.{no_head, some_lines, not_skipped, skipped, held_shorter}
use Rattle.forgiving.proofs.habit.Habit.read_one.Goals as goal

pub returns-in-Some-split_first-clause-is : goal.returns-in-Some-split_first-clause-is
returns-in-Some-split_first-clause-is c =
    let h = c.args.self in
    let rest = c.in-Some.head.rest.now in
    let lines = ap texts (sym c.deref.ensures.value ∙ c.in-Some-split_first.ensures.cases.0) in
    let whole = ap view_head c.in-Some.is ∙ ap (λ ls. HeadOf ls rest) lines in
    let found = some_lines h c.loop-head.rest.now (view_head c.in_ok-head.field-0) c.in_ok-head.ensures.is c.in-Some-split_first.first.now.now (texts c.in-Some-split_first.lines.now) rest whole in
    IfOk-weaker c.read_request.result _ _ (λ g e. e ∙ found ∙ sym c.loop-head.invariant.0) c.read_request.ensures

pub returns-in-Some-split_first-clause-shorter : goal.returns-in-Some-split_first-clause-shorter
returns-in-Some-split_first-clause-shorter c =
    let h = c.args.self in
    let rest = c.in-Some.head.rest.now in
    let lines = ap texts (sym c.deref.ensures.value ∙ c.in-Some-split_first.ensures.cases.0) in
    let whole = ap view_head c.in-Some.is ∙ ap (λ ls. HeadOf ls rest) lines in
    let found = some_lines h c.loop-head.rest.now (view_head c.in_ok-head.field-0) c.in_ok-head.ensures.is c.in-Some-split_first.first.now.now (texts c.in-Some-split_first.lines.now) rest whole in
    IfOk-weaker c.read_request.result _ _ (λ g e. held_shorter h c.args.bytes.now g (e ∙ found ∙ sym c.loop-head.invariant.0)) c.read_request.ensures

pub returns-then-not-skips-clause-is : goal.returns-then-not-skips-clause-is
returns-then-not-skips-clause-is c =
    let rest = c.in-Some.head.rest.now in
    let none = ap texts (sym c.deref.ensures.value) ∙ none_left c.deref.result.now (omega (arith, c.in_default-split_first.ensures.cases)) in
    let whole = ap view_head c.in-Some.is ∙ ap (λ ls. HeadOf ls rest) none in
    not_skipped c.args.self c.loop-head.rest.now (view_head c.in_ok-head.field-0) c.in_ok-head.ensures.is rest whole (sym c.skips.ensures ∙ c.if-not-skips.true) ∙ sym c.loop-head.invariant.0

pub loop-head-preserved : goal.loop-head-preserved
loop-head-preserved c =
    let rest = c.in-Some.head.rest.now in
    let none = ap texts (sym c.deref.ensures.value) ∙ none_left c.deref.result.now (omega (arith, c.in_default-split_first.ensures.cases)) in
    let whole = ap view_head c.in-Some.is ∙ ap (λ ls. HeadOf ls rest) none in
    let less : length c.in-Some.head.rest.now < length c.loop-head.rest.now = rw c.in-Some.is at c.in_ok-head.ensures.shorter in
    (c.loop-head.invariant.0 ∙ skipped c.args.self c.loop-head.rest.now (view_head c.in_ok-head.field-0) c.in_ok-head.ensures.is rest whole less (sym c.skips.ensures ∙ c.if-not-skips.false), omega arith)

pub returns-clause-is : goal.returns-clause-is
returns-clause-is c = no_head c.args.self c.loop-head.rest.now (view_head c.in_ok-head.field-0) c.in_ok-head.ensures.is (ap view_head c.in_default.is) ∙ sym c.loop-head.invariant.0
