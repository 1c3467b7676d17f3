use Rattle.std.proofs.Common.{◌≡◌, ◌+◌, ◌-◌, ◌<◌, leb, length, take, sym, ap, ◌∙◌, arith}
use Rattle.std.proofs.lemmas.List.{length-set}
use Rattle.std.proofs.lemmas.Bool.{cond-true, le-leb}
use Rattle.std.proofs.lemmas.Result.{err_from_is_err_and}
use Rattle.message.specs.Sent.{with_fields, view_lines}
use Rattle.message.proofs.Reading.{fields_read, put_line_so}
use Rattle.message.proofs.sent.read_fields.Goals as goal

pub returns-in_err-table-in-Line-clause-is : goal.returns-in_err-table-in-Line-clause-is
returns-in_err-table-in-Line-clause-is c =
    let p = err_from_is_err_and c.from_residual-in_err-table-in-Line.result c.from_residual-in_err-table-in-Line.ensures.1 in
    let wrong = fields_read _ _ c.loop-n.rest.now c.in-Line.bytes.now c.in-Line.more.now _ c.in-Line.ensures.is c.if-is_empty.ensures c.in_err-table-in-Line.ensures.is in
    rw (p.1, p.2)
    (sym (ap (with_fields (view_lines (take c.loop-n.count c.loop-n.table))) wrong)
    ∙ c.loop-n.invariant.so
    ∙ sym (cond-true (leb c.args.start (length c.args.head.now)) _ _ (le-leb c.args.start (length c.args.head.now) c.if-start-head.false)))

pub loop-n-preserved : goal.loop-n-preserved
loop-n-preserved c =
    let room : c.loop-n.count < length c.loop-n.table = omega (arith, c.in_ok-table-in-Line.ensures.allowed) in
    let on : length c.args.head.now - length c.in-Line.more.now ≡ length c.args.head.now - length c.loop-n.rest.now + (length c.in-Line.bytes.now + 2) = omega (arith, c.in-Line.ensures.long, c.loop-n.invariant.part) in
    record {
      full = simp length-set (omega arith);
      part = omega (arith, c.in-Line.ensures.long, c.loop-n.invariant.part);
      so = put_line_so c.loop-n.table c.loop-n.count _ _ c.loop-n.rest.now c.in-Line.bytes.now c.in-Line.more.now c.in_ok-table-in-Line.field-0 _ room c.in-Line.ensures.is c.if-is_empty.ensures c.in_ok-table-in-Line.ensures.is on c.loop-n.invariant.so;
    }
