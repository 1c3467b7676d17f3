use Rattle.std.proofs.Common.{length, ap, arith}
use Rattle.std.proofs.lemmas.List.{length-append}
use Rattle.message.proofs.Lines.{field_bytes_more}
use Rattle.message.proofs.field.fields_len.Goals as goal

pub loop-f-preserved : goal.loop-f-preserved
loop-f-preserved g c =
    let more = simp length-append at (ap length (field_bytes_more g.F.FieldLine.view c.args.fields.now c.loop-f.f-index c.f-item.result c.loop-f-test.true c.f-item.is)) in
    omega (arith, c.loop-f.invariant, c.line_len-line.ensures, c.saturating_add-n.ensures, more)
