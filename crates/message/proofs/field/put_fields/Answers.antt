use Rattle.text.proofs.Places.{wrote_as, wrote_more}
use Rattle.message.proofs.Lines.{field_bytes_more}
use Rattle.message.proofs.field.put_fields.Goals as goal

pub loop-f-preserved : goal.loop-f-preserved
loop-f-preserved g c =
    wrote_as _ _ _ (field_bytes_more g.F.FieldLine.view c.args.fields.now c.loop-f.f-index c.f-item.result c.loop-f-test.true c.f-item.is) (wrote_more _ _ _ _ _ _ _ c.loop-f.invariant c.put_line-n.ensures)
