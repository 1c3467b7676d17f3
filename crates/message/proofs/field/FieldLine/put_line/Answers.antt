use Rattle.text.proofs.Places.{wrote_more, wrote_as}
use Rattle.message.proofs.Lines.{line_parts}
use Rattle.message.proofs.field.FieldLine.put_line.Goals as goal

pub returns : goal.returns
returns g c = wrote_as _ _ _ (line_parts (g.Self.FieldLine.view c.args.self.now)) (wrote_more _ _ _ _ _ _ _ (wrote_more _ _ _ _ _ _ _ (wrote_more _ _ _ _ _ _ _ c.put_name-n.ensures c.put.ensures) c.put_value.ensures) c.put-2.ensures)
