use Rattle.std.proofs.Common.{take}
use Rattle.text.specs.Bytes.{Wrote}
use Rattle.message.specs.Views.{fields_by, field_bytes}
use Rattle.message.proofs.field.put_fields.Given as goal

abbrev pub invariant-loop-f : goal.invariant-loop-f
invariant-loop-f g l = Wrote (field_bytes (fields_by g.F.FieldLine.view (take l.f-index l.fields))) l.initial.out l.out l.n
