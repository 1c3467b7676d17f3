use Rattle.std.proofs.Common.{◌≡◌, length, take}
use Rattle.text.specs.Bytes.{capped}
use Rattle.message.specs.Views.{fields_by, field_bytes}
use Rattle.message.proofs.field.fields_len.Given as goal

abbrev pub invariant-loop-f : goal.invariant-loop-f
invariant-loop-f g l = l.n ≡ capped (length (field_bytes (fields_by g.F.FieldLine.view (take l.f-index l.fields))))
