use Rattle.std.proofs.Common.{◌≡◌, ◌++◌, take, vec_items, flat_map}
use Rattle.message.specs.Fields.{line_of}
use Rattle.forgiving.specs.Held.{view_field}
use Rattle.report.specs.Report.{indented_line}
use Rattle.forgiving.proofs.told.add_fields.Given as goal

abbrev pub invariant-loop-field : goal.invariant-loop-field
invariant-loop-field l = vec_items l.text ≡ vec_items l.initial.text ++ flat_map (λ f. indented_line (line_of (view_field f))) (take l.field-index l.fields)
