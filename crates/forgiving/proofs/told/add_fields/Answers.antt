use Rattle.std.proofs.Common.{◌++◌, vec_items, ap, ◌∙◌, flat_map}
use Rattle.std.proofs.lemmas.List.{take_all}
use Rattle.message.specs.Fields.{line_of}
use Rattle.forgiving.specs.Held.{view_field}
use Rattle.report.specs.Report.{indented_line}
use Rattle.forgiving.proofs.Telling.{kept}
use Rattle.forgiving.proofs.Telling.{indented_fields}
use Rattle.forgiving.proofs.told.add_fields.Goals as goal

pub returns-in_err-add_field : goal.returns-in_err-add_field
returns-in_err-add_field c = kept (vec_items c.args.text.now) _ _ _ c.from_residual.ensures.0 c.loop-field.invariant c.in_err-add_field.ensures.cases

pub returns : goal.returns
returns c =
    let fields = c.args.fields.now in
    let all = ap (flat_map (λ f. indented_line (line_of (view_field f)))) (take_all c.loop-field.field-index fields c.loop-field-test.false) ∙ indented_fields fields in
    record { cases = c.loop-field.invariant ∙ ap (λ t. vec_items c.args.text.now ++ t) all }
