use Rattle.std.proofs.Common.{◌≡◌, [], ◌∷◌, ◌++◌, Some, None, vec_items, refl, sym, ap, ◌∙◌, arith}
use Rattle.std.specs.Option.{option_map}
use Rattle.std.proofs.lemmas.List.{map-append}
use Rattle.forgiving.specs.Parts.{field_by}
use Rattle.forgiving.specs.Held.{texts, view_field, view_fields}
use Rattle.forgiving.proofs.Fields.{fields_at, fields_with, step, all_read, one_read, none_read, fewer, none_left}
use Rattle.forgiving.proofs.habit.Habit.read_fields.Goals as goal

pub returns-in_default-2 : goal.returns-in_default-2
returns-in_default-2 c =
    let h = c.args.self in
    let ls = texts c.args.lines.now in
    let rest = c.loop-rest.rest.now in
    let line = vec_items c.in_ok-line.line in
    let one = step h rest _ _ c.continued-n.result line c.in-len1-up.len_at_least refl c.continued-n.ensures.is c.in_ok-line.ensures in
    let none : None ≡ field_by h line = sym (ap (option_map view_field) c.in_default-2.is) ∙ c.in_ok-field.ensures ∙ ap (field_by h) c.deref.ensures.value in
    none_read h (fields_at h ls) (view_fields (vec_items c.loop-rest.fields)) (texts rest) c.loop-rest.invariant.0 line _ one none ∙ sym (fields_with h ls)

pub offset_bounds-others-n : goal.offset_bounds-others-n
offset_bounds-others-n c = omega arith

pub loop-rest-preserved : goal.loop-rest-preserved
loop-rest-preserved c =
    let h = c.args.self in
    let rest = c.loop-rest.rest.now in
    let fs = vec_items c.loop-rest.fields in
    let line = vec_items c.in_ok-line.line in
    let f = view_field c.in-Some.field in
    let one = step h rest _ _ c.continued-n.result line c.in-len1-up.len_at_least refl c.continued-n.ensures.is c.in_ok-line.ensures in
    let some : Some f ≡ field_by h line = sym (ap (option_map view_field) c.in-Some.is) ∙ c.in_ok-field.ensures ∙ ap (field_by h) c.deref.ensures.value in
    let pushed : view_fields (vec_items c.push.new.self) ≡ view_fields fs ++ (f ∷ []) = ap view_fields c.in_ok-push.ensures.items ∙ map-append view_field fs (c.in-Some.field ∷ []) in (
      rw pushed (one_read h (fields_at h (texts c.args.lines.now)) (view_fields fs) (texts rest) c.loop-rest.invariant.0 line _ f one some),
      omega (arith, fewer rest _ c.continued-n.result refl),
    )

pub returns : goal.returns
returns c =
    let h = c.args.self in
    let ls = texts c.args.lines.now in
    all_read h (fields_at h ls) (view_fields (vec_items c.loop-rest.fields)) (texts c.loop-rest.rest.now) c.loop-rest.invariant.0 (none_left c.loop-rest.rest.now c.in_default.len_below) ∙ sym (fields_with h ls)
