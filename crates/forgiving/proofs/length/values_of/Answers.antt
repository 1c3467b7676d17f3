use Rattle.std.proofs.Common.{◌≡◌, true, false, [], ◌∷◌, ◌++◌, vec_items, sym, ap, ◌∙◌, append-nil}
use Rattle.std.proofs.lemmas.List.{map-append}
use Rattle.text.specs.Bytes.{same}
use Rattle.forgiving.specs.Held.{texts, view_field}
use Rattle.forgiving.proofs.Lengths.{all_values, this_value, other_value}
use Rattle.forgiving.proofs.length.values_of.Goals as goal
use Rattle.forgiving.proofs.length.values_of.Goals.{then-eq+in_ok-push, else-eq}

pub loop-field-preserved : goal.loop-field-preserved
loop-field-preserved c = elim c.if-eq.branch [
  | then-eq+in_ok-push w ↦
      let own : same (view_field c.field-item.result).name c.args.name.now ≡ true = ap (λ t. same t c.args.name.now) (sym c.deref.ensures.value) ∙ sym c.eq.ensures ∙ w.if-eq.true in
      let vs = vec_items c.loop-field.values in
      let pushed : texts (vec_items c.if-eq.values) ≡ texts vs ++ ((view_field c.field-item.result).value ∷ []) =
      ap (λ v. texts (vec_items v)) w.values-is ∙ ap texts w.in_ok-push.ensures.items ∙ map-append _ vs (w.as_slice.result ∷ []) ∙ ap (λ t. texts vs ++ (t ∷ [])) w.as_slice.ensures.value in
      rw pushed (this_value c.args.name.now c.args.fields.now c.loop-field.field-index c.field-item.result (texts vs) _ c.loop-field-test.true c.field-item.is c.loop-field.invariant own)
  | else-eq w ↦
      let own : same (view_field c.field-item.result).name c.args.name.now ≡ false = ap (λ t. same t c.args.name.now) (sym c.deref.ensures.value) ∙ sym c.eq.ensures ∙ w.if-eq.false in
      rw w.values-is (other_value c.args.name.now c.args.fields.now c.loop-field.field-index c.field-item.result (texts (vec_items c.loop-field.values)) _ c.loop-field-test.true c.field-item.is c.loop-field.invariant own)
]

pub returns : goal.returns
returns c = sym (c.loop-field.invariant ∙ ap (λ ts. texts (vec_items c.loop-field.values) ++ ts) (all_values c.args.name.now c.args.fields.now c.loop-field.field-index c.loop-field-test.false) ∙ append-nil (texts (vec_items c.loop-field.values)))
