use Rattle.std.proofs.Common.{◌≡◌, sym, ap, ap₂, ◌∙◌}
use Rattle.std.proofs.lemmas.List.{take_rest}
use Rattle.std.proofs.lemmas.Result.{IfOk-weaker}
use Rattle.forgiving.specs.Common.{only_chunked}
use Rattle.forgiving.specs.Readers.{lengths, encodings}
use Rattle.forgiving.specs.Parts.{size_with}
use Rattle.forgiving.specs.Held.{texts, view_fields}
use Rattle.forgiving.proofs.Sizes.{by_length, not_yet, chunked, neither}
use Rattle.forgiving.proofs.habit.Habit.read_body.Goals as goal

pub returns-in-Some : goal.returns-in-Some
returns-in-Some c =
    let fs = view_fields c.args.fields.now in
    let s = c.args.bytes.now in
    let es : texts c.as_slice-encodings.result.now ≡ encodings fs = ap texts c.as_slice-encodings.ensures.value ∙ c.in_ok-encodings.ensures in
    let vs : texts c.as_slice-lengths.result.now ≡ lengths fs = ap texts c.as_slice-lengths.ensures.value ∙ c.in_ok-lengths.ensures in
    let size = c.in-Some.ensures ∙ ap₂ (λ x y. size_with c.args.self c.args.method.now x y) es vs in
    λ t. by_length c.args.self c.args.method.now t fs s c.in-Some.n size c.if-n-bytes.true _ _ c.in_ok-body-in-Some.ensures.items (take_rest s c.in-Some.n)

pub returns-in-Some-2 : goal.returns-in-Some-2
returns-in-Some-2 c =
    let fs = view_fields c.args.fields.now in
    let s = c.args.bytes.now in
    let es : texts c.as_slice-encodings.result.now ≡ encodings fs = ap texts c.as_slice-encodings.ensures.value ∙ c.in_ok-encodings.ensures in
    let vs : texts c.as_slice-lengths.result.now ≡ lengths fs = ap texts c.as_slice-lengths.ensures.value ∙ c.in_ok-lengths.ensures in
    let size = c.in-Some.ensures ∙ ap₂ (λ x y. size_with c.args.self c.args.method.now x y) es vs in
    λ t. not_yet c.args.self c.args.method.now t fs s c.in-Some.n size c.if-n-bytes.false

pub returns-in-None : goal.returns-in-None
returns-in-None c =
    let fs = view_fields c.args.fields.now in
    let s = c.args.bytes.now in
    let es : texts c.as_slice-encodings.result.now ≡ encodings fs = ap texts c.as_slice-encodings.ensures.value ∙ c.in_ok-encodings.ensures in
    let vs : texts c.as_slice-lengths.result.now ≡ lengths fs = ap texts c.as_slice-lengths.ensures.value ∙ c.in_ok-lengths.ensures in
    let size = c.in-None.ensures ∙ ap₂ (λ x y. size_with c.args.self c.args.method.now x y) es vs in
    let only = sym (c.if-is_only_chunked.ensures ∙ ap₂ only_chunked es vs) in
    IfOk-weaker c.read_chunks.result _ _ (λ g h t. h c.args.method.now t fs ∙ chunked c.args.self c.args.method.now t fs s size only) c.read_chunks.ensures

pub returns : goal.returns
returns c =
    let fs = view_fields c.args.fields.now in
    let s = c.args.bytes.now in
    let es : texts c.as_slice-encodings.result.now ≡ encodings fs = ap texts c.as_slice-encodings.ensures.value ∙ c.in_ok-encodings.ensures in
    let vs : texts c.as_slice-lengths.result.now ≡ lengths fs = ap texts c.as_slice-lengths.ensures.value ∙ c.in_ok-lengths.ensures in
    let size = c.in-None-2.ensures ∙ ap₂ (λ x y. size_with c.args.self c.args.method.now x y) es vs in
    let only = sym (c.if-is_only_chunked.ensures ∙ ap₂ only_chunked es vs) in
    λ t. neither c.args.self c.args.method.now t fs s size only
