use Rattle.std.proofs.Common.{map, take, sym, ap, ◌∙◌}
use Rattle.std.proofs.lemmas.List.{map-id}
use Rattle.std.proofs.lemmas.Result.{IfOk-weaker}
use Rattle.text.specs.Marks.{before}
use Rattle.rules.specs.Rules.{parts_of}
use Rattle.forgiving.specs.Views.{undone, undone_twice, view_with}
use Rattle.forgiving.specs.Parts.{part_by}
use Rattle.forgiving.proofs.Seeing.{seen_parts}
use Rattle.forgiving.proofs.habit.Habit.see.Goals as goal

pub returns-in_ok-twice-in-UndoneTwice : goal.returns-in_ok-twice-in-UndoneTwice
returns-in_ok-twice-in-UndoneTwice c =
    let t = c.args.target.now in
    let path = take (before 63 t) t in
    let is = c.in-UndoneTwice.is in
    let once = c.deref.ensures.value ∙ c.in_ok-once-in-UndoneTwice.ensures ∙ ap (λ n. undone (take n t)) c.span_before.ensures.is in
    let twice = c.deref-in-UndoneTwice.ensures.value ∙ c.in_ok-twice-in-UndoneTwice.ensures ∙ ap undone once in
    let parts = ap (λ u. map (part_by c.args.self) (parts_of u)) twice ∙ ap (λ h. map (part_by h) (parts_of (undone_twice path))) is ∙ map-id (parts_of (undone_twice path)) ∙ sym (ap (λ h. (view_with h).see t) is) in
    IfOk-weaker c.see_parts.result _ _ (λ ps e. e ∙ parts) c.see_parts.ensures

pub returns-in_default : goal.returns-in_default
returns-in_default c =
    let t = c.args.target.now in
    let parts = ap (λ n. map (part_by c.args.self) (parts_of (take n t))) c.span_before.ensures.is ∙ seen_parts c.args.self t c.in_default.not-UndoneTwice in
    IfOk-weaker c.see_parts-in_default.result _ _ (λ ps e. e ∙ parts) c.see_parts-in_default.ensures
