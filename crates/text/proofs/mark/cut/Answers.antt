use Rattle.std.proofs.Common.{◌==◌, ◌+◌, take, Some, ap, ◌∙◌, rules}
use Rattle.std.specs.Option.{option_map}
use Rattle.std.proofs.lemmas.Iterator.{YieldsList-from_slice}
use Rattle.std.proofs.lemmas.Iterator.Search.{position_from_yields_List}
use Rattle.std.proofs.lemmas.List.{take_rest}
use Rattle.text.proofs.Marking.{cut_found}
use Rattle.text.proofs.mark.cut.Goals as goal

pub returns-in_err-i : goal.returns-in_err-i
returns-in_err-i c =
    let s = c.args.s.now in
    let m = c.args.mark in
    ap (option_map (λ p. (p.0.now, p.1.now))) c.from_residual.ensures
    ∙ cut_found m s _ (position_from_yields_List (λ b. b == m) _ _ _ c.in_err-i.ensures.ran (YieldsList-from_slice s c.iter.ensures.rest) (λ x b q k. search rules))

pub returns : goal.returns
returns c =
    let s = c.args.s.now in
    let m = c.args.mark in
    let i = c.in_ok-i.i in
    ap (λ t. Some (take i s, t)) (take_rest s (i + 1)) ∙ cut_found m s (Some i) (position_from_yields_List (λ b. b == m) _ _ _ c.in_ok-i.ensures.ran (YieldsList-from_slice s c.iter.ensures.rest) (λ x b q k. search rules))
