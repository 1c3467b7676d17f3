use Rattle.std.proofs.Common.{◌∷◌, ap, sym, ◌∙◌}
use Rattle.std.proofs.lemmas.List.{take_rest}
use Rattle.forgiving.specs.Views.{undone}
use Rattle.forgiving.proofs.Codes.{coded, uncoded}
use Rattle.forgiving.proofs.path.undo_first.Goals as goal

pub returns-in-Some : goal.returns-in-Some
returns-in-Some c =
    let t = c.args.t.now in
    coded t c.in-Some.byte c.in-Some.ensures.is ∙ ap (λ u. c.in-Some.byte ∷ undone u) (sym (take_rest t 3))

pub returns : goal.returns
returns c = uncoded c.args.t.now _ c.in_ok-byte.rest.now c.in_default.ensures.is c.in_ok-byte.ensures.cases.0
