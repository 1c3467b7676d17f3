use Rattle.std.proofs.Common.{◌∷◌, length, sym, ap, ◌∙◌, rules}
use Rattle.std.specs.Option.{option_map}
use Rattle.text.specs.Marks.{split_rest}
use Rattle.text.proofs.Marking.{pieced, split_cut}
use Rattle.text.proofs.mark.SplitIterator.next.Goals as goal

pub returns-in_default-clause-steps : goal.returns-in_default-clause-steps
returns-in_default-clause-steps c =
    let m = c.args.self.now.mark in
    let t = c.in_ok-rest.rest.now in
    ap (λ o. split_rest m (option_map (λ x. x.now) o)) (sym c.in_ok-rest.ensures.value) ∙ split_cut m t ∙ ap (pieced m t) (sym c.in_default.ensures)
    ∙ ap (λ o. t ∷ split_rest m (option_map (λ x. x.now) o)) (sym c.in_ok-rest.ensures.after)

pub returns-in_default-clause-goes : goal.returns-in_default-clause-goes
returns-in_default-clause-goes c = let shorter = ap length (returns-in_default-clause-steps c) in search rules

pub returns-clause-steps : goal.returns-clause-steps
returns-clause-steps c =
    let m = c.args.self.now.mark in
    let t = c.in_ok-rest.rest.now in
    ap (λ o. split_rest m (option_map (λ x. x.now) o)) (sym c.in_ok-rest.ensures.value) ∙ split_cut m t ∙ ap (pieced m t) (sym c.in-Some.ensures)

pub returns-clause-goes : goal.returns-clause-goes
returns-clause-goes c = let shorter = ap length (returns-clause-steps c) in search rules
