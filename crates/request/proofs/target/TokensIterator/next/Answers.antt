use Rattle.std.proofs.Common.{◌∷◌, length, drop, ap, sym, ◌∙◌, rules}
use Rattle.std.proofs.lemmas.List.{take_rest}
use Rattle.request.specs.Targets.{tokens}
use Rattle.request.proofs.Paths.{none_first, some_first}
use Rattle.request.proofs.target.TokensIterator.next.Goals as goal

pub returns-in_err-token-clause-steps : goal.returns-in_err-token-clause-steps
returns-in_err-token-clause-steps c = let none = none_first c.args.self.now.0.now c.in_err-token.ensures.is in search rules

pub returns-clause-steps : goal.returns-clause-steps
returns-clause-steps c =
    let t = c.args.self.now.0.now in
    let k = c.in_ok-token.token in
    some_first t k c.in_ok-token.ensures.is ∙ ap (λ n. k ∷ tokens n) (sym (take_rest t c.width.result ∙ ap (λ n. drop n t) c.width.ensures))

pub returns-clause-goes : goal.returns-clause-goes
returns-clause-goes c = let shorter = ap length (returns-clause-steps c) in search rules
