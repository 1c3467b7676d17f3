use Rattle.std.proofs.Common.{◌≡◌, List, ◌∷◌, [], ◌++◌, length, sym, ap, ◌∙◌, arith}
use Rattle.std.proofs.lemmas.Bool.{cond-true, lt-ltb}
use Rattle.connection.specs.declared.owners.Owner.{Owner as Held}
use Rattle.connection.proofs.Round.{length-queued, queued_push}
use Rattle.connection.proofs.owners.Owners.push.Goals as goal

pub returns-clause-after : goal.returns-clause-after
returns-clause-after c =
    let n : length c.args.self.now ≡ c.self.inside.count = sym (ap length c.self.view_is) ∙ length-queued _ _ _ c.self.invariant in
    queued_push _ _ _ c.self.invariant c.args.owner (omega (arith, c.self.invariant.fits))
    ∙ ap (λ (os : List Held). os ++ c.args.owner ∷ []) c.self.view_is
    ∙ sym (cond-true _ _ _ (lt-ltb (length c.args.self.now) 64 (omega (arith, c.self.invariant.fits))))
