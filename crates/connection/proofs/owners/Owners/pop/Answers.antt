use Rattle.std.proofs.Common.{[], drop, sym, ap, ◌∙◌, arith}
use Rattle.connection.proofs.Round.{queued_pop}
use Rattle.connection.proofs.owners.Owners.pop.Goals as goal

pub returns-clause-after : goal.returns-clause-after
returns-clause-after c =
    ap (drop 1) (sym (queued_pop _ _ _ c.self.invariant record { client = 0; number = 0; letters = []; method_len = 0 } (omega arith)) ∙ c.self.view_is)
