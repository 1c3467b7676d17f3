use Rattle.std.proofs.Common.{◌≡◌, length, sym, ap, ◌∙◌, arith}
use Rattle.std.proofs.lemmas.Bool.Decides.{nat_tests}
use Rattle.connection.proofs.Round.{length-queued}
use Rattle.connection.proofs.owners.Owners.is_full.Goals as goal

pub returns : goal.returns
returns c =
    let n : length c.args.self.now ≡ c.self.inside.count = sym (ap length c.self.view_is) ∙ length-queued _ _ _ c.self.invariant in
    rw n (grind (arith, nat_tests, c.self.invariant.fits))
