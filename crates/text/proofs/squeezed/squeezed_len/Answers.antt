use Rattle.std.proofs.Common.{false, length, ap, rules}
use Rattle.text.proofs.Folding.{length_squeezed}
use Rattle.text.proofs.squeezed.squeezed_len.Goals as goal

pub count-requires-clause-fits : goal.count-requires-clause-fits
count-requires-clause-fits c =
    let short = length_squeezed false c.args.v.now in
    let is = ap length c.new.ensures in
    search rules
