use Rattle.forgiving_laws.proofs.each_fair.Goals as goal
use Rattle.forgiving_laws.proofs.Fairly.{each_fair}

pub returns : goal.returns
returns c = each_fair
