use Rattle.rules_laws.proofs.untouched_is_fair.Goals as goal
use Rattle.rules_laws.proofs.Alike.{untouched_fair}

pub returns : goal.returns
returns c = untouched_fair
