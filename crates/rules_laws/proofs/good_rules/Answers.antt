use Rattle.rules_laws.proofs.good_rules.Goals as goal
use Rattle.rules_laws.proofs.Slashes.{rules_good}

pub returns : goal.returns
returns c = rules_good
