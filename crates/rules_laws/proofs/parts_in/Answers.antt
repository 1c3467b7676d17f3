use Rattle.rules_laws.proofs.parts_in.Goals as goal
use Rattle.rules_laws.proofs.Slashes.{parts_in_target}

pub returns : goal.returns
returns c = parts_in_target
