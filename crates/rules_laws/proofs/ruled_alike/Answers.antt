use Rattle.rules_laws.proofs.ruled_alike.Goals as goal
use Rattle.rules_laws.proofs.Alike.{ruled_alike}

pub returns : goal.returns
returns c = ruled_alike
