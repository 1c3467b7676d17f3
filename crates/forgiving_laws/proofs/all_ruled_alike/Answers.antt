use Rattle.forgiving_laws.proofs.all_ruled_alike.Goals as goal
use Rattle.forgiving_laws.proofs.Alike.{all_ruled_alike}

pub returns : goal.returns
returns c = all_ruled_alike
