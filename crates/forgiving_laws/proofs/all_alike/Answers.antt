use Rattle.forgiving_laws.proofs.all_alike.Goals as goal
use Rattle.forgiving_laws.proofs.Alike.{all_alike}

pub returns : goal.returns
returns c = all_alike
