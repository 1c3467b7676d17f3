use Rattle.connection_laws.proofs.Served.{to_owner}
use Rattle.connection_laws.proofs.to_owner.Goals as goal

pub returns : goal.returns
returns c = to_owner
