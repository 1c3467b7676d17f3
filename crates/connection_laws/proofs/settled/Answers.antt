use Rattle.connection_laws.proofs.Lost.{settled}
use Rattle.connection_laws.proofs.settled.Goals as goal

pub returns : goal.returns
returns c = settled
