use Rattle.connection_laws.proofs.Runs.{at_rest}
use Rattle.connection_laws.proofs.at_rest.Goals as goal

pub returns : goal.returns
returns c = at_rest
