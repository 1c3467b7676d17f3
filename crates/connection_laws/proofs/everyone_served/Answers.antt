use Rattle.connection_laws.proofs.Ordered.{everyone_served}
use Rattle.connection_laws.proofs.everyone_served.Goals as goal

pub returns : goal.returns
returns c = everyone_served
