use Rattle.connection_laws.proofs.Ordered.{only_owners}
use Rattle.connection_laws.proofs.only_owners.Goals as goal

pub returns : goal.returns
returns c = only_owners
