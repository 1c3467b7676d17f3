use Rattle.connection_laws.proofs.Grows.{only_grows}
use Rattle.connection_laws.proofs.only_grows.Goals as goal

pub returns : goal.returns
returns c = only_grows
