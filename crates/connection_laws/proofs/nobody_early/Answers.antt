use Rattle.connection_laws.proofs.Early.{nobody_early}
use Rattle.connection_laws.proofs.nobody_early.Goals as goal

pub returns : goal.returns
returns c = nobody_early
