use Rattle.connection_laws.proofs.Runs.{cut_free}
use Rattle.connection_laws.proofs.cut_free.Goals as goal

pub returns : goal.returns
returns c = cut_free
