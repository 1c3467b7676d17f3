use Rattle.connection_laws.proofs.Lost.{nothing_is_lost}
use Rattle.connection_laws.proofs.nothing_is_lost.Goals as goal

pub returns : goal.returns
returns c = nothing_is_lost
