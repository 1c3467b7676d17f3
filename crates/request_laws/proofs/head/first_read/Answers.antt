use Rattle.request_laws.proofs.head.first_read.Goals as goal
use Rattle.request_laws.proofs.First.{first}

pub returns : goal.returns
returns c = first
