use Rattle.script_laws.proofs.path_read.Goals as goal
use Rattle.script_laws.proofs.Good.{path_read}

pub returns : goal.returns
returns c = path_read
