use Rattle.script_laws.proofs.read_line.Goals as goal
use Rattle.script_laws.proofs.Good.{line_read_on}

pub returns : goal.returns
returns c = line_read_on _ c.args.line.now _ _ c.read_line.result c.read_line.ensures.takes
