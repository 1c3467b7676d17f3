use Rattle.script.specs.Scripts.{script_in}
use Rattle.script_laws.proofs.start.Goals as goal
use Rattle.script_laws.proofs.Good.{unread_read}

pub returns : goal.returns
returns c = unread_read (script_in c.new.result) c.new.ensures
