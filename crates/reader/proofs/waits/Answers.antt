use Rattle.reader.proofs.waits.Goals as goal
use Rattle.reader.proofs.Takes.{waits}

pub returns : goal.returns
returns c = waits
