use Rattle.reader.proofs.reads_so.Goals as goal
use Rattle.reader.proofs.Moments.{reads_so}

pub returns : goal.returns
returns c = reads_so
