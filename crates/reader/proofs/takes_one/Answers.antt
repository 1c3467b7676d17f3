use Rattle.reader.proofs.takes_one.Goals as goal
use Rattle.reader.proofs.Takes.{takes_one}

pub returns : goal.returns
returns c = takes_one
