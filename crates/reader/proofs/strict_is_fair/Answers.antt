use Rattle.reader.proofs.strict_is_fair.Goals as goal
use Rattle.reader.proofs.Strictly.{strict_is_fair}

pub returns : goal.returns
returns c = strict_is_fair
