use Rattle.reader.proofs.one_reading.Goals as goal
use Rattle.reader.proofs.Once.{one_reading}

pub returns : goal.returns
returns c = one_reading
