use Rattle.request_laws.proofs.TargetFaults.{targets_read}
use Rattle.request_laws.proofs.target.targets_read.Goals as goal

pub returns : goal.returns
returns c = targets_read
