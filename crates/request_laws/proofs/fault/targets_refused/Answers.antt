use Rattle.request_laws.proofs.fault.targets_refused.Goals as goal
use Rattle.request_laws.proofs.TargetFaults.{targets_refused}

pub returns : goal.returns
returns c = targets_refused
