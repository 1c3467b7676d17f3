use Rattle.request_laws.proofs.target.targets_mean.Goals as goal
use Rattle.request_laws.proofs.Targets.{targets_mean}

pub returns : goal.returns
returns c = targets_mean
