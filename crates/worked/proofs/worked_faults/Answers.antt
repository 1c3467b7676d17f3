use Rattle.worked.proofs.Cases.{worked_faults}
use Rattle.worked.proofs.worked_faults.Goals as goal

pub returns : goal.returns
returns c = worked_faults
