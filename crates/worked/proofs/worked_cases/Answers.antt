use Rattle.worked.proofs.Cases.{worked_cases}
use Rattle.worked.proofs.worked_cases.Goals as goal

pub returns : goal.returns
returns c = worked_cases
