use Rattle.response_laws.proofs.Again.{copy_again}
use Rattle.response_laws.proofs.copy_again.Goals as goal

pub returns : goal.returns
returns c = copy_again
