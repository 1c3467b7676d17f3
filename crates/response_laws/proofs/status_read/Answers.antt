use Rattle.response_laws.proofs.StatusLines.{status_read}
use Rattle.response_laws.proofs.status_read.Goals as goal

pub returns : goal.returns
returns c = status_read
