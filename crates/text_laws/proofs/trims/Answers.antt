use Rattle.text_laws.proofs.trims.Goals as goal
use Rattle.text_laws.proofs.Ends.{trims}

pub returns : goal.returns
returns c = trims
