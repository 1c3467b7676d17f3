use Rattle.text_laws.proofs.squeezes.Goals as goal
use Rattle.text_laws.proofs.Runs.{squeezes}

pub returns : goal.returns
returns c = squeezes
