use Rattle.response_laws.proofs.Steadily.{steady_ear}
use Rattle.response_laws.proofs.steady_ear.Goals as goal

pub returns : goal.returns
returns c = steady_ear
