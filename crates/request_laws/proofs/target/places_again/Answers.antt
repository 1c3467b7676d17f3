use Rattle.request_laws.proofs.target.places_again.Goals as goal
use Rattle.request_laws.proofs.Targets.{places_again}

pub returns : goal.returns
returns c = places_again
