use Rattle.message_laws.proofs.Cuts.{stay}
use Rattle.message_laws.proofs.chunks_stay.Goals as goal

pub returns : goal.returns
returns c = stay
