use Rattle.message_laws.proofs.Rooms.{fit}
use Rattle.message_laws.proofs.chunks_fit.Goals as goal

pub returns : goal.returns
returns c = fit
