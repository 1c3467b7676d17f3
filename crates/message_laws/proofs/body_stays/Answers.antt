use Rattle.message_laws.proofs.Parts.{stay}
use Rattle.message_laws.proofs.body_stays.Goals as goal

pub returns : goal.returns
returns c = stay
