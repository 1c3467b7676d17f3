use Rattle.message_laws.proofs.Bodies.{read}
use Rattle.message_laws.proofs.chunks_read.Goals as goal

pub returns : goal.returns
returns c = read
