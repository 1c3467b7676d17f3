use Rattle.message_laws.proofs.Only.{only_chunks}
use Rattle.message_laws.proofs.only_chunks.Goals as goal

pub returns : goal.returns
returns c = only_chunks
