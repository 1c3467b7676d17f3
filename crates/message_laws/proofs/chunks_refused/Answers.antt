use Rattle.message_laws.proofs.Refused.{refused}
use Rattle.message_laws.proofs.chunks_refused.Goals as goal

pub returns : goal.returns
returns c = refused
