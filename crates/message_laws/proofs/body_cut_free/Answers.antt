use Rattle.message_laws.proofs.Parts.{cut_free}
use Rattle.message_laws.proofs.body_cut_free.Goals as goal

pub returns : goal.returns
returns c = cut_free
