use Rattle.message_laws.proofs.Cuts.{cut_free}
use Rattle.message_laws.proofs.chunks_cut_free.Goals as goal

pub returns : goal.returns
returns c = cut_free
