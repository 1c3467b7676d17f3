use Rattle.response_laws.proofs.Fed.{cut_free}
use Rattle.response_laws.proofs.cut_free.Goals as goal

pub returns : goal.returns
returns c = cut_free
