use Rattle.request_laws.proofs.Feeding.{cut_free}
use Rattle.request_laws.proofs.cut_free.Goals as goal

pub returns : goal.returns
returns c = cut_free
