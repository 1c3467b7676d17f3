use Rattle.request_laws.proofs.OnePiece.{begins}
use Rattle.request_laws.proofs.piece.begins.Goals as goal

pub returns : goal.returns
returns c = begins
