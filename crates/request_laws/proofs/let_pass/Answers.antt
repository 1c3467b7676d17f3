use Rattle.request_laws.proofs.Passes.{spelled_passes}
use Rattle.request_laws.proofs.Requests.{read_iff_spelled}
use Rattle.request_laws.proofs.let_pass.Goals as goal

pub returns : goal.returns
returns c names s k q n e = let p = (read_iff_spelled names s k q n).0 e in spelled_passes names p.0 k q p.4
