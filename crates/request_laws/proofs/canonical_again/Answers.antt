use Rattle.std.proofs.Common.{refl}
use Rattle.request.specs.Canonical.{write}
use Rattle.request_laws.proofs.Again.{spelled_again}
use Rattle.request_laws.proofs.Requests.{read_iff_spelled}
use Rattle.request_laws.proofs.canonical_again.Goals as goal

pub returns : goal.returns
returns c names h s k q n e rest =
    let p = (read_iff_spelled names s k q n).0 e in
    (read_iff_spelled names _ k q _).1 (write q, rest, refl, refl, spelled_again names p.0 k q h p.4)
