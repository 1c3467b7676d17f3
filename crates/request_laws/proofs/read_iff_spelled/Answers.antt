use Rattle.request_laws.proofs.read_iff_spelled.Goals as goal
use Rattle.request_laws.proofs.Requests.{read_iff_spelled}

pub returns : goal.returns
returns c = read_iff_spelled
