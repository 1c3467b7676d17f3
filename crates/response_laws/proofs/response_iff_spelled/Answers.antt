use Rattle.response_laws.proofs.Responses.{response_iff_spelled}
use Rattle.response_laws.proofs.response_iff_spelled.Goals as goal

pub returns : goal.returns
returns c = response_iff_spelled
