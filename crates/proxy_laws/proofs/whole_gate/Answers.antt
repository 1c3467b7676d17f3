use Rattle.proxy_laws.proofs.Whole.{whole_gate}
use Rattle.proxy_laws.proofs.whole_gate.Goals as goal

pub returns : goal.returns
returns c = whole_gate
