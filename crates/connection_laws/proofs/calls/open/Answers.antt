use Rattle.connection_laws.proofs.Calling.{opened}
use Rattle.connection_laws.proofs.calls.open.Goals as goal

pub returns : goal.returns
returns g c = opened g.H.Hearing.way g.met.H.Hearing.steady c.new.result c.new.ensures
