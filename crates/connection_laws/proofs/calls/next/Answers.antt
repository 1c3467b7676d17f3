use Rattle.connection_laws.proofs.Calling.{next_at}
use Rattle.connection_laws.proofs.calls.next.Goals as goal

pub returns : goal.returns
returns g c vs d a = next_at g.H.Hearing.way g.met.H.Hearing.steady c.args.busy c.args.memory.now c.next.new.memory vs d c.next.result a (c.next.ensures.turns d a.pends)
