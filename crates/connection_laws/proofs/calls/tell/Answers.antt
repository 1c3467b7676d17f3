use Rattle.connection_laws.proofs.Calling.{told_at}
use Rattle.connection_laws.proofs.calls.tell.Goals as goal

pub returns : goal.returns
returns g c vs d done a = told_at g.H.Hearing.way g.met.H.Hearing.steady c.args.falling vs d done c.tell.result a (c.tell.ensures d done a.falls)
