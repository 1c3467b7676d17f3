use Rattle.connection_laws.proofs.Calling.{heard_at}
use Rattle.connection_laws.proofs.calls.hear.Goals as goal

pub returns : goal.returns
returns g c = heard_at g.H.Hearing.way g.met.H.Hearing.steady c.args.idle c.args.piece.now c.hear.result c.hear.ensures
