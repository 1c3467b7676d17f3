use Rattle.request.specs.SentWriting.{view_sent_request}
use Rattle.connection_laws.proofs.Calling.{asked_at}
use Rattle.connection_laws.proofs.calls.ask.Goals as goal

pub returns-clause-promised : goal.returns-clause-promised
returns-clause-promised g c memory vs d a =
    asked_at g.H.Hearing.way g.met.H.Hearing.steady c.args.client (view_sent_request c.args.request.now) c.args.out.now c.ask.new.out c.args.idle.now c.ask.new.self memory vs d a c.ask.result c.ask.ensures
