use Rattle.proxy_laws.proofs.Calling.{tell_at}
use Rattle.proxy_laws.proofs.calls.tell.Goals as goal

pub returns-clause-promised : goal.returns-clause-promised
returns-clause-promised c = tell_at c.args.fallen c.args.proxy.now c.tell.new.self c.tell.result c.tell.ensures
