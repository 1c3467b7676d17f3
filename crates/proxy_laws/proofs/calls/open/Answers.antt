use Rattle.proxy_laws.proofs.Calling.{opens_at}
use Rattle.proxy_laws.proofs.calls.open.Goals as goal

pub returns-clause-promised : goal.returns-clause-promised
returns-clause-promised c = opens_at c.args.names.now c.args.rules.now c.new.result c.new.ensures
