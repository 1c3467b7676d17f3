use Rattle.proxy_laws.proofs.Calling.{server_said_at}
use Rattle.proxy_laws.proofs.calls.server_said.Goals as goal

pub returns-clause-promised : goal.returns-clause-promised
returns-clause-promised c = server_said_at c.args.server c.args.piece.now c.args.proxy.now c.server_said.new.self c.server_said.result c.server_said.ensures
