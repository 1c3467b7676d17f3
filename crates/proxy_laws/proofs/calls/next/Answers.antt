use Rattle.proxy_laws.proofs.Calling.{next_at}
use Rattle.proxy_laws.proofs.calls.next.Goals as goal

pub returns-clause-promised : goal.returns-clause-promised
returns-clause-promised c = next_at c.args.heard c.args.proxy.now c.next.new.self c.args.memory.now c.next.new.memory c.next.result c.next.ensures
