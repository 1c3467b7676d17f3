use Rattle.proxy_laws.proofs.Calling.{goes_on_at}
use Rattle.proxy_laws.proofs.calls.go_on.Goals as goal

pub returns-clause-promised : goal.returns-clause-promised
returns-clause-promised c =
    goes_on_at c.args.proxy.now c.go_on.new.self c.args.memory.now c.go_on.new.memory c.args.unread.now c.args.out.now c.go_on.new.out c.go_on.result c.go_on.ensures
