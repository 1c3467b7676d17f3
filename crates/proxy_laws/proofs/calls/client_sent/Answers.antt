use Rattle.proxy_laws.proofs.Calling.{client_sent_at}
use Rattle.proxy_laws.proofs.calls.client_sent.Goals as goal

pub returns-clause-promised : goal.returns-clause-promised
returns-clause-promised c = client_sent_at c.args.client c.args.proxy.now c.client_sent.new.self c.client_sent.result c.client_sent.ensures
