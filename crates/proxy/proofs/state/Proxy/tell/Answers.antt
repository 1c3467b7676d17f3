use Rattle.std.proofs.Common.{◌≡◌, length, arith}
use Rattle.proxy.specs.Model.{client_count}
use Rattle.proxy.proofs.Telling.{tells_one, tells_all}
use Rattle.proxy.proofs.state.Proxy.tell.Goals as goal

pub returns-in-Tell : goal.returns-in-Tell
returns-in-Tell c =
    let many : length c.args.self.now.clients ≡ client_count = omega arith in
    λ servers memory g t. tells_one servers c.args.self.now memory g c.args.fallen many t c.free.new.self c.in-Tell.falling c.in-Tell.owner c.free.ensures c.in-Tell.ensures

pub returns-in-Rest : goal.returns-in-Rest
returns-in-Rest c =
    let many : length c.args.self.now.clients ≡ client_count = omega arith in
    λ servers memory g t. tells_all servers c.args.self.now memory g c.args.fallen many t c.rest.new.self c.in-Rest.idle c.rest.ensures c.in-Rest.ensures
