use Rattle.std.proofs.Common.{rules, ◌≡◌, Ok, Err, Result, refl, ap, subst}
use Rattle.message.specs.declared.fault.Unfit.{Unfit}
use Rattle.request.specs.Found.{passed}
use Rattle.request.specs.SentWriting.{view_sent_request}
use Rattle.proxy.specs.Steps.{OnFinding}
use Rattle.proxy.specs.declared.client.Did.{Did}
use Rattle.proxy.specs.declared.client.Did.TheVariants.{Sent}
use Rattle.proxy.proofs.state.Proxy.take_up.Goals as goal

pub returns-in-Ok : goal.returns-in-Ok
returns-in-Ok c = λ f e.
    let is : passed c.in-Request.server (view_sent_request c.in-Request.request) ≡ f = search rules in
    let did : Result Did Unfit = Ok (Sent c.in-Request.server c.in-Ok.len) in
    subst (λ x. OnFinding c.args.client c.args.reading c.args.out.now c.pass.new.out c.args.self.now c.leaves-in-Ok.new.self did x) is (c.pass.new.self, Ok c.in-Ok.len, c.in-Ok.ensures, (refl, c.leaves-in-Ok.ensures))

pub returns-in-Err : goal.returns-in-Err
returns-in-Err c = λ f e.
    let is : passed c.in-Request.server (view_sent_request c.in-Request.request) ≡ f = search rules in
    let did : Result Did Unfit = Ok c.refuse-in-Err.result in
    subst (λ x. OnFinding c.args.client c.args.reading c.args.out.now c.pass.new.out c.args.self.now c.refuse-in-Err.new.self did x) is
    (c.pass.new.self, Err c.in-Err.fault, c.in-Err.ensures, (ap (λ d. Ok d) c.refuse-in-Err.ensures.told, c.refuse-in-Err.ensures.after))
