use Rattle.std.proofs.Common.{Err, refl, sym, ◌∙◌, subst}
use Rattle.message.specs.declared.fault.Fault.TheVariants.{Denied}
use Rattle.request.specs.SentWriting.{view_sent_request}
use Rattle.proxy.specs.Steps.{OnRules}
use Rattle.proxy.proofs.state.Proxy.pass.Goals as goal

pub returns-then-not-allows : goal.returns-then-not-allows
returns-then-not-allows c =
    subst (λ b. OnRules c.args.client c.args.server (view_sent_request c.args.request.now) c.args.out.now c.args.out.now c.args.self.now c.args.self.now (Err Denied) b) (sym c.if-not-allows.true ∙ c.allows.ensures) (refl, refl, refl)

pub returns : goal.returns
returns c =
    let new = record c.args.self.now { connections = c.ask.new.self } in
    subst (λ b. OnRules c.args.client c.args.server (view_sent_request c.args.request.now) c.args.out.now c.ask.new.out c.args.self.now new c.ask.result b) (sym c.if-not-allows.false ∙ c.allows.ensures) (c.ask.ensures, refl)
