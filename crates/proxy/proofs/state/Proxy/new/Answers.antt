use Rattle.std.proofs.Common.{replicate, refl, ap, arith}
use Rattle.request.specs.declared.reading.Reading.{Reading}
use Rattle.proxy.specs.declared.state.Client.TheVariants.{Reads}
use Rattle.proxy.proofs.Opening.{opened_stands}
use Rattle.proxy.proofs.state.Proxy.new.Goals as goal

pub returns : goal.returns
returns c = (
  omega arith,
  c.if-rules-names.false,
  refl,
  λ memory size. opened_stands c.args.names.now c.args.rules.now _ refl (ap (λ (r : Reading). replicate 16 (Reads r)) c.new.ensures) c.new-2.ensures c.new-3.ensures refl (omega arith) memory size,
)
