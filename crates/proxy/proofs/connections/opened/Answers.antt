use Rattle.std.proofs.Common.{Bool, cond, Some, None, sym, subst, arith}
use Rattle.std.proofs.lemmas.Bool.{lt-ltb}
use Rattle.connection.specs.Model.{fresh}
use Rattle.proxy.specs.Stands.{ConnPlace}
use Rattle.proxy.proofs.connections.opened.Goals as goal

pub returns-then-server-count : goal.returns-then-server-count
returns-then-server-count c =
    λ slot. subst (λ (b : Bool). ConnPlace slot (Some (Some c.new.result)) (cond b (Some fresh) None)) (sym (lt-ltb c.args.server c.args.count c.if-server-count.true)) (c.new.ensures slot, omega arith)
