use Rattle.std.proofs.Common.{◌≡◌, ◌+◌, ◌-◌, ◌*◌, ℕ, length, subst, arith}
use Rattle.request.specs.Reading.{memory_size}
use Rattle.request.specs.Writing.{Written}
use Rattle.proxy.specs.Slots.{slab_size}
use Rattle.proxy.proofs.Hearing.{written_there}
use Rattle.proxy.proofs.server.Answer.write.Goals as goal

pub returns : goal.returns
unfolding slab_size memory_size
returns c =
    let a : ℕ = (16 + c.args.self.now.server) * 282624 in
    let k : ℕ = a + 282624 - a in
    let sized : k ≡ memory_size = omega arith in
    let slab : length c.args.memory.now ≡ slab_size = c.if-memory-ne-SLAB.false in
    subst (λ t. Written t c.args.out.now c.write.new.out c.write.result) (written_there c.args.self.now k c.args.memory.now slab c.if-self-ge-SERVERS.false sized) c.write.ensures
