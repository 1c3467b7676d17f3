use Rattle.std.proofs.Common.{◌≡◌, ◌<◌, ◌+◌, ◌-◌, ◌*◌, ℕ, length, take, drop, arith}
use borrow.Rule.Slice.PartMut.{put_mid}
use Rattle.text.specs.Bytes.{Text}
use Rattle.request.specs.Reading.{memory_size}
use Rattle.proxy.specs.Model.{client_count}
use Rattle.proxy.specs.Slots.{slab_size}
use Rattle.proxy.proofs.Hearing.{Moves, moves, fits_so, misfits_so, hands, rests_there, falls_there, not_back}
use Rattle.proxy.proofs.state.Proxy.next.Goals as goal
use Rattle.proxy.proofs.state.Proxy.next.Goals.{After-next, then-memory-ne-SLAB-via-then-memory-ne-SLAB, then-memory-ne-SLAB-via-else-memory-ne-SLAB+then-heard-ge-SERVERS}

-- in a memory of another size, or at a server that there is not, nothing is done
pub returns-then-memory-ne-SLAB : goal.returns-then-memory-ne-SLAB
unfolding slab_size memory_size
returns-then-memory-ne-SLAB c =
    misfits_so c.args.heard c.args.self.now c.args.memory.now (λ e. elim c.then-memory-ne-SLAB.branch [
      | then-memory-ne-SLAB-via-then-memory-ne-SLAB w ↦ absurd (w.if-memory-ne-SLAB.true e)
      | then-memory-ne-SLAB-via-else-memory-ne-SLAB+then-heard-ge-SERVERS w ↦ w.if-heard-ge-SERVERS.true
    ])

-- where the slot of the connection begins, how long it is, what it held, and the memory in which it is written
abbrev start : After-next → ℕ
start c = (16 + c.args.heard.server) * 282624

abbrev size : After-next → ℕ
size c = start c + 282624 - start c

abbrev before : After-next → Text
before c = take (size c) (drop (start c) c.args.memory.now)

abbrev then : After-next → Text
then c = put_mid (start c) (size c) c.args.memory.now c.next.new.memory

-- what is known once the connection was asked for its turn
record Known (c : After-next) : Type 0 where
  slab : length c.args.memory.now ≡ slab_size
  few : c.args.heard.server < 8
  many : length c.args.self.now.clients ≡ client_count
  moved : Moves c.args.heard.server c.args.memory.now (then c) (before c) c.next.new.memory

known : (c : After-next) → Known c
unfolding slab_size memory_size
known c =
    let slab : length c.args.memory.now ≡ slab_size = c.if-memory-ne-SLAB.false in
    let few : c.args.heard.server < 8 = omega arith in
    let sized : size c ≡ memory_size = omega arith in
    record {
      slab = slab;
      few = few;
      many = omega arith;
      moved = moves c.args.heard.server (size c) c.args.memory.now c.next.new.memory slab few sized c.next.auto.memory;
    }

-- a response is handed over
pub returns-in-Ok-Hand : goal.returns-in-Ok-Hand
returns-in-Ok-Hand c =
    let s = (goal.at.returns-in-Ok-Hand c).After-next in
    let k = known s in
    let old = c.args.self.now in
    let new = c.free_if.new.self in
    let heard = c.args.heard in
    let memory = c.args.memory.now in
    let b = c.in-Ok-Hand.busy in
    let x = c.in-Ok-Hand.handed in
    fits_so heard old new memory (then s) _ k.slab k.few (λ servers g h.
    hands servers old memory (then s) (before s) c.next.new.memory g heard k.many k.moved h new b x c.in-Ok-Hand.field-0 c.in-Ok-Hand.field-0-is c.free_if.ensures c.in-Ok-Hand.ensures.turns)

-- the connection is at rest again
pub returns-in-Ok-Rest : goal.returns-in-Ok-Rest
returns-in-Ok-Rest c =
    let s = (goal.at.returns-in-Ok-Rest c).After-next in
    let k = known s in
    let old = c.args.self.now in
    let new = c.rest.new.self in
    let heard = c.args.heard in
    let memory = c.args.memory.now in
    let i = c.in-Ok-Rest.idle in
    fits_so heard old new memory (then s) _ k.slab k.few (λ servers g h.
    rests_there servers old memory (then s) (before s) c.next.new.memory g heard k.many k.moved h new i c.in-Ok-Rest.field-0 c.in-Ok-Rest.field-0-is c.rest.ensures c.in-Ok-Rest.ensures.turns)

-- it goes down
pub returns-in-Ok-Fall : goal.returns-in-Ok-Fall
returns-in-Ok-Fall c =
    let s = (goal.at.returns-in-Ok-Fall c).After-next in
    let k = known s in
    let old = c.args.self.now in
    let heard = c.args.heard in
    let memory = c.args.memory.now in
    fits_so heard old old memory (then s) _ k.slab k.few (λ servers g h.
    falls_there servers old memory (then s) (before s) c.next.new.memory g heard k.many k.moved h c.in-Ok-Fall.falling c.in-Ok-Fall.field-0 c.in-Ok-Fall.field-0-is c.in-Ok-Fall.ensures.turns)

-- in a memory of its size the piece is not given back
pub returns-in-Err : goal.returns-in-Err
returns-in-Err c =
    let s = (goal.at.returns-in-Err c).After-next in
    let k = known s in
    let old = c.args.self.now in
    let heard = c.args.heard in
    let memory = c.args.memory.now in
    fits_so heard old old memory (then s) _ k.slab k.few (λ servers g h.
    not_back servers old memory (then s) (before s) c.next.new.memory g heard k.many k.moved h c.in-Err.busy c.in-Err.ensures.turns)
