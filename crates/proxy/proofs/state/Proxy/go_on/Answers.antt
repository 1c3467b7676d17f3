use Rattle.std.proofs.Common.{rules, ◌≡◌, ℕ, ◌+◌, ◌-◌, ◌*◌, ◌<◌, Ok, take, drop, length, refl, sym, ap, ◌∙◌, subst, arith}
use borrow.Rule.Slice.PartMut.{put_mid}
use Rattle.request.specs.Reading.{memory_size}
use Rattle.proxy.specs.Calls.{OnEntry, entry_of}
use Rattle.proxy.specs.Slots.{slab_size, client_slot}
use Rattle.proxy.specs.Steps.{ReadSo}
use Rattle.proxy.proofs.Slots.{slot_here, slot_within}
use Rattle.proxy.proofs.Turning.{entered, goes, passes, reading_place, slot_written}
use Rattle.proxy.specs.declared.client.Turn.{Turn}
use Rattle.proxy.specs.declared.client.Did.TheVariants.{Nothing}
use Rattle.proxy.proofs.state.Proxy.go_on.Goals as goal

pub returns : goal.returns
unfolding memory_size slab_size
returns c =
    let p = c.args.self.now in
    let client = c.in_ok-client.client in
    let memory = c.args.memory.now in
    let slot = c.read.new.slot in
    let k : ℕ = client * memory_size + memory_size - client * memory_size in
    let then = put_mid (client * memory_size) k memory slot in
    let at : entry_of p (length memory) (length c.args.out.now) ≡ Ok client = sym c.entry.ensures.is ∙ c.in_ok-client.was in
    let door = entered p (length memory) (length c.args.out.now) client at in
    let few : client < 16 = c.in-Some.ensures.within in
    let size : k ≡ memory_size = omega arith in
    let long : length slot ≡ memory_size = search rules in
    let within = slot_within client memory door.sized (omega arith) in
    let old_slot : client_slot client memory ≡ take k (drop (client * memory_size) memory) = ap (λ m. take m (drop (client * memory_size) memory)) (sym size) in
    let new_slot : client_slot client then ≡ slot = slot_here client k memory slot size long within in
    let read = subst (λ s. ReadSo client c.in-Some.reading s (client_slot client then) c.args.unread.now c.args.out.now c.read.new.out p c.read.new.self c.read.result) (sym old_slot)
    (subst (λ s. ReadSo client c.in-Some.reading (take k (drop (client * memory_size) memory)) s c.args.unread.now c.args.out.now c.read.new.out p c.read.new.self c.read.result) (sym new_slot) c.read.ensures) in
    subst (λ e. OnEntry p c.read.new.self memory then c.args.unread.now c.args.out.now c.read.new.out c.read.result e) (sym at) (
    λ servers g x st is un short.
    goes servers p c.read.new.self memory then c.args.out.now c.read.new.out g client x c.in-Some.reading c.args.unread.now c.read.result st door.first is un (reading_place _ c.in-Some.reading (sym c.reading_of.ensures.is ∙ c.in-Some.is)) few
    (slot_written client k memory slot size long within) door.roomy short read
    )

pub returns-in_default : goal.returns-in_default
returns-in_default c =
    let p = c.args.self.now in
    let client = c.in_ok-client.client in
    let memory = c.args.memory.now in
    let at : entry_of p (length memory) (length c.args.out.now) ≡ Ok client = sym c.entry.ensures.is ∙ c.in_ok-client.was in
    let door = entered p (length memory) (length c.args.out.now) client at in
    let popped : c.pop_at.new.self.items ≡ drop 1 p.line.items = search rules in
    let nobody = sym c.reading_of.ensures.is ∙ c.in_default.is in
    let turn : Turn = record { client = client; taken = 0; did = Nothing } in
    subst (λ e. OnEntry p (record p { line = c.pop_at.new.self }) memory memory c.args.unread.now c.args.out.now c.args.out.now (Ok turn) e) (sym at) (
    λ servers g x st is un short. (turn, refl, refl, passes servers p c.pop_at.new.self memory c.args.out.now g client x c.args.unread.now st door.first is un nobody popped)
    )
