use Rattle.std.proofs.Common.{◌^◌, ◌<◌, length, take, sym, ap, ◌∙◌, arith}
use Rattle.std.proofs.lemmas.List.{length-take-le}
use Rattle.message.specs.Chunked.{fed_by, held_by}
use Rattle.message.specs.declared.chunked.Fed.{Fed}
use Rattle.forgiving.proofs.Bodies.{taken_within, body_within, fed_is, never, body_is, on_more, on_wrong, on_whole}
use Rattle.forgiving.proofs.body.read_chunks.Goals as goal

pub unreachable-requires : goal.unreachable-requires
unreachable-requires c =
    let s = c.args.bytes.now in
    let zeros = c.deref_mut.result.now in
    let small : length c.args.bytes.now < 2 ^ 64 = omega arith in
    never s zeros (c.deref_mut.ensures.len ∙ c.in_ok-memory.ensures.len) small c.in_default.field-0 (c.in_default.ensures.told ∙ ap (λ k. fed_by k (length zeros) s) c.new.ensures)

pub returns-in-More : goal.returns-in-More
returns-in-More c =
    let s = c.args.bytes.now in
    let zeros = c.deref_mut.result.now in
    let small : length c.args.bytes.now < 2 ^ 64 = omega arith in
    λ m t fs. on_more s zeros (c.deref_mut.ensures.len ∙ c.in_ok-memory.ensures.len) small c.in-Ok.fed (c.in-Ok.ensures.told ∙ ap (λ k. fed_by k (length zeros) s) c.new.ensures) m t fs c.in-More.is

pub returns-in-Wrong : goal.returns-in-Wrong
returns-in-Wrong c =
    let s = c.args.bytes.now in
    let zeros = c.deref_mut.result.now in
    let small : length c.args.bytes.now < 2 ^ 64 = omega arith in
    λ m t fs. on_wrong s zeros (c.deref_mut.ensures.len ∙ c.in_ok-memory.ensures.len) small c.in-Ok.fed (c.in-Ok.ensures.told ∙ ap (λ k. fed_by k (length zeros) s) c.new.ensures) m t fs c.in-Wrong.field-0 c.in-Wrong.is

pub split_at-requires : goal.split_at-requires
split_at-requires c =
    let s = c.args.bytes.now in
    let zeros = c.deref_mut.result.now in
    let small : length c.args.bytes.now < 2 ^ 64 = omega arith in
    let is = fed_is s zeros (c.deref_mut.ensures.len ∙ c.in_ok-memory.ensures.len) small c.in-Ok.fed (c.in-Ok.ensures.told ∙ ap (λ k. fed_by k (length zeros) s) c.new.ensures) in
    omega (arith, ap (λ (f : Fed). f.taken) is, taken_within s)

pub slice_bounds-from_slice-end : goal.slice_bounds-from_slice-end
slice_bounds-from_slice-end c =
    let s = c.args.bytes.now in
    let zeros = c.deref_mut.result.now in
    let small : length c.args.bytes.now < 2 ^ 64 = omega arith in
    let is = fed_is s zeros (c.deref_mut.ensures.len ∙ c.in_ok-memory.ensures.len) small c.in-Ok.fed (c.in-Ok.ensures.told ∙ ap (λ k. fed_by k (length zeros) s) c.new.ensures) in
    sym (length-take-le c.in-Ok.fed.written c.deref.result.now (omega (arith, ap (λ (f : Fed). f.written) is, body_within s, c.deref.ensures.len, c.in_ok-memory.ensures.len)))

pub returns : goal.returns
returns c =
    let s = c.args.bytes.now in
    let zeros = c.deref_mut.result.now in
    let long = c.deref_mut.ensures.len ∙ c.in_ok-memory.ensures.len in
    let small : length c.args.bytes.now < 2 ^ 64 = omega arith in
    let f = c.in-Ok.fed in
    let told = c.in-Ok.ensures.told ∙ ap (λ k. fed_by k (length zeros) s) c.new.ensures in
    let count = ap (λ (g : Fed). g.written) (fed_is s zeros long small f told) in
    let held = c.in-Ok.ensures.held ∙ ap (λ k. held_by k zeros s) c.new.ensures in
    let body = c.in_ok-body-in-Whole.ensures.items ∙ ap (take f.written) c.deref.ensures.value ∙ body_is s zeros long small c.feed.new.out _ _ f.written held (sym c.deref_mut.ensures.len) count in
    λ m t fs. on_whole s zeros long small f told m t fs _ _ c.in-Whole.is body c.split_at.ensures.back
