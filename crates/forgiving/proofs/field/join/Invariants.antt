use Rattle.std.proofs.Common.{◌≡◌, ◌++◌, take, vec_items, flat_map}
use Rattle.forgiving.proofs.field.join.Given as goal

abbrev pub invariant-loop-other : goal.invariant-loop-other
invariant-loop-other l = vec_items l.line ≡ l.first ++ flat_map (λ o. o.now) (take l.other-index l.others)
