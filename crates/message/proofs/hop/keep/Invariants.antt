use Rattle.std.proofs.Common.{◌≡◌, length, map, take}
use Rattle.message.specs.SentViews.{view_sent_field, view_sent_fields}
use Rattle.message.proofs.hop.keep.Given as goal

-- the front of the table holds what was given so far
abbrev pub invariant-loop-line : goal.invariant-loop-line
invariant-loop-line l =
    (goal.iterator-loop-line).can_next l.line-iterator × (goal.iterator-loop-line).is_finite l.line-iterator
    × (l.count ≡ length l.yielded) × (view_sent_fields (take l.count l.table) ≡ map (λ x. view_sent_field x.now.field) l.yielded)
