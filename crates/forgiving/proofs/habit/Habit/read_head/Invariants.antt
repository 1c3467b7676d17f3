use Rattle.std.proofs.Common.{◌≡◌, ◌≤◌, length, vec_items}
use Rattle.forgiving.specs.Held.{texts}
use Rattle.forgiving.proofs.Heads.{head_at, behind}
use Rattle.forgiving.proofs.habit.Habit.read_head.Given as goal

-- the lines so far stand before what is read in the rest
abbrev pub invariant-loop-line : goal.invariant-loop-line
invariant-loop-line l = (head_at l.self l.bytes ≡ behind (texts (vec_items l.lines)) (head_at l.self l.rest)) × (length l.rest ≤ length l.bytes)

abbrev pub decreases-loop-line : goal.decreases-loop-line
decreases-loop-line l = length l.rest
