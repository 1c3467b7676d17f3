use Rattle.std.proofs.Common.{◌≡◌, ◌≤◌, length}
use Rattle.forgiving.proofs.Reading.{one_at}
use Rattle.forgiving.proofs.habit.Habit.read_one.Given as goal

-- what is left is read as all of it
abbrev pub invariant-loop-head : goal.invariant-loop-head
invariant-loop-head l = (one_at l.self l.bytes ≡ one_at l.self l.rest) × (length l.rest ≤ length l.bytes)

abbrev pub decreases-loop-head : goal.decreases-loop-head
decreases-loop-head l = length l.rest
