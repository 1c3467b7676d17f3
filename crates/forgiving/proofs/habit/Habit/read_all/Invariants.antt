use Rattle.std.proofs.Common.{◌≡◌, ◌++◌, length, vec_items}
use Rattle.forgiving.specs.Held.{view_requests}
use Rattle.forgiving.proofs.Reading.{all_at}
use Rattle.forgiving.proofs.habit.Habit.read_all.Given as goal

-- the requests so far stand before what is read in the rest
abbrev pub invariant-loop-requests : goal.invariant-loop-requests
invariant-loop-requests l = all_at l.self l.bytes ≡ view_requests (vec_items l.requests) ++ all_at l.self l.rest

abbrev pub decreases-loop-requests : goal.decreases-loop-requests
decreases-loop-requests l = length l.rest
