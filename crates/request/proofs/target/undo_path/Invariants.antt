use Rattle.std.proofs.Common.{◌-◌, ◌≤◌, length}
use Rattle.request.proofs.Undoing.{Undone}
use Rattle.request.proofs.target.undo_path.Given as goal

abbrev pub invariant-loop-token : goal.invariant-loop-token
invariant-loop-token l = (l.i ≤ length l.initial.path) × Undone l.initial.path l.path l.at l.i

abbrev pub decreases-loop-token : goal.decreases-loop-token
decreases-loop-token l = length l.initial.path - l.i
