use Rattle.std.proofs.Common.{◌≡◌, ℕ, ◌<◌, drop}
use Rattle.forgiving.specs.Parts.{end_by}
use Rattle.forgiving.proofs.habit.Habit.split.Given as goal

-- no end stands before
abbrev pub invariant-loop-i : goal.invariant-loop-i
invariant-loop-i l = (k : ℕ) → k < l.i → end_by l.self (drop k l.bytes) ≡ 0
