use Rattle.std.proofs.Common.{◌≡◌, ◌≤◌, length, vec_items}
use Rattle.forgiving.specs.Held.{texts, view_fields}
use Rattle.forgiving.proofs.Fields.{fields_at, put_many}
use Rattle.forgiving.proofs.habit.Habit.read_fields.Given as goal

-- the fields so far stand before what is read in the rest
abbrev pub invariant-loop-rest : goal.invariant-loop-rest
invariant-loop-rest l = (fields_at l.self (texts l.lines) ≡ put_many (view_fields (vec_items l.fields)) (fields_at l.self (texts l.rest))) × (length l.rest ≤ length l.lines)

abbrev pub decreases-loop-rest : goal.decreases-loop-rest
decreases-loop-rest l = length l.rest
