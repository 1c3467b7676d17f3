use Rattle.forgiving.proofs.Lengths.{no_lengths}
use Rattle.forgiving.proofs.habit.Habit.length.Goals as goal

pub returns-in_default-empty : goal.returns-in_default-empty
returns-in_default-empty c = no_lengths c.args.self c.args.lengths.now c.in_default-empty.len_below
