use Rattle.std.proofs.Common.{sym, ap, ◌∙◌}
use Rattle.forgiving.specs.Readers.{goes_on}
use Rattle.forgiving.specs.Parts.{going_by}
use Rattle.forgiving.specs.Held.{texts}
use Rattle.forgiving.proofs.Fields.{prefix_texts}
use Rattle.forgiving.proofs.habit.Habit.continued.Goals as goal

pub returns-in-GoesOn-clause-is : goal.returns-in-GoesOn-clause-is
returns-in-GoesOn-clause-is c = c.going_on.ensures.is ∙ prefix_texts goes_on c.args.lines.now ∙ sym (ap (λ h. going_by h (texts c.args.lines.now)) c.in-GoesOn.is)
