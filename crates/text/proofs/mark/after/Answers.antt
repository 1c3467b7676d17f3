use Rattle.text.proofs.Marking.{after_stripped}
use Rattle.text.proofs.mark.after.Goals as goal

pub returns : goal.returns
returns c = after_stripped _ (λ x. x.now) c.args.word.now c.args.line.now c.strip_prefix.result c.strip_prefix.ensures.cases
