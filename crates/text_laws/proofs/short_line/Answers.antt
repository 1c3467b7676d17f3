use Rattle.text_laws.proofs.short_line.Goals as goal
use Rattle.text_laws.proofs.Lines.{short_line}

pub returns : goal.returns
returns c = short_line
