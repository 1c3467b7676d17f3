use Rattle.text_laws.proofs.whole_line.Goals as goal
use Rattle.text_laws.proofs.Lines.{whole_line}

pub returns : goal.returns
returns c = whole_line
