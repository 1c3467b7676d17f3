use Rattle.text_laws.proofs.stray_line.Goals as goal
use Rattle.text_laws.proofs.Lines.{stray_line}

pub returns : goal.returns
returns c = stray_line
