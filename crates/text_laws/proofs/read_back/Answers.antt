use Rattle.text_laws.proofs.read_back.Goals as goal
use Rattle.text_laws.proofs.Digits.{read_back}

pub returns : goal.returns
returns c = read_back
