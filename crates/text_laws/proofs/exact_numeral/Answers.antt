use Rattle.text_laws.proofs.exact_numeral.Goals as goal
use Rattle.text_laws.proofs.Digits.{exact_numeral}

pub returns : goal.returns
returns c = exact_numeral
