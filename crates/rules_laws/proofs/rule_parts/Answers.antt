use Rattle.rules_laws.proofs.rule_parts.Goals as goal
use Rattle.rules_laws.proofs.Slashes.{rule_parts}

pub returns : goal.returns
returns c = rule_parts
