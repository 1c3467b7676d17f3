use Rattle.rules.specs.Rules.{view_rules}
use Rattle.rules_laws.proofs.judge_for.Goals as goal
use Rattle.rules_laws.proofs.Alike.{judged_alike}

pub returns-clause-alike : goal.returns-clause-alike
returns-clause-alike c = judged_alike (view_rules c.args.rules.now) c.args.method.now c.args.target.now c.judge.result c.judge.ensures
