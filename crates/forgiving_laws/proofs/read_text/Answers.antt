use Rattle.std.proofs.lemmas.Result.{IfOk-weaker}
use Rattle.forgiving_laws.proofs.Alike.{read_alike}
use Rattle.forgiving_laws.proofs.read_text.Goals as goal

pub returns-clause-alike : goal.returns-clause-alike
returns-clause-alike c = IfOk-weaker c.read_all.result _ _ (λ qs e. read_alike c.args.habit c.args.text.now _ e) c.read_all.ensures
