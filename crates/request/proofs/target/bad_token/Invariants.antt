use Rattle.request.specs.Targets.{tokens}
use Rattle.request.proofs.Paths.{Left}
use Rattle.request.proofs.target.bad_token.Given as goal

abbrev pub invariant-loop-token : goal.invariant-loop-token
invariant-loop-token l = Left l.path l.at (tokens l.token-iterator.0.now)
