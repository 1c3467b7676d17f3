use Rattle.std.proofs.Common.{subst, sym, arith}
use Rattle.request.specs.Targets.{tokens}
use Rattle.request.specs.declared.target.Tokens.{Tokens}
use Rattle.request.proofs.Paths.{Left, left_all, left_good, left_bad, left_none}
use Rattle.request.proofs.target.bad_token.Goals as goal

pub loop-token-init : goal.loop-token-init
loop-token-init c = subst (λ (s : Tokens). Left c.args.path.now 0 (tokens s.0.now)) (sym c.into_iter-token-iterator.ensures.into_iter_gives) (left_all c.args.path.now)

pub loop-token-preserved : goal.loop-token-preserved
loop-token-preserved c = left_good _ _ _ _ _ _ c.loop-token.invariant c.in-Some.ensures.steps c.if-not-is_good.ensures c.width-at.ensures

pub returns-then-not-is_good : goal.returns-then-not-is_good
returns-then-not-is_good c = record { is = left_bad _ _ _ _ _ c.loop-token.invariant c.in-Some.ensures.steps c.if-not-is_good.ensures; within = omega (arith, c.loop-token.invariant.within) }

pub returns : goal.returns
returns c = record { is = left_none _ _ _ c.loop-token.invariant c.in-None.ensures.steps.0; within = tt }
