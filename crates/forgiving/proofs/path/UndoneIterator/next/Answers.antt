use Rattle.std.proofs.Common.{◌≡◌, [], rules, ap}
use Rattle.forgiving.specs.Views.{undone}
use Rattle.forgiving.proofs.path.UndoneIterator.next.Goals as goal

pub returns-in_err-byte-clause-steps : goal.returns-in_err-byte-clause-steps
unfolding undone
returns-in_err-byte-clause-steps c = let none : undone c.args.self.now.0.now ≡ [] = ap undone c.in_err-byte.ensures in search rules
