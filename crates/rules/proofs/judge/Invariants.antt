use Rattle.std.proofs.Common.{◌≡◌, drop}
use Rattle.rules.specs.Rules.{ruled_from, view_rules, parts_in, parts_of}
use Rattle.rules.proofs.judge.Given as goal

-- the rules that are left decide
abbrev pub invariant-loop-n : goal.invariant-loop-n
invariant-loop-n l = ruled_from l.n (view_rules (drop l.n l.rules)) l.method (parts_of l.path) ≡ ruled_from 0 (view_rules l.rules) l.method (parts_in l.target)
