use Rattle.std.proofs.Common.{◌≡◌, map, take, vec_items}
use Rattle.script.specs.Settings.{rule_in, rule_text}
use Rattle.script.proofs.settings.Server.lend_rules.Given as goal

-- the rules so far
abbrev pub invariant-loop-rule : goal.invariant-loop-rule
invariant-loop-rule l = map rule_text (vec_items l.rules) ≡ map rule_in (take l.rule-index l.rule-items)
