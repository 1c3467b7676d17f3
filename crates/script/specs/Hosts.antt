-- The names and the rules of servers as two lists.
use Rattle.std.specs.Prelude.{List, map, vec_items}
use Rattle.text.specs.Bytes.{Text}
use Rattle.script.specs.Statements.{RuleText}
use Rattle.script.specs.Settings.{rule_text}
use Rattle.script.specs.declared.hosts.Hosts.{Hosts}

abbrev pub names_in : Hosts → List Text
names_in h = map (λ name. name.now) (vec_items h.names)

abbrev pub rules_in : Hosts → List (List RuleText)
rules_in h = map (λ rules. map rule_text (vec_items rules)) (vec_items h.rules)
