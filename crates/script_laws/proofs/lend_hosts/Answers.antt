use Rattle.std.proofs.Common.{◌≡◌, map, ap, ◌∙◌}
use Rattle.script.specs.Scripts.{script_in}
use Rattle.script.specs.Settings.{server_in}
use Rattle.script_laws.proofs.lend_hosts.Goals as goal
use Rattle.script_laws.proofs.Good.{names_lent, rules_lent, hosts_promised}

-- the servers that are lent are the script's
lent : (c : goal.After-new) → map server_in c.deref.result.now ≡ (script_in c.args.script.now).servers
lent c = ap (map server_in) c.deref.ensures.value ∙ c.settings.ensures

pub returns-clause-names : goal.returns-clause-names
returns-clause-names c = names_lent c.deref.result.now _ c.new.result (lent c) c.new.ensures.names

pub returns-clause-rules : goal.returns-clause-rules
returns-clause-rules c = rules_lent c.deref.result.now _ c.new.result (lent c) c.new.ensures.rules

pub returns-clause-promised : goal.returns-clause-promised
returns-clause-promised c = hosts_promised (script_in c.args.script.now) c.new.result (returns-clause-rules c)
