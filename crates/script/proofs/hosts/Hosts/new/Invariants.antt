use Rattle.std.proofs.Common.{◌≡◌, map, take, vec_items}
use Rattle.script.specs.Settings.{rule_text, server_in}
use Rattle.script.proofs.hosts.Hosts.new.Given as goal

-- the names and the rules so far
abbrev pub invariant-loop-server : goal.invariant-loop-server
invariant-loop-server l =
    record {
      names : map (λ n. n.now) (vec_items l.names) ≡ map (λ s. (server_in s).name) (take l.server-index l.servers);
      rules : map (λ rs. map rule_text (vec_items rs)) (vec_items l.rules) ≡ map (λ s. (server_in s).rules) (take l.server-index l.servers);
    }
