-- Settings as lists, and what a statement changes in them.
use Rattle.std.specs.Prelude.{◌≡◌, Bool, true, cond, ◌⊎◌, List, [], ◌∷◌, ◌++◌, map, length, is_ok, Ok, Err, vec_items, Result, MatchResult, nat_le}
use Rattle.std.specs.List.{list_any}
use Rattle.text.specs.Bytes.{Text, same_no_case}
use Rattle.script.specs.Series.{methods_in, parts_in}
use Rattle.script.specs.Statements.{RuleText}
use Rattle.script.specs.declared.problem.Problem.{Problem}
use Rattle.script.specs.declared.problem.Problem.TheVariants as problem
use Rattle.script.specs.declared.settings.OwnedRule.{OwnedRule}
use Rattle.script.specs.declared.settings.Server.{Server}
use Rattle.script.specs.declared.settings.Settings.{Settings}
use Rattle.rules.specs.declared.Rule.{Rule}

-- a server: its name and its rules, in their order
pub record ServerText : Type 0 where
  pub name : Text
  pub rules : List RuleText

-- a server with one more rule, of which it may have 64
abbrev pub server_with : RuleText → ServerText → Result ServerText Problem
server_with r s = cond (nat_le 64 (length s.rules)) (Err problem.TooManyRules) (Ok (record { name = s.name; rules = s.rules ++ r ∷ [] }))

-- one of the servers has this name, but for case
abbrev pub named : Text → List ServerText → Bool
named n ss = list_any (λ s. same_no_case s.name n) ss

-- the servers with one more behind them, of which there may be 8
abbrev pub with_server : Text → List ServerText → Result (List ServerText) Problem
with_server n ss =
    cond (nat_le 8 (length ss)) (Err problem.TooManyServers)
    (cond (named n ss) (Err problem.ServerTwice)
    (Ok (ss ++ record { name = n; rules = [] } ∷ [])))

abbrev pub one : Result ServerText Problem → Result (List ServerText) Problem
one (Ok s) = Ok (s ∷ [])
one (Err e) = Err e

abbrev pub more : ServerText → Result (List ServerText) Problem → Result (List ServerText) Problem
more s (Ok ss) = Ok (s ∷ ss)
more s (Err e) = Err e

-- the servers with one more rule for the last of them
unfoldable pub with_rule : RuleText → List ServerText → Result (List ServerText) Problem
with_rule r [] = Err problem.RuleWithoutServer
with_rule r (s ∷ []) = one (server_with r s)
with_rule r (s ∷ t ∷ ss) = more s (with_rule r (t ∷ ss))

-- what the code holds
abbrev pub rule_text : Rule → RuleText
rule_text r = record { verdict = r.verdict; methods = methods_in r.methods.now; parts = parts_in r.path.now }

abbrev pub rule_in : OwnedRule → RuleText
rule_in r = record { verdict = r.verdict; methods = methods_in (vec_items r.methods); parts = parts_in (vec_items r.path) }

abbrev pub server_in : Server → ServerText
server_in s = record { name = vec_items s.name; rules = map rule_in (vec_items s.rules) }

abbrev pub servers_in : Settings → List ServerText
servers_in s = map server_in (vec_items s.servers)

-- a step that is taken, or refused with all as it was: for what is wrong with it, or, where nothing is and the step needs memory, for want of that
abbrev pub Took : {U X : Type 0} → Bool → X → Result X Problem → X → Result U Problem → Type 0
Took needs before wanted then r =
    MatchResult r (λ _. wanted ≡ Ok then) (λ p. (then ≡ before) × ((wanted ≡ Err p) ⊎ ((p ≡ problem.Memory) × (needs ≡ true) × (is_ok wanted ≡ true))))
