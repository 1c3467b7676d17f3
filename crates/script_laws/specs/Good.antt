-- Why the rules that a script sets are good: each is written as the grammar says, and settings grow by lines that are read, and by nothing else. Each law is
-- a type; a proof of the type is the theorem.
use Rattle.std.specs.Prelude.{◌≡◌, ℕ, T, List, [], ◌∷◌, map, Some, None, Ok, Option, vec_items, slice_get}
use Rattle.std.specs.List.{AllByRecursion}
use Rattle.text.specs.Bytes.{Text}
use Rattle.rules.specs.Rules.{Rule, view_rules}
use Rattle.rules_laws.specs.Laws.{RulePath}
use Rattle.rules_laws.specs.Views.{good_start, good_rules}
use Rattle.script.specs.Hosts.{rules_in}
use Rattle.script.specs.Scripts.{ScriptText, unread, line_taken}
use Rattle.script.specs.Settings.{ServerText}
use Rattle.script.specs.Statements.{RuleText, rule}
use Rattle.script.specs.declared.hosts.Hosts.{Hosts}
use Rattle.script.specs.declared.statement.Statement.{Statement}
use Rattle.script.specs.declared.statement.Statement.TheVariants as statement
use Rattle.script_laws.specs.Grammar.{PathWord, LineSays}

-- A path of the grammar is written as settings write a rule's path, with the same parts.
abbrev pub PathRead : Type 0
PathRead = (ps : List Text) (path : Text) → PathWord ps path → (h : RulePath path) × (h.parts ≡ ps)

-- A rule that a line says has good parts.
abbrev pub RuleRead : Type 0
RuleRead = (t : Text) (r : RuleText) → LineSays t (rule r) → T (good_start r.parts)

-- of a statement that is a rule: its path is so written
abbrev pub WellWritten : Statement → Type 0
WellWritten statement.Nothing = Unit {0}
WellWritten (statement.Server n) = Unit {0}
WellWritten (statement.Rule r) = RulePath r.path.now
WellWritten (statement.Event e) = Unit {0}

-- a rule of settings, as one that is judged by
abbrev pub as_rule : RuleText → Rule
as_rule r = record { start = r.parts; methods = r.methods; says = r.verdict }

-- settings in which the rules of each server are good
abbrev pub SettingsGood : List ServerText → Type 0
SettingsGood ss = AllByRecursion (λ s. T (good_rules (map as_rule s.rules))) ss

-- A line that is taken leaves them good.
abbrev pub StaysGood : Type 0
StaysGood = (t : Text) (s then : ScriptText) → SettingsGood s.servers → line_taken t s ≡ Ok then → SettingsGood then.servers

-- a script as lines leave it that were read one after the other, from the first on
pub data ReadScript : ScriptText → Type 0 where
  no_line : ReadScript unread
  next_line : {s then : ScriptText} (t : Text) → ReadScript s → line_taken t s ≡ Ok then → ReadScript then

-- Whatever lines were read, the rules of each server in the settings are good.
abbrev pub ScriptGood : Type 0
ScriptGood = (s : ScriptText) → ReadScript s → SettingsGood s.servers

-- the rules of each server, as hosts hold them and as they are judged by
abbrev pub judged_in : Hosts → List (List Rule)
judged_in h = map (λ rules. view_rules (vec_items rules)) (vec_items h.rules)

-- the rules of one of them, by its number; none where there is no such server
abbrev pub or_none : Option (List Rule) → List Rule
or_none None = []
or_none (Some us) = us

abbrev pub judged_of : Hosts → ℕ → List Rule
judged_of h k = or_none (slice_get (judged_in h) k)

-- the rules of each server are good
abbrev pub RulesGood : Hosts → Type 0
RulesGood h = (k : ℕ) → T (good_rules (judged_of h k))

-- Hosts made of the settings of a script that was read have good rules.
abbrev pub HostsGood : Type 0
HostsGood = (h : Hosts) (s : ScriptText) → ReadScript s → rules_in h ≡ map (λ server. server.rules) s.servers → RulesGood h
