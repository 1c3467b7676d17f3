-- A script so far, and what one more line makes of it.
use Rattle.std.specs.Prelude.{ℕ, Bool, true, false, cond, ◌&&◌, List, [], length, Ok, Err, Result, nat_le}
use Rattle.text.specs.Bytes.{Text}
use Rattle.script.specs.Settings.{ServerText, with_server, with_rule, servers_in}
use Rattle.script.specs.Statements.{Says, nothing, server, rule, event, statement_of, and_then}
use Rattle.script.specs.declared.problem.Problem.{Problem}
use Rattle.script.specs.declared.problem.Problem.TheVariants as problem
use Rattle.script.specs.declared.progress.Phase.{Phase}
use Rattle.script.specs.declared.progress.Phase.TheVariants as phase
use Rattle.script.specs.declared.progress.Script.{Script}
use Rattle.script.specs.declared.statement.Sender.{Sender}
use Rattle.script.specs.declared.statement.Sender.TheVariants as sender

-- a script so far: the servers with their rules, and whether an event has come
pub record ScriptText : Type 0 where
  pub servers : List ServerText
  pub phase : Phase

-- a setting changes the servers, before the first event
abbrev pub in_settings : Phase → Result (List ServerText) Problem → Result ScriptText Problem
in_settings phase.Settings (Ok ss) = Ok (record { servers = ss; phase = phase.Settings })
in_settings phase.Settings (Err e) = Err e
in_settings phase.Events o = Err problem.SettingAfterEvent

-- an event's server is one of those declared
abbrev pub known : Sender → ℕ → Bool
known (sender.Client n) most = true
known (sender.Server n) most = nat_le 1 n && nat_le n most

-- a script as it stands behind its first event
abbrev pub begun : ScriptText → ScriptText
begun s = record { servers = s.servers; phase = phase.Events }

-- an event ends the settings
abbrev pub started : Sender → ScriptText → Result ScriptText Problem
started from s = cond (known from (length s.servers)) (Ok (begun s)) (Err problem.UnknownServer)

-- what a script is after one more statement, or why it cannot be taken
abbrev pub applied : Says → ScriptText → Result ScriptText Problem
applied nothing s = Ok s
applied (server n) s = in_settings s.phase (with_server n s.servers)
applied (rule r) s = in_settings s.phase (with_rule r s.servers)
applied (event from bytes) s = started from s

-- servers and rules are copied, so that they need memory
abbrev pub copied : Says → Bool
copied nothing = false
copied (server n) = true
copied (rule r) = true
copied (event from bytes) = false

abbrev pub script_in : Script → ScriptText
script_in s = record { servers = servers_in s.settings; phase = s.phase }

-- before the first line
abbrev pub unread : ScriptText
unread = record { servers = []; phase = phase.Settings }

-- what a script is after one more line, or what is wrong with the line
abbrev pub line_taken : Text → ScriptText → Result ScriptText Problem
line_taken t s = and_then (statement_of t) (λ says. applied says s)

abbrev pub line_copied : Result Says Problem → Bool
line_copied (Ok says) = copied says
line_copied (Err e) = false
