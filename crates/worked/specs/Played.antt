-- What a worked case is, and when it goes as its row says. Clients and servers are counted from 1 in a row, as in scripts, and from 0 in the machine.
use Rattle.std.specs.Prelude.{◌≡◌, ℕ, ◌+◌, List, [], ◌∷◌, ◌++◌, map, length, Some, None, codes}
use Rattle.text.specs.Bytes.{Text}
use Rattle.message.specs.Faults.{number_of}
use Rattle.message.specs.declared.fault.Fault.TheVariants.{Down}
use Rattle.message.specs.declared.fault.Flaw.{Flaw}
use Rattle.request.specs.Canonical.{write}
use Rattle.request.specs.Found.{fault}
use Rattle.request_laws.specs.Laws.{finding_of}
use Rattle.request_laws.specs.Outcome.{outcome}
use Rattle.response.specs.Refusals.{refusal}
use Rattle.response_laws.specs.Ear.{ear}
use Rattle.rules.specs.Rules.{Rule, methods_of, parts_of}
use Rattle.rules.specs.declared.Verdict.TheVariants.{Allow, Deny}
use Rattle.proxy.specs.Model.{Servers, Gate, Did, Out, sends, answers, fails, refuses, ends, downs, Event, comes, opened, turn}
use Rattle.proxy.specs.Model.{from_client as client_says, from_server as server_says}

-- bytes come, as by a line of a script; or something goes out, as `gate` prints it
pub data Line : Type 0 where
  from_client : ℕ → Text → Line
  from_server : ℕ → Text → Line
  to_server : ℕ → Text → Line
  to_client : ℕ → Text → Line
  end_client : ℕ → Line
  down_server : ℕ → Line

-- A worked case. There is one server, named `h`; rules: its rules, in order; lines: all that comes and all that goes out, in order; sent: how many bytes go
-- out to the server.
pub record Row : Type 0 where
  pub rules : List Rule
  pub lines : List Line
  pub sent : ℕ

-- rules, as settings write them
abbrev pub allow : (methods path : Text) → Rule
allow methods path = record { start = parts_of path; methods = methods_of methods; says = Allow }

abbrev pub deny : (methods path : Text) → Rule
deny methods path = record { start = parts_of path; methods = methods_of methods; says = Deny }

-- the line of an event, and of what goes out
abbrev pub came : Event → Line
came (client_says c s) = from_client (c + 1) s
came (server_says k s) = from_server (k + 1) s

abbrev pub went : Out → Line
went (sends k c q) = to_server (k + 1) (write q)
went (answers k o a) = to_client (o.client + 1) a.text
went (fails k o) = to_client (o.client + 1) (refusal Down)
went (refuses c f) = to_client (c + 1) (refusal f)
went (ends c) = end_client (c + 1)
went (downs k) = down_server (k + 1)

-- From this state of the gate on, these lines are all that comes and goes out. An event comes only where the gate rests; else it does one thing after the
-- other, and at the end it rests.
pub data Plays (servers : Servers) : Gate → List Line → Type 0 where
  over : {g : Gate} → turn servers ear g ≡ None → Plays servers g []
  coming : {g : Gate} {ls : List Line} (v : Event) → turn servers ear g ≡ None → Plays servers (comes v g) ls → Plays servers g (came v ∷ ls)
  doing : {g : Gate} {ls : List Line} (d : Did) → turn servers ear g ≡ Some d → Plays servers d.then ls → Plays servers g (map went d.out ++ ls)

-- of some lines those by which bytes come
abbrev pub if_comes : Line → List Line
if_comes (from_client n s) = from_client n s ∷ []
if_comes (from_server n s) = from_server n s ∷ []
if_comes (to_server n s) = []
if_comes (to_client n s) = []
if_comes (end_client n) = []
if_comes (down_server n) = []

unfoldable pub incoming : List Line → List Line
incoming [] = []
incoming (l ∷ ls) = if_comes l ++ incoming ls

-- the bytes that go out to servers
abbrev pub sent_by : Line → ℕ
sent_by (from_client n s) = 0
sent_by (from_server n s) = 0
sent_by (to_server n s) = length s
sent_by (to_client n s) = 0
sent_by (end_client n) = 0
sent_by (down_server n) = 0

unfoldable pub sent_in : List Line → ℕ
sent_in [] = 0
sent_in (l ∷ ls) = sent_by l + sent_in ls

abbrev pub names : List Text
names = codes "h" ∷ []

abbrev pub servers_of : Row → Servers
servers_of r = record { names = names; rules = r.rules ∷ [] }

-- the gate, from its start on, does what the row says
pub record Goes (r : Row) : Type 0 where
  pub plays : Plays (servers_of r) (opened (servers_of r)) r.lines
  pub sent : sent_in r.lines ≡ r.sent

-- A request that is refused, with the number of its fault and the fault's place, as `explain` prints them.
pub record Refused : Type 0 where
  pub number : ℕ
  pub place : ℕ
  pub text : Text

abbrev pub fault_at : (number place : ℕ) → Text → Refused
fault_at number place text = record { number = number; place = place; text = text }

-- this fault is found in it
pub record IsFound (r : Refused) : Type 0 where
  pub flaw : Flaw
  pub found : finding_of (outcome names r.text) ≡ fault flaw
  pub number : number_of flaw.fault ≡ r.number
  pub place : flaw.place ≡ r.place
