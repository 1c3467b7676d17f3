-- The whole gate as a machine on lists: what each client sent, the connections, and what is going on. It does one thing at a time, until it rests; then the
-- next event may come. How responses are read is a parameter, the ear. Assumes nothing.
use Rattle.std.specs.Prelude.{ℕ, Bool, cond, List, [], ◌∷◌, ◌++◌, map, length, drop, replicate, set, Some, None, Option, Ok, Err, Result, slice_get}
use Rattle.std.specs.List.{last_or}
use Rattle.text.specs.Bytes.{Text}
use Rattle.message.specs.Faults.{ends_client}
use Rattle.message.specs.declared.fault.Fault.{Fault}
use Rattle.message.specs.declared.fault.Fault.TheVariants.{Denied, Down}
use Rattle.request.specs.Canonical.{Req}
use Rattle.request.specs.Found.{Finding, passed, more, fault}
use Rattle.request_laws.specs.Outcome.{Outcome, wants, broken, whole, outcome}
use Rattle.rules.specs.Rules.{Rule, verdict, parts_in}
use Rattle.connection.specs.Model.{Ear, Owner, Response, Given, Conn, Turn, rests, gives, falls, fresh, asks, step, down}
use Rattle.connection.specs.Stands.{admission, come, turn_now}

-- the servers, in their order: their names, and the rules of each
pub record Servers : Type 0 where
  pub names : List Text
  pub rules : List (List Rule)

-- so many clients there are
abbrev pub client_count : ℕ
client_count = 16

-- reads: its bytes are read; waits: its request went out, and nothing is read until the last response to it has come; ended: nothing is read any more
pub data Stage : Type 0 where
  reads : Stage
  waits : Stage
  ended : Stage

-- hand: what has been read of the request in hand; unread: what else it sent
pub record Client : Type 0 where
  pub stage : Stage
  pub hand : Text
  pub unread : Text

-- What is going on at a connection: nothing; the server's piece is heard; or the connection went down, and these owners are still to be told.
pub data Doing : Type 0 where
  nothing : Doing
  hears : (server : ℕ) → Doing
  tells : (server : ℕ) → List Owner → Doing

-- line: the clients that are to go on when nothing is going on at a connection, first to last
pub record Gate : Type 0 where
  pub clients : List Client
  pub connections : List Conn
  pub doing : Doing
  pub line : List ℕ

-- What goes out: a client's request to a server; a response from a server to the client of an owner; a refusal to the client of an owner whose server's
-- connection went down; a refusal to a client, for a fault of its own or because its request cannot go out; the end of a client's connection, or of one to a
-- server.
pub data Out : Type 0 where
  sends : (server client : ℕ) → Req → Out
  answers : (server : ℕ) → Owner → Response → Out
  fails : (server : ℕ) → Owner → Out
  refuses : (client : ℕ) → Fault → Out
  ends : (client : ℕ) → Out
  downs : (server : ℕ) → Out

-- one thing that was done: what went out, and how the gate stands then
pub record Did : Type 0 where
  pub out : List Out
  pub then : Gate

-- the same list with its i-th element changed, if there is one
abbrev pub changed_by : {A : Type 0} → (A → A) → List A → ℕ → Option A → List A
changed_by f xs i None = xs
changed_by f xs i (Some x) = set xs i (f x)

abbrev pub changed : {A : Type 0} → (A → A) → ℕ → List A → List A
changed f i xs = changed_by f xs i (slice_get xs i)

-- all that a client sent and no request has taken
abbrev pub bytes_of : Client → Text
bytes_of x = x.hand ++ x.unread

-- a client is freed: it reads again, from the first byte that no request has taken, and is to go on behind the others in the line
abbrev pub reopened : Client → Client
reopened x = record { stage = reads; hand = []; unread = bytes_of x }

abbrev pub freed : ℕ → Gate → Gate
freed c g = record g { clients = changed reopened c g.clients; line = g.line ++ (c ∷ []) }

-- THE TURN OF A CLIENT c, the first in the line; behind it are cs

-- it has nothing to do, and the next in the line goes on
abbrev pub passed_over : Gate → List ℕ → Did
passed_over g cs = record { out = []; then = record g { line = cs } }

-- all of its bytes are read, and more are wanted
abbrev pub wanting : Gate → ℕ → List ℕ → Did
wanting g c cs = passed_over (record g { clients = changed (λ x. record x { hand = bytes_of x; unread = [] }) c g.clients }) cs

-- a request of n bytes has been taken
abbrev pub taken : ℕ → Stage → Client → Client
taken n stage x = record { stage = stage; hand = []; unread = drop n (bytes_of x) }

-- it is refused, and its connection ends
abbrev pub ended_at : Gate → ℕ → List ℕ → Fault → Did
ended_at g c cs f = record { out = refuses c f ∷ ends c ∷ []; then = record g { clients = changed (λ x. record { stage = ended; hand = []; unread = [] }) c g.clients; line = cs } }

-- it is refused, and goes on behind its request of n bytes
abbrev pub refused_at : Gate → ℕ → Fault → ℕ → Did
refused_at g c f n = record { out = refuses c f ∷ []; then = record g { clients = changed (taken n reads) c g.clients } }

abbrev pub refused : Gate → ℕ → List ℕ → Fault → ℕ → Did
refused g c cs f n = cond (ends_client f) (ended_at g c cs f) (refused_at g c f n)

-- its request q of n bytes goes out to the server s, and it waits
abbrev pub sent_at : Ear → Gate → ℕ → List ℕ → ℕ → Req → ℕ → Did
sent_at e g c cs s q n = record {
  out = sends s c q ∷ [];
  then = record g {
    clients = changed (taken n waits) c g.clients;
    connections = changed (step e (asks c q)) s g.connections;
    line = cs;
  };
}

abbrev pub on_admission : Ear → Gate → ℕ → List ℕ → ℕ → Req → ℕ → Result (Unit {0}) Fault → Did
on_admission e g c cs s q n (Ok u) = sent_at e g c cs s q n
on_admission e g c cs s q n (Err f) = refused g c cs f n

abbrev pub on_connection : Ear → Gate → ℕ → List ℕ → ℕ → Req → ℕ → Option Conn → Did
on_connection e g c cs s q n None = refused g c cs Down n
on_connection e g c cs s q n (Some d) = on_admission e g c cs s q n (admission d.up (length d.waiting) (length d.sent))

-- the rules of a server; where there are none nothing is let pass
abbrev pub rules_in : Option (List Rule) → List Rule
rules_in None = []
rules_in (Some us) = us

abbrev pub rules_of : Servers → ℕ → List Rule
rules_of servers s = rules_in (slice_get servers.rules s)

module _ (servers : Servers) (e : Ear) where
  -- its request is let pass by the language; the rules of its server are asked first, and then the connection
  abbrev pub on_finding : Gate → ℕ → List ℕ → Finding → ℕ → Did
  on_finding g c cs (passed s q) n = cond (verdict (rules_of servers s) q.method (parts_in q.target)) (on_connection e g c cs s q n (slice_get g.connections s)) (refused g c cs Denied n)
  on_finding g c cs more n = wanting g c cs
  on_finding g c cs (fault w) n = refused g c cs w.fault n

  abbrev pub on_outcome : Gate → ℕ → List ℕ → Outcome → Did
  on_outcome g c cs wants = wanting g c cs
  on_outcome g c cs (broken w) = refused g c cs w.fault 0
  on_outcome g c cs (whole f n) = on_finding g c cs f n

  -- one that waits, or was ended, is passed over
  abbrev pub on_stage : Gate → ℕ → List ℕ → Client → Stage → Did
  on_stage g c cs x reads = on_outcome g c cs (outcome servers.names (bytes_of x))
  on_stage g c cs x waits = passed_over g cs
  on_stage g c cs x ended = passed_over g cs

  abbrev pub on_client : Gate → ℕ → List ℕ → Option Client → Did
  on_client g c cs None = passed_over g cs
  on_client g c cs (Some x) = on_stage g c cs x x.stage

  abbrev pub on_line : Gate → List ℕ → Option Did
  on_line g [] = None
  on_line g (c ∷ cs) = Some (on_client g c cs (slice_get g.clients c))

-- THE TURN OF A CONNECTION at which a piece is heard, by what is to happen there

-- nothing more of the piece is whole
abbrev pub quiet : Gate → Did
quiet g = record { out = []; then = record g { doing = nothing } }

-- it goes down, and those who waited are told
abbrev pub fallen : Gate → ℕ → List Owner → Did
fallen g s os = record { out = downs s ∷ []; then = record g { connections = changed down s g.connections; doing = tells s os } }

-- the last response to a request frees its client
abbrev pub freed_if : Bool → ℕ → Gate → Gate
freed_if last c g = cond last (freed c g) g

abbrev pub handed : Gate → ℕ → Conn → Given → Did
handed g s d x = record { out = answers s x.to x.response ∷ []; then = freed_if x.response.last x.to.client (record g { connections = changed (λ c. d) s g.connections }) }

-- the response that was given last is the one that is handed over
abbrev pub on_newest : Gate → ℕ → Conn → Option Given → Did
on_newest g s d None = quiet g
on_newest g s d (Some x) = handed g s d x

abbrev pub on_turn : Gate → ℕ → Conn → Turn → Did
on_turn g s c rests = quiet g
on_turn g s c (gives d) = on_newest g s d (last_or None d.given)
on_turn g s c falls = fallen g s c.waiting

abbrev pub on_hearing : Ear → Gate → ℕ → Option Conn → Did
on_hearing e g s None = quiet g
on_hearing e g s (Some c) = on_turn g s c (turn_now e c)

-- an owner is told that the connection went down, and its client is freed; or all were
abbrev pub on_telling : Gate → ℕ → List Owner → Did
on_telling g s [] = quiet g
on_telling g s (o ∷ os) = record { out = fails s o ∷ []; then = freed o.client (record g { doing = tells s os }) }

-- THE TURN of the gate: what is going on at a connection comes first. None where it rests.
abbrev pub on_doing : Servers → Ear → Gate → Doing → Option Did
on_doing servers e g nothing = on_line servers e g g.line
on_doing servers e g (hears s) = Some (on_hearing e g s (slice_get g.connections s))
on_doing servers e g (tells s os) = Some (on_telling g s os)

abbrev pub turn : Servers → Ear → Gate → Option Did
turn servers e g = on_doing servers e g g.doing

-- EVENTS, which come where the gate rests

-- bytes come from a client, or from a server
pub data Event : Type 0 where
  from_client : (client : ℕ) → Text → Event
  from_server : (server : ℕ) → Text → Event

-- bytes come behind those that are unread; those of a client that was ended are passed over
abbrev pub more_of : Text → Stage → Client → Client
more_of s reads x = record x { unread = x.unread ++ s }
more_of s waits x = record x { unread = x.unread ++ s }
more_of s ended x = x

abbrev pub comes : Event → Gate → Gate
comes (from_client c s) g = record g { clients = changed (λ x. more_of s x.stage x) c g.clients; line = c ∷ [] }
comes (from_server k s) g = record g { connections = changed (come s) k g.connections; doing = hears k }

-- before the first event
abbrev pub opened : Servers → Gate
opened servers = record {
  clients = replicate client_count (record { stage = reads; hand = []; unread = [] });
  connections = map (λ x. fresh) servers.names;
  doing = nothing;
  line = [];
}
