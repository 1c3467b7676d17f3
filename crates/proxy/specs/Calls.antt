-- What each call does, in terms of the model: one turn of it, or an event.
use Rattle.std.specs.Prelude.{◌≡◌, ◌≢◌, ◌≤◌, ℕ, ◌^◌, ◌<◌, ◌⊎◌, Bool, true, false, cond, not, ◌&&◌, List, [], ◌∷◌, length, drop, Some, None, Option, Ok, Err, Result, ◌==◌, nat_lt, slice_get}
use Rattle.std.specs.Borrow.{Bor}
use Rattle.text.specs.Bytes.{Text}
use Rattle.message.specs.Faults.{ends_client}
use Rattle.request.specs.Canonical.{Req, write}
use Rattle.request.specs.Reading.{memory_size}
use Rattle.request.specs.Writing.{Written}
use Rattle.connection.specs.Owners.{owner_of}
use Rattle.ear.specs.Ways.{ear_way}
use Rattle.response_laws.specs.Ear.{ear}
use Rattle.rules.specs.declared.Rule.{Rule}
use Rattle.proxy.specs.Model.{Servers, Client, Gate, Did as Done, Out, sends, answers, fails, refuses, ends, downs, from_client, from_server, client_count, bytes_of, turn, comes, opened}
use Rattle.proxy.specs.Slots.{server_limit, slab_size, server_slot}
use Rattle.proxy.specs.Stands.{settings, servers_of, Stands, Hears, Tells}
use Rattle.proxy.specs.declared.state.Misuse.{Misuse}
use Rattle.proxy.specs.declared.state.Misuse.TheVariants.{Early, Rests, Nobody, Misfit, Memory, Room}
use Rattle.proxy.specs.declared.state.Proxy.{Proxy}
use Rattle.proxy.specs.declared.client.Turn.{Turn}
use Rattle.proxy.specs.declared.client.Did.{Did}
use Rattle.proxy.specs.declared.client.Did.TheVariants.{Nothing, Sent, Refused}
use Rattle.proxy.specs.declared.server.Heard.{Heard}
use Rattle.proxy.specs.declared.server.Fallen.{Fallen}
use Rattle.proxy.specs.declared.server.Answer.{Answer as Given}
use Rattle.proxy.specs.declared.server.Next.{Next}
use Rattle.proxy.specs.declared.server.Next.TheVariants.{Answer, Down, Rest}
use Rattle.proxy.specs.declared.server.Telling.{Telling}
use Rattle.proxy.specs.declared.server.Telling.TheVariants.{Tell, Rest as AllTold}

-- the gate rests: no piece is being heard, and nobody is in the line
abbrev pub rests_now : Proxy → Bool
rests_now p = not p.hears && (length p.line.items == 0)

-- the client that goes on next
abbrev pub first_of : Proxy → Option ℕ
first_of p = cond p.hears None (slice_get p.line.items 0)

-- The gate is made, for few enough servers with a list of rules for each: it stands for the model before the first event. Or it is not.
abbrev pub OpensSo : List (Bor Text) → List (Bor (List Rule)) → Result Proxy Misuse → Type 0
OpensSo names rules (Ok p) =
    (length names ≤ server_limit) × (length rules ≡ length names) × (servers_of p ≡ settings names rules) × ((memory : Text) → length memory ≡ slab_size → Stands (settings names rules) p memory (opened (settings names rules)))
OpensSo names rules (Err m) = (m ≡ Misfit) × ((server_limit < length names) ⊎ (length rules ≢ length names))

-- A client sent something, whatever it was: the model takes it. Or it was not the time, or there is no such client.
abbrev pub sent_answer : Bool → ℕ → Result (Unit {0}) Misuse
sent_answer rests c = cond rests (cond (nat_lt c client_count) (Ok tt) (Err Nobody)) (Err Early)

abbrev pub ClientSent : ℕ → Proxy → Proxy → Result (Unit {0}) Misuse → Type 0
ClientSent c old new (Ok u) = (sent_answer (rests_now old) c ≡ Ok u) ×
    ((servers : Servers) (memory : Text) (g : Gate) → Stands servers old memory g → (turn servers ear g ≡ None) × ((s : Text) → Stands servers new memory (comes (from_client c s) g)))
ClientSent c old new (Err m) = (sent_answer (rests_now old) c ≡ Err m) × (new ≡ old)

-- A CLIENT GOES ON

-- which one, with so much memory and so much room in the output; or why none does
abbrev pub first_or : Option ℕ → Result ℕ Misuse
first_or None = Err Rests
first_or (Some c) = Ok c

abbrev pub entry_of : Proxy → ℕ → ℕ → Result ℕ Misuse
entry_of p memory room = cond p.hears (Err Early) (cond (memory == slab_size) (cond (nat_lt room memory_size) (Err Room) (first_or (first_of p))) (Err Memory))

-- what goes out by its turn: a request is written to the front of the output, and of a refusal nothing is written
abbrev pub OutOf : ℕ → Did → List Out → Text → Text → Type 0
OutOf c Nothing outs out after = (outs ≡ []) × (after ≡ out)
OutOf c (Sent s len) outs out after = (q : Req) × (outs ≡ sends s c q ∷ []) × Written (write q) out after (Ok len)
OutOf c (Refused f) outs out after = (outs ≡ cond (ends_client f) (refuses c f ∷ ends c ∷ []) (refuses c f ∷ [])) × (after ≡ out)

-- these bytes of it are unread
abbrev pub Unread : ℕ → Text → Gate → Type 0
Unread c s g = (x : Client) × (slice_get g.clients c ≡ Some x) × (x.unread ≡ s)

-- One turn of the gate, by which a client did something, and so many of its unread bytes were taken.
abbrev pub Turned : Servers → Gate → Proxy → Text → Text → Text → Text → ℕ → Did → ℕ → Type 0
Turned servers g new then unread out after c did taken =
    (d : Done) × (turn servers ear g ≡ Some d) × OutOf c did d.out out after × Stands servers new then d.then × Unread c (drop taken unread) d.then

module _ (old new : Proxy) (memory then unread out after : Text) (result : Result Turn Misuse) where
  abbrev pub OnEntry : Result ℕ Misuse → Type 0
  OnEntry (Err m) = (result ≡ Err m) × (new ≡ old) × (then ≡ memory) × (after ≡ out)
  OnEntry (Ok c) =
      (servers : Servers) (g : Gate) (x : Client) → Stands servers old memory g → slice_get g.clients c ≡ Some x → x.unread ≡ unread → length (bytes_of x) < 2 ^ 64 →
      (t : Turn) × (result ≡ Ok t) × (t.client ≡ c) × Turned servers g new then unread out after c t.did t.taken

  abbrev pub GoesOn : Type 0
  GoesOn = OnEntry (entry_of old (length memory) (length out))

-- A SERVER SAID SOMETHING, and its piece is to be heard; or it was not the time, or there is no such server.
abbrev pub ServerSaid : ℕ → Text → Proxy → Proxy → Result Heard Misuse → Type 0
ServerSaid s piece old new (Ok h) = (servers : Servers) (memory : Text) (g : Gate) → Stands servers old memory g → (turn servers ear g ≡ None) × Hears servers new h memory (comes (from_server s piece) g)
ServerSaid s piece old new (Err m) = (new ≡ old) × (m ≡ cond (rests_now old) Nobody Early) × ((servers : Servers) (memory : Text) (g : Gate) → Stands servers old memory g → rests_now old ≡ true → slice_get g.connections s ≡ None)

-- the response that is handed over, in the memory that was lent
abbrev pub answer_text : Given → Text → Text
answer_text a memory = ear_way.text a.handed.response (server_slot a.server memory)

-- it is written by what lies in its slot; nothing in a memory that is not of its size
abbrev pub written_of : Given → Text → Text
written_of a memory = cond (length memory == slab_size && nat_lt a.server server_limit) (answer_text a memory) []

-- WHAT COMES NEXT OF A PIECE: one turn of the gate
module _ (servers : Servers) (new : Proxy) (then : Text) where
  abbrev pub NextIs : Done → Result Next Heard → Type 0
  NextIs d (Ok (Answer h a)) = (d.out ≡ answers a.server (owner_of a.handed.owner) (record { last = a.handed.last; text = answer_text a then }) ∷ []) × Hears servers new h then d.then
  NextIs d (Ok (Down f)) = (d.out ≡ downs f.server ∷ []) × Tells servers new f then d.then
  NextIs d (Ok Rest) = (d.out ≡ []) × Stands servers new then d.then
  NextIs d (Err h) = ⊥

abbrev pub OnSize : Heard → Proxy → Proxy → Text → Text → Result Next Heard → Bool → Type 0
OnSize heard old new memory then result true = (servers : Servers) (g : Gate) → Hears servers old heard memory g → (d : Done) × (turn servers ear g ≡ Some d) × NextIs servers new then d result
OnSize heard old new memory then result false = (result ≡ Err heard) × (new ≡ old) × (then ≡ memory)

abbrev pub NextSo : Heard → Proxy → Proxy → Text → Text → Result Next Heard → Type 0
NextSo heard old new memory then result = OnSize heard old new memory then result (length memory == slab_size && nat_lt heard.server server_limit)

-- AN OWNER IS TOLD that the connection went down, or all were: one turn of the gate
abbrev pub ToldIs : Servers → Proxy → Text → Done → Telling → Type 0
ToldIs servers new memory d (Tell f o) = (d.out ≡ fails f.server (owner_of o) ∷ []) × Tells servers new f memory d.then
ToldIs servers new memory d AllTold = (d.out ≡ []) × Stands servers new memory d.then

abbrev pub TellSo : Fallen → Proxy → Proxy → Telling → Type 0
TellSo fallen old new result = (servers : Servers) (memory : Text) (g : Gate) → Tells servers old fallen memory g → (d : Done) × (turn servers ear g ≡ Some d) × ToldIs servers new memory d result
