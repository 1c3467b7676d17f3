-- What the small steps of the code do to its state.
use Rattle.std.specs.Prelude.{◌≡◌, ℕ, suc, ◌^◌, ◌<◌, Bool, true, false, cond, List, [], ◌∷◌, ◌++◌, length, drop, set, Some, None, Ok, Err, Option, Result, nat_lt, slice_get}
use Rattle.text.specs.Bytes.{Text}
use Rattle.message.specs.Faults.{ends_client}
use Rattle.message.specs.declared.fault.Fault.{Fault}
use Rattle.message.specs.declared.fault.Fault.TheVariants.{Denied, Busy, Down}
use Rattle.message.specs.declared.fault.Unfit.{Unfit}
use Rattle.request.specs.Canonical.{Req}
use Rattle.request.specs.Found.{Finding, passed, more, fault}
use Rattle.request.specs.Hosts.{names_of}
use Rattle.request.specs.declared.reading.Fed.{Fed}
use Rattle.request.specs.declared.reading.Reading.{Reading}
use Rattle.request.specs.declared.reading.Reading.TheVariants.{InHead}
use Rattle.request_laws.specs.Laws.{finding_of}
use Rattle.request_laws.specs.Outcome.{outcome}
use Rattle.request_laws.specs.Pieces.{InHand, ReadsOn}
use Rattle.rules.specs.Rules.{verdict, parts_in}
use Rattle.connection.specs.Model.{Conn, fresh, owner_limit}
use Rattle.connection.specs.Stands.{AskedSo}
use Rattle.connection.specs.declared.state.Idle.{Idle}
use Rattle.connection.specs.declared.state.Unsent.{Unsent}
use Rattle.connection.specs.declared.state.Unsent.TheVariants.{Refused as Unsaid, Full, Method}
use Rattle.ear.specs.Ways.{ear_way}
use Rattle.ear.specs.declared.Ear.{Ear}
use Rattle.proxy.specs.Model.{rules_of}
use Rattle.proxy.specs.Stands.{ConnPlace, servers_of}
use Rattle.proxy.specs.declared.state.Misuse.{Misuse}
use Rattle.proxy.specs.declared.state.Proxy.{Proxy}
use Rattle.proxy.specs.declared.state.Client.{Client}
use Rattle.proxy.specs.declared.state.Client.TheVariants.{Reads, Waits, Ended}
use Rattle.proxy.specs.declared.client.Turn.{Turn}
use Rattle.proxy.specs.declared.client.Did.{Did}
use Rattle.proxy.specs.declared.client.Did.TheVariants.{Nothing, Sent, Refused}

-- the connection to a server, where there are so many
abbrev pub opened_of : ℕ → ℕ → Option Conn
opened_of s count = cond (nat_lt s count) (Some fresh) None

-- the place of a server, where it has one and the connection is there
abbrev pub in_place : Option (Option (Idle Ear)) → Option (Idle Ear)
in_place (Some x) = x
in_place None = None

abbrev pub there_at : ℕ → List (Option (Idle Ear)) → Option (Idle Ear)
there_at s places = in_place (slice_get places s)

abbrev pub taken_at : ℕ → List (Option (Idle Ear)) → List (Option (Idle Ear))
taken_at s places = set places s None

abbrev pub put_at : ℕ → Idle Ear → List (Option (Idle Ear)) → List (Option (Idle Ear))
put_at s i places = set places s (Some i)

-- places of which the first is that of the server i, as they are opened among so many
unfoldable pub OpensFrom : ℕ → ℕ → List (Option (Idle Ear)) → Type 0
OpensFrom i n [] = Unit
OpensFrom i n (x ∷ xs) = ((slot : Text) → ConnPlace slot (Some x) (opened_of i n)) × OpensFrom (suc i) n xs

abbrev pub Opens : ℕ → List (Option (Idle Ear)) → Type 0
Opens n places = (length places ≡ 8) × OpensFrom 0 n places

-- OF A CLIENT c

-- how far its request has been read, where it reads
abbrev pub reading_in : Option Client → Option Reading
reading_in (Some (Reads r)) = Some r
reading_in (Some Waits) = None
reading_in (Some Ended) = None
reading_in None = None

-- it is at something else
abbrev pub set_to : ℕ → Client → Proxy → Proxy
set_to c h p = record p { clients = set p.clients c h }

-- and leaves the front of the line
abbrev pub left_by : ℕ → Client → Proxy → Proxy
left_by c h p = record p { clients = set p.clients c h; line = record { items = drop 1 p.line.items } }

-- it is refused
abbrev pub refused_by : ℕ → Fault → Proxy → Proxy
refused_by c f p = cond (ends_client f) (left_by c Ended p) (set_to c (Reads (InHead 0)) p)

-- OF ITS REQUEST q for the server s, with the output as it was and as it is then

-- what the connection said, as a fault where it did not go out
abbrev pub told_of : Result ℕ Unsent → Result ℕ Fault
told_of (Ok n) = Ok n
told_of (Err (Unsaid f)) = Err f
told_of (Err (Full f)) = Err Busy
told_of (Err Method) = Err Busy

module _ (c s : ℕ) (q : Req) (out after : Text) where
  -- the connection is asked, where there is one
  abbrev pub AsksPlace : List (Option (Idle Ear)) → List (Option (Idle Ear)) → Result ℕ Fault → Option (Idle Ear) → Type 0
  AsksPlace places new r (Some i) = (j : Idle Ear) × (a : Result ℕ Unsent) × AskedSo ear_way c q out after i.0 j.0 a × (new ≡ put_at s j places) × (r ≡ told_of a)
  AsksPlace places new r None = (r ≡ Err Down) × (new ≡ places) × (after ≡ out)

  abbrev pub AsksSo : List (Option (Idle Ear)) → List (Option (Idle Ear)) → Result ℕ Fault → Type 0
  AsksSo places new r = AsksPlace places new r (there_at s places)

  -- the rules of the server come first
  abbrev pub OnRules : Proxy → Proxy → Result ℕ Fault → Bool → Type 0
  OnRules p new r true = AsksSo p.connections.places new.connections.places r × (new ≡ record p { connections = new.connections })
  OnRules p new r false = (r ≡ Err Denied) × (new ≡ p) × (after ≡ out)

  abbrev pub PassSo : Proxy → Proxy → Result ℕ Fault → Type 0
  PassSo p new r = OnRules p new r (verdict (rules_of (servers_of p) s) q.method (parts_in q.target))

-- whether it went out, and how the gate stands then
abbrev pub OnPass : ℕ → ℕ → Proxy → Proxy → Result Did Unfit → Result ℕ Fault → Type 0
OnPass c s p new did (Ok n) = (did ≡ Ok (Sent s n)) × (new ≡ left_by c Waits p)
OnPass c s p new did (Err f) = (did ≡ Ok (Refused f)) × (new ≡ refused_by c f p)

-- what was found of it, which has been read as far as r
abbrev pub OnFinding : ℕ → Reading → Text → Text → Proxy → Proxy → Result Did Unfit → Finding → Type 0
OnFinding c r out after p new did more = (did ≡ Ok Nothing) × (new ≡ left_by c (Reads r) p) × (after ≡ out)
OnFinding c r out after p new did (fault w) = (did ≡ Ok (Refused w.fault)) × (new ≡ refused_by c w.fault p) × (after ≡ out)
OnFinding c r out after p new did (passed s q) = (mid : Proxy) × (a : Result ℕ Fault) × PassSo c s q out after p mid a × OnPass c s mid new did a

-- how many of its n unread bytes are taken, of which k were read: all where its connection ends
abbrev pub taken_by : Did → ℕ → ℕ → ℕ
taken_by Nothing n k = k
taken_by (Sent s len) n k = k
taken_by (Refused f) n k = cond (ends_client f) n k

-- A client's unread bytes are read, of whose request in hand a part had come to its slot.
abbrev pub ReadSo : ℕ → Reading → Text → Text → Text → Text → Text → Proxy → Proxy → Result Turn Misuse → Type 0
ReadSo c r slot then unread out after p new result =
    (part : Text) → InHand (names_of p.names.now) r slot part → length (part ++ unread) < 2 ^ 64 →
    (fed : Fed) × (did : Did) × (result ≡ Ok (record { client = c; taken = taken_by did (length unread) fed.taken; did = did })) × ReadsOn (names_of p.names.now) part unread then (Ok fed) ×
    OnFinding c fed.reading out after p new (Ok did) (finding_of (outcome (names_of p.names.now) (part ++ unread)))

-- A client is freed: it reads again, and is behind the others in the line where there is room.
abbrev pub freed_by : ℕ → Proxy → Proxy → Type 0
freed_by c p new = (length p.line.items < owner_limit) → new ≡ record p { clients = set p.clients c (Reads (InHead 0)); line = record { items = p.line.items ++ (c ∷ []) } }

-- and only where that was the last response to its request
abbrev pub freed_if_by : Bool → ℕ → Proxy → Proxy → Type 0
freed_if_by true c p new = freed_by c p new
freed_if_by false c p new = new ≡ p

-- a connection is back, and nothing is heard any more
abbrev pub rested_by : ℕ → Idle Ear → Proxy → Proxy
rested_by s i p = record p { connections = record { places = put_at s i p.connections.places }; hears = false }
