-- The promise on the calls: each call leads from a moment of the gate to the next, whatever happened before it, and the whole promise holds there.
use Rattle.std.specs.Prelude.{◌≡◌, ℕ, ◌^◌, ◌<◌, Bool, true, false, ◌&&◌, List, [], ◌∷◌, ◌++◌, map, length, drop, Some, Ok, Err, Result, ◌==◌, nat_lt, slice_get}
use Rattle.std.specs.Borrow.{Bor}
use Rattle.text.specs.Bytes.{Text}
use Rattle.connection.specs.Owners.{owner_of}
use Rattle.response_laws.specs.Ear.{ear}
use Rattle.rules.specs.declared.Rule.{Rule}
use Rattle.proxy.specs.Model.{Servers, Client, Gate, answers, fails, downs, from_client, from_server, bytes_of, comes, opened}
use Rattle.proxy.specs.Model.{Did as Done}
use Rattle.proxy.specs.Slots.{server_limit, slab_size}
use Rattle.proxy.specs.Stands.{settings, Stands, Hears, Tells}
use Rattle.proxy.specs.Calls.{OutOf, Unread, answer_text, entry_of}
use Rattle.proxy.specs.declared.state.Misuse.{Misuse}
use Rattle.proxy.specs.declared.state.Proxy.{Proxy}
use Rattle.proxy.specs.declared.client.Turn.{Turn}
use Rattle.proxy.specs.declared.server.Heard.{Heard}
use Rattle.proxy.specs.declared.server.Fallen.{Fallen}
use Rattle.proxy.specs.declared.server.Next.{Next}
use Rattle.proxy.specs.declared.server.Next.TheVariants.{Answer, Down, Rest}
use Rattle.proxy.specs.declared.server.Telling.{Telling}
use Rattle.proxy.specs.declared.server.Telling.TheVariants.{Tell, Rest as AllTold}
use Rattle.proxy_laws.specs.Traces.{Entry, came, went, Runs}
use Rattle.proxy_laws.specs.Whole.{Whole}

module _ (servers : Servers) where
  -- What happened so far led to this state of the model, and all that is promised of it holds.
  pub record Moment (es : List Entry) (g : Gate) : Type 0 where
    pub runs : Runs servers ear es g
    pub whole : Whole servers es g

  -- the gate, with the memory lent for it, stands for this moment
  pub record At (p : Proxy) (memory : Text) (es : List Entry) (g : Gate) : Type 0 where
    pub stands : Stands servers p memory g
    pub moment : Moment es g

  -- so does one at which a piece is being heard
  pub record HearsAt (p : Proxy) (h : Heard) (memory : Text) (es : List Entry) (g : Gate) : Type 0 where
    pub hears : Hears servers p h memory g
    pub moment : Moment es g

  -- and one of whose connections one went down, while its owners are being told
  pub record TellsAt (p : Proxy) (f : Fallen) (memory : Text) (es : List Entry) (g : Gate) : Type 0 where
    pub tells : Tells servers p f memory g
    pub moment : Moment es g

-- the gate is made
abbrev pub OpensAt : List (Bor Text) → List (Bor (List Rule)) → Result Proxy Misuse → Type 0
OpensAt names rules (Ok p) = (memory : Text) → length memory ≡ slab_size → At (settings names rules) p memory [] (opened (settings names rules))
OpensAt names rules (Err m) = Unit {0}

-- a client sent something, whatever it was
abbrev pub ClientSentAt : ℕ → Proxy → Proxy → Result (Unit {0}) Misuse → Type 0
ClientSentAt c old new (Ok u) = (servers : Servers) (memory : Text) (es : List Entry) (g : Gate) → At servers old memory es g → (s : Text) → At servers new memory (es ++ (came (from_client c s) ∷ [])) (comes (from_client c s) g)
ClientSentAt c old new (Err m) = Unit {0}

-- A client goes on: what went out by it is what happened next.
module _ (old new : Proxy) (memory then unread out after : Text) (result : Result Turn Misuse) where
  abbrev pub OnEntryAt : Result ℕ Misuse → Type 0
  OnEntryAt (Err m) = Unit {0}
  OnEntryAt (Ok c) =
      (servers : Servers) (es : List Entry) (g : Gate) (x : Client) → At servers old memory es g → slice_get g.clients c ≡ Some x → x.unread ≡ unread → length (bytes_of x) < 2 ^ 64 →
      (t : Turn) × (result ≡ Ok t) × (t.client ≡ c) × ((d : Done) × OutOf c t.did d.out out after × At servers new then (es ++ map went d.out) d.then × Unread c (drop t.taken unread) d.then)

  abbrev pub GoesOnAt : Type 0
  GoesOnAt = OnEntryAt (entry_of old (length memory) (length out))

-- a server said something
abbrev pub ServerSaidAt : ℕ → Text → Proxy → Proxy → Result Heard Misuse → Type 0
ServerSaidAt s piece old new (Ok h) =
    (servers : Servers) (memory : Text) (es : List Entry) (g : Gate) → At servers old memory es g → HearsAt servers new h memory (es ++ (came (from_server s piece) ∷ [])) (comes (from_server s piece) g)
ServerSaidAt s piece old new (Err m) = Unit {0}

-- What comes next of it: a response is handed over, or its connection went down, or nothing more.
module _ (servers : Servers) (new : Proxy) (then : Text) (es : List Entry) where
  abbrev pub NextIsAt : Done → Result Next Heard → Type 0
  NextIsAt d (Ok (Answer h a)) = (d.out ≡ answers a.server (owner_of a.handed.owner) (record { last = a.handed.last; text = answer_text a then }) ∷ []) × HearsAt servers new h then (es ++ map went d.out) d.then
  NextIsAt d (Ok (Down f)) = (d.out ≡ downs f.server ∷ []) × TellsAt servers new f then (es ++ map went d.out) d.then
  NextIsAt d (Ok Rest) = (d.out ≡ []) × At servers new then (es ++ map went d.out) d.then
  NextIsAt d (Err h) = ⊥

abbrev pub OnSizeAt : Heard → Proxy → Proxy → Text → Text → Result Next Heard → Bool → Type 0
OnSizeAt heard old new memory then result true = (servers : Servers) (es : List Entry) (g : Gate) → HearsAt servers old heard memory es g → (d : Done) × NextIsAt servers new then es d result
OnSizeAt heard old new memory then result false = Unit {0}

abbrev pub NextAt : Heard → Proxy → Proxy → Text → Text → Result Next Heard → Type 0
NextAt heard old new memory then result = OnSizeAt heard old new memory then result (length memory == slab_size && nat_lt heard.server server_limit)

-- An owner is told; or all were.
abbrev pub ToldAt : Servers → Proxy → Text → List Entry → Done → Telling → Type 0
ToldAt servers new memory es d (Tell f o) = (d.out ≡ fails f.server (owner_of o) ∷ []) × TellsAt servers new f memory (es ++ map went d.out) d.then
ToldAt servers new memory es d AllTold = (d.out ≡ []) × At servers new memory (es ++ map went d.out) d.then

abbrev pub TellAt : Fallen → Proxy → Proxy → Telling → Type 0
TellAt fallen old new result = (servers : Servers) (memory : Text) (es : List Entry) (g : Gate) → TellsAt servers old fallen memory es g → (d : Done) × ToldAt servers new memory es d result
