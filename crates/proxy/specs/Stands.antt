-- What the gate's state and the memory lent for it stand for in the model.
use Rattle.std.specs.Prelude.{◌≡◌, ◌≢◌, ℕ, ◌+◌, ◌≤◌, true, false, List, [], map, length, Some, None, Option, slice_get}
use Rattle.std.specs.Borrow.{Bor}
use Rattle.text.specs.Bytes.{Text}
use Rattle.request.specs.Hosts.{names_of}
use Rattle.request_laws.specs.Pieces.{InHand}
use Rattle.rules.specs.Rules.{view_rules}
use Rattle.rules.specs.declared.Rule.{Rule}
use Rattle.connection.specs.Model.{Owner, Conn, owner_limit}
use Rattle.connection.specs.Owners.{owner_of}
use Rattle.connection.specs.Stands.{Stands as ConnStands, Pends, Falls}
use Rattle.connection.specs.declared.state.Idle.{Idle}
use Rattle.ear.specs.Ways.{ear_way}
use Rattle.ear.specs.declared.Ear.{Ear}
use Rattle.proxy.specs.Model.{Servers, Client, Gate, reads, waits, ended, nothing, hears, tells}
use Rattle.proxy.specs.Slots.{slab_size, client_slot, server_slot}
use Rattle.proxy.specs.declared.state.Proxy.{Proxy}
use Rattle.proxy.specs.declared.state.Client.{Client as Held}
use Rattle.proxy.specs.declared.state.Client.TheVariants.{Reads, Waits, Ended}
use Rattle.proxy.specs.declared.server.Heard.{Heard}
use Rattle.proxy.specs.declared.server.Fallen.{Fallen}

-- the servers, as the code holds them
abbrev pub settings : List (Bor Text) → List (Bor (List Rule)) → Servers
settings names rules = record { names = names_of names; rules = map (λ us. view_rules us.now) rules }

abbrev pub servers_of : Proxy → Servers
servers_of p = settings p.names.now p.rules.now

-- a client, with its slot
abbrev pub ClientStands : List Text → Text → Held → Client → Type 0
ClientStands names slot (Reads r) x = (x.stage ≡ reads) × InHand names r slot x.hand
ClientStands names slot Waits x = (x.stage ≡ waits) × (x.hand ≡ [])
ClientStands names slot Ended x = (x.stage ≡ ended) × (x.hand ≡ []) × (x.unread ≡ [])

abbrev pub ClientPlace : List Text → Text → Option Held → Option Client → Type 0
ClientPlace names slot (Some h) (Some x) = ClientStands names slot h x
ClientPlace names slot None None = Unit
ClientPlace names slot (Some h) None = ⊥
ClientPlace names slot None (Some x) = ⊥

-- a connection at rest, with its slot; behind the servers that there are the places are empty
abbrev pub ConnPlace : Text → Option (Option (Idle Ear)) → Option Conn → Type 0
ConnPlace slot (Some (Some i)) (Some c) = ConnStands ear_way i.0 slot c × (length c.waiting ≤ owner_limit)
ConnPlace slot (Some (Some i)) None = ⊥
ConnPlace slot (Some None) (Some c) = ⊥
ConnPlace slot (Some None) None = Unit
ConnPlace slot None (Some c) = ⊥
ConnPlace slot None None = Unit

-- All but the connection at which something is going on, if there is one; its place is empty then.
pub record Holds (servers : Servers) (p : Proxy) (memory : Text) (g : Gate) (away : Option ℕ) : Type 0 where
  pub settings : servers_of p ≡ servers
  pub size : length memory ≡ slab_size
  pub line : p.line.items ≡ g.line
  pub clients : (c : ℕ) → ClientPlace servers.names (client_slot c memory) (slice_get p.clients c) (slice_get g.clients c)
  pub connections : (s : ℕ) → (away ≢ Some s) → ConnPlace (server_slot s memory) (slice_get p.connections.places s) (slice_get g.connections s)

module _ (servers : Servers) (p : Proxy) where
  -- nothing is going on at a connection
  pub record Stands (memory : Text) (g : Gate) : Type 0 where
    pub holds : Holds servers p memory g None
    pub quiet : (p.hears ≡ false) × (g.doing ≡ nothing)

  -- the connection c of the server s is away; behind the line there is room for those who wait there
  pub record Away (memory : Text) (g : Gate) (s : ℕ) (c : Conn) (room : ℕ) : Type 0 where
    pub holds : Holds servers p memory g (Some s)
    pub hearing : p.hears ≡ true
    pub place : slice_get p.connections.places s ≡ Some None
    pub is : slice_get g.connections s ≡ Some c
    pub few : length g.line + room ≤ owner_limit

  -- a server's piece is being heard
  pub record Hears (h : Heard) (memory : Text) (g : Gate) : Type 0 where
    pub c : Conn
    pub away : Away memory g h.server c (length c.waiting)
    pub doing : g.doing ≡ hears h.server
    pub pends : Pends ear_way h.busy (server_slot h.server memory) c

  -- a connection went down, and its owners are being told
  pub record Tells (f : Fallen) (memory : Text) (g : Gate) : Type 0 where
    pub c : Conn
    pub done : List Owner
    pub left : List Owner
    pub away : Away memory g f.server c (length left)
    pub doing : g.doing ≡ tells f.server left
    pub are : left ≡ map owner_of f.falling.0.owners
    pub falls : Falls ear_way f.falling c done
