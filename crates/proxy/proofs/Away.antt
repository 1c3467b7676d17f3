-- The state stands for the model still, when a connection leaves its place, changes while it is away, and comes back.
use Rattle.std.proofs.Common.{◌≡◌, ◌≢◌, ℕ, suc, ◌+◌, ◌≤◌, Bool, List, [], ◌∷◌, ◌++◌, length, set, Some, None, Option, sym, refl, ap, ◌∙◌, subst, slice_get, arith}
use Rattle.std.proofs.lemmas.List.{length-append}
use Rattle.std.proofs.lemmas.Option.{slice_get_past}
use Rattle.text.specs.Bytes.{Text}
use Rattle.request.specs.declared.reading.Reading.TheVariants.{InHead}
use Rattle.connection.specs.Model.{Conn, owner_limit}
use Rattle.connection.specs.Stands.{Stands as ConnStands}
use Rattle.connection.specs.declared.state.Idle.{Idle}
use Rattle.ear.specs.Ways.{ear_way}
use Rattle.ear.specs.declared.Ear.{Ear}
use Rattle.proxy.specs.Model.{Servers, Client, Gate, Doing, nothing, client_count, changed, freed}
use Rattle.proxy.specs.Slots.{client_slot, server_slot}
use Rattle.proxy.specs.Stands.{ClientPlace, ConnPlace, Holds, Stands, Away}
use Rattle.proxy.specs.Steps.{in_place, taken_at, rested_by}
use Rattle.proxy.specs.declared.state.Proxy.{Proxy}
use Rattle.proxy.specs.declared.state.Client.{Client as Held}
use Rattle.proxy.specs.declared.state.Client.TheVariants.{Reads}
use Rattle.proxy.proofs.Places.{same_or, less_or, set_here, set_there, changed_here, changed_there}
use Rattle.proxy.proofs.Holding.{OnlySlot, conn_same, conn_some, freed_held}

-- the place of a client, with another memory that holds the same in its slot
place_moved : (names : List Text) (slot slot' : Text) (a : Option Held) (b : Option Client) → slot' ≡ slot → ClientPlace names slot a b → ClientPlace names slot' a b
place_moved names slot slot' a b e s = subst (λ t. ClientPlace names t a b) (sym e) s

-- behind the clients that there are nobody has a place, in the model either
nobody : (names : List Text) (slot slot' : Text) (a : Option Held) (b : Option Client) → a ≡ None → ClientPlace names slot a b → ClientPlace names slot' a b
nobody names slot slot' None None e s = tt
nobody names slot slot' None (Some x) e s = s
nobody names slot slot' (Some h) b e s = absurd (cc)

-- where a connection's slot is written, a client's place is as it was
client_kept : (names : List Text) (hs : List Held) (s c : ℕ) (memory then : Text) (b : Option Client) → length hs ≡ client_count → OnlySlot (client_count + s) memory then →
    ClientPlace names (client_slot c memory) (slice_get hs c) b → ClientPlace names (client_slot c then) (slice_get hs c) b
client_kept names hs s c memory then b many w p =
    less_or c client_count
    (λ h. place_moved names (client_slot c memory) (client_slot c then) (slice_get hs c) b (w.others c (λ e. omega arith)) p)
    (λ h. nobody names (client_slot c memory) (client_slot c then) (slice_get hs c) b (slice_get_past hs c (omega (arith, many))) p)

-- a server whose connection is there has a place
pub place_of : (o : Option (Option (Idle Ear))) (i : Idle Ear) → in_place o ≡ Some i → o ≡ Some (Some i)
place_of None i e = absurd (cc)
place_of (Some x) i e = ap (λ y. Some y) e

module _ (servers : Servers) (p : Proxy) (memory : Text) (g : Gate) (s : ℕ) where
  -- The connection of s leaves its place, and may be changed in the model.
  pub out_held : (f : Conn → Conn) (d : Doing) (hears : Bool) → Holds servers p memory g None →
      Holds servers (record p { connections = record { places = taken_at s p.connections.places }; hears = hears }) memory (record g { connections = changed f s g.connections; doing = d }) (Some s)
  out_held f d hears h =
      record {
        settings = h.settings;
        size = h.size;
        line = h.line;
        clients = h.clients;
        connections = λ k away.
            let other : k ≢ s = λ e. away (ap (λ j. Some j) (sym e)) in
            conn_same (server_slot k memory) (server_slot k memory) (slice_get p.connections.places k) (slice_get (taken_at s p.connections.places) k)
            (slice_get g.connections k) (slice_get (changed f s g.connections) k) refl (set_there p.connections.places s k None other) (changed_there f g.connections s k other) (h.connections k (λ e. cc));
      }

  module _ (many : length p.clients ≡ client_count) (h : Holds servers p memory g (Some s)) where
    -- While it is away its slot may be written, and it may be changed in the model.
    pub away_held : (f : Conn → Conn) (d : Doing) (then : Text) → OnlySlot (client_count + s) memory then →
        Holds servers p then (record g { connections = changed f s g.connections; doing = d }) (Some s)
    away_held f d then w =
        record {
          settings = h.settings;
          size = w.long ∙ h.size;
          line = h.line;
          clients = λ c. client_kept servers.names p.clients s c memory then (slice_get g.clients c) many w (h.clients c);
          connections = λ k away.
              let other : k ≢ s = λ e. away (ap (λ j. Some j) (sym e)) in
              let apart : client_count + k ≢ client_count + s = λ e. other (omega arith) in
              conn_same (server_slot k memory) (server_slot k then) (slice_get p.connections.places k) (slice_get p.connections.places k)
              (slice_get g.connections k) (slice_get (changed f s g.connections) k)
              (w.others (client_count + k) apart) refl (changed_there f g.connections s k other) (h.connections k away);
        }

    -- It comes back, as it is in the model.
    pub back_held : (d : Doing) (then : Text) (i : Idle Ear) (c : Conn) → OnlySlot (client_count + s) memory then → slice_get p.connections.places s ≡ Some None → slice_get g.connections s ≡ Some c →
        ConnPlace (server_slot s then) (Some (Some i)) (Some c) → Holds servers (rested_by s i p) then (record g { doing = d }) None
    back_held d then i c w ep eg stands =
        let there = set_here p.connections.places s None (Some i) ep in
        let here = conn_some (server_slot s then) (slice_get (set p.connections.places s (Some i)) s) (slice_get g.connections s) i c there eg stands in
        record {
          settings = h.settings;
          size = w.long ∙ h.size;
          line = h.line;
          clients = λ c. client_kept servers.names p.clients s c memory then (slice_get g.clients c) many w (h.clients c);
          connections = λ k away.
              same_or k s
              (λ e. subst (λ j. ConnPlace (server_slot j then) (slice_get (set p.connections.places s (Some i)) j) (slice_get g.connections j)) (sym e) here)
              (λ other.
              let apart : client_count + k ≢ client_count + s = λ e. other (omega arith) in
              let gone : Some s ≢ Some k = λ e. other (let same : s ≡ k = cc in sym same) in
              conn_same (server_slot k memory) (server_slot k then) (slice_get p.connections.places k) (slice_get (set p.connections.places s (Some i)) k)
              (slice_get g.connections k) (slice_get g.connections k)
              (w.others (client_count + k) apart) (set_there p.connections.places s k (Some i) other) refl (h.connections k gone));
        }

-- STATES

-- the gate's state, with a client freed
abbrev pub freed_state : ℕ → Proxy → Proxy
freed_state c p = record p { clients = set p.clients c (Reads (InHead 0)); line = record { items = p.line.items ++ (c ∷ []) } }

module _ (servers : Servers) (p : Proxy) (memory : Text) (g : Gate) (s : ℕ) (c : Conn) (room : ℕ) (many : length p.clients ≡ client_count) where
  -- A client is freed, where a connection is away.
  pub freed_away : (client : ℕ) → Away servers p memory g s c (suc room) → Away servers (freed_state client p) memory (freed client g) s c room
  freed_away client a =
      record {
        holds = freed_held servers p memory g (Some s) a.holds client many;
        hearing = a.hearing;
        place = a.place;
        is = a.is;
        few = omega (arith, length-append g.line (client ∷ []), a.few);
      }

  -- What is going on at it is another thing now.
  pub doing_away : (d : Doing) → Away servers p memory g s c room → Away servers p memory (record g { doing = d }) s c room
  doing_away d a =
      let h = a.holds in
      record {
        holds = record { settings = h.settings; size = h.size; line = h.line; clients = h.clients; connections = h.connections };
        hearing = a.hearing;
        place = a.place;
        is = a.is;
        few = a.few;
      }

  -- It is changed, and fewer may wait there.
  pub changed_away : (f : Conn → Conn) (d : Doing) (then : Text) (fewer : ℕ) → OnlySlot (client_count + s) memory then → fewer ≤ room → Away servers p memory g s c room →
      Away servers p then (record g { connections = changed f s g.connections; doing = d }) s (f c) fewer
  changed_away f d then fewer w less a =
      record {
        holds = away_held servers p memory g s many a.holds f d then w;
        hearing = a.hearing;
        place = a.place;
        is = changed_here f g.connections s c a.is;
        few = omega (arith, less, a.few);
      }

  -- It comes back.
  pub back_stands : (then : Text) (i : Idle Ear) → OnlySlot (client_count + s) memory then → ConnStands ear_way i.0 (server_slot s then) c → length c.waiting ≤ owner_limit →
      Away servers p memory g s c room → Stands servers (rested_by s i p) then (record g { doing = nothing })
  back_stands then i w stands few a =
      record {
        holds = back_held servers p memory g s many a.holds nothing then i c w a.place a.is (stands, few);
        quiet = (refl, refl);
      }
