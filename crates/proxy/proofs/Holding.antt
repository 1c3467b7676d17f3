-- The state stands for the model still, when a client or a connection is changed in both.
use Rattle.std.proofs.Common.{◌≡◌, ◌≢◌, ℕ, ◌+◌, ◌<◌, List, [], ◌∷◌, ◌++◌, length, set, Some, None, Option, sym, refl, ap, ◌∙◌, subst, slice_get, arith}
use Rattle.std.proofs.lemmas.Option.{slice_get_within}
use Rattle.text.specs.Bytes.{Text}
use Rattle.request.specs.declared.reading.Reading.TheVariants.{InHead}
use Rattle.request_laws.proofs.OnePiece.{begins}
use Rattle.connection.specs.Model.{Conn}
use Rattle.connection.specs.declared.state.Idle.{Idle}
use Rattle.ear.specs.declared.Ear.{Ear}
use Rattle.proxy.specs.Model.{Servers, Client, Gate, client_count, changed, freed, reopened}
use Rattle.proxy.specs.Slots.{slot_in, client_slot, server_slot}
use Rattle.proxy.specs.Stands.{ClientStands, ClientPlace, ConnPlace, Holds}
use Rattle.proxy.specs.declared.state.Proxy.{Proxy}
use Rattle.proxy.specs.declared.state.Client.{Client as Held}
use Rattle.proxy.specs.declared.state.Client.TheVariants.{Reads}
use Rattle.proxy.proofs.Places.{same_or, set_here, set_there, set_none, changed_here, changed_there, changed_none}
use Rattle.proxy.proofs.Slots.{slot_long}

-- PLACES

pub place_none : (names : List Text) (slot : Text) (a : Option Held) (b : Option Client) → a ≡ None → b ≡ None → ClientPlace names slot a b
place_none names slot None None ea eb = tt
place_none names slot None (Some y) ea eb = absurd (cc)
place_none names slot (Some h) b ea eb = absurd (cc)

pub place_some : (names : List Text) (slot : Text) (a : Option Held) (b : Option Client) (h : Held) (x : Client) → a ≡ Some h → b ≡ Some x → ClientStands names slot h x → ClientPlace names slot a b
place_some names slot a b h x ea eb s = subst (λ o. ClientPlace names slot o b) (sym ea) (subst (λ o. ClientPlace names slot (Some h) o) (sym eb) s)

pub place_held : (names : List Text) (slot : Text) (a : Option Held) (b : Option Client) (h : Held) (x : Client) → a ≡ Some h → b ≡ Some x → ClientPlace names slot a b → ClientStands names slot h x
place_held names slot a b h x ea eb s = subst (λ o. ClientPlace names slot (Some h) o) eb (subst (λ o. ClientPlace names slot o b) ea s)

place_same : (names : List Text) (slot slot' : Text) (a a' : Option Held) (b b' : Option Client) → slot' ≡ slot → a' ≡ a → b' ≡ b → ClientPlace names slot a b → ClientPlace names slot' a' b'
place_same names slot slot' a a' b b' es ea eb s =
    subst (λ t. ClientPlace names t a' b') (sym es) (subst (λ o. ClientPlace names slot o b') (sym ea) (subst (λ o. ClientPlace names slot a o) (sym eb) s))

pub conn_same : (slot slot' : Text) (a a' : Option (Option (Idle Ear))) (b b' : Option Conn) → slot' ≡ slot → a' ≡ a → b' ≡ b → ConnPlace slot a b → ConnPlace slot' a' b'
conn_same slot slot' a a' b b' es ea eb s =
    subst (λ t. ConnPlace t a' b') (sym es) (subst (λ o. ConnPlace slot o b') (sym ea) (subst (λ o. ConnPlace slot a o) (sym eb) s))

pub conn_some : (slot : Text) (a : Option (Option (Idle Ear))) (b : Option Conn) (i : Idle Ear) (c : Conn) → a ≡ Some (Some i) → b ≡ Some c → ConnPlace slot (Some (Some i)) (Some c) → ConnPlace slot a b
conn_some slot a b i c ea eb s = subst (λ o. ConnPlace slot o b) (sym ea) (subst (λ o. ConnPlace slot (Some (Some i)) o) (sym eb) s)

-- a client has a place in the state where it has one in the model
pub held_there : (names : List Text) (slot : Text) (a : Option Held) (x : Client) → ClientPlace names slot a (Some x) → (h : Held) × (a ≡ Some h)
held_there names slot (Some h) x s = (h, refl)
held_there names slot None x s = elim s [ ]

-- SLOTS: one is written, and no other
pub record OnlySlot (i : ℕ) (memory then : Text) : Type 0 where
  pub long : length then ≡ length memory
  pub others : (j : ℕ) → j ≢ i → slot_in j then ≡ slot_in j memory

pub no_slot : (i : ℕ) (memory : Text) → OnlySlot i memory memory
no_slot i memory = record { long = refl; others = λ j h. refl }

module _ (servers : Servers) (p : Proxy) (memory : Text) (g : Gate) (away : Option ℕ) (h : Holds servers p memory g away) where
  -- A client is changed, and so may be its slot and the line.
  pub client_held : (c : ℕ) (then : Text) (held now : Held) (x : Client) (f : Client → Client) (line : List ℕ) → c < client_count → OnlySlot c memory then → slice_get p.clients c ≡ Some held → slice_get g.clients c ≡ Some x →
      ClientStands servers.names (client_slot c then) now (f x) →
      Holds servers (record p { clients = set p.clients c now; line = record { items = line } }) then (record g { clients = changed f c g.clients; line = line }) away
  client_held c then held now x f line few w ep eg s =
      let here = place_some servers.names (client_slot c then) (slice_get (set p.clients c now) c) (slice_get (changed f c g.clients) c) now (f x) (set_here p.clients c held now ep) (changed_here f g.clients c x eg) s in
      record {
        settings = h.settings;
        size = w.long ∙ h.size;
        line = refl;
        clients = λ k. same_or k c
            (λ e. subst (λ j. ClientPlace servers.names (client_slot j then) (slice_get (set p.clients c now) j) (slice_get (changed f c g.clients) j)) (sym e) here)
            (λ d. place_same servers.names (client_slot k memory) (client_slot k then) (slice_get p.clients k) (slice_get (set p.clients c now) k) (slice_get g.clients k) (slice_get (changed f c g.clients) k) (w.others k d)
            (set_there p.clients c k now d) (changed_there f g.clients c k d) (h.clients k));
        connections = λ s apart. conn_same (server_slot s memory) (server_slot s then) (slice_get p.connections.places s) (slice_get p.connections.places s) (slice_get g.connections s) (slice_get g.connections s)
            (w.others (client_count + s) (λ e. omega arith)) refl refl (h.connections s apart);
      }

  -- The line alone is changed.
  pub line_held : (line : List ℕ) → Holds servers (record p { line = record { items = line } }) memory (record g { line = line }) away
  line_held line = record { settings = h.settings; size = h.size; line = refl; clients = h.clients; connections = h.connections }

  -- A client is freed.
  freed_at : (c : ℕ) (line : List ℕ) (a : Option Held) (b : Option Client) → length p.clients ≡ client_count → slice_get p.clients c ≡ a → slice_get g.clients c ≡ b → ClientPlace servers.names (client_slot c memory) a b →
      Holds servers (record p { clients = set p.clients c (Reads (InHead 0)); line = record { items = line } }) memory (record g { clients = changed reopened c g.clients; line = line }) away
  freed_at c line (Some k) (Some x) many ea eb s =
      let few = slice_get_within p.clients c k ea in
      client_held c memory k (Reads (InHead 0)) x reopened line (omega (arith, few, many)) (no_slot c memory) ea eb
      (refl, begins servers.names (client_slot c memory) (slot_long c memory h.size (omega (arith, few, many))))
  freed_at c line None None many ea eb s =
      subst (λ hs. Holds servers (record p { clients = hs; line = record { items = line } }) memory (record g { clients = changed reopened c g.clients; line = line }) away) (sym (set_none p.clients c (Reads (InHead 0)) ea)) (
      subst (λ xs. Holds servers (record p { line = record { items = line } }) memory (record g { clients = xs; line = line }) away) (sym (changed_none reopened g.clients c eb)) (line_held line)
      )
  freed_at c line (Some k) None many ea eb s = elim s [ ]
  freed_at c line None (Some x) many ea eb s = elim s [ ]

  pub freed_held : (c : ℕ) → length p.clients ≡ client_count →
      Holds servers (record p { clients = set p.clients c (Reads (InHead 0)); line = record { items = p.line.items ++ (c ∷ []) } }) memory (freed c g) away
  freed_held c many =
      subst (λ l. Holds servers (record p { clients = set p.clients c (Reads (InHead 0)); line = record { items = l } }) memory (freed c g) away) (ap (λ l. l ++ (c ∷ [])) (sym h.line))
      (freed_at c (g.line ++ (c ∷ [])) (slice_get p.clients c) (slice_get g.clients c) many refl refl (h.clients c))
