-- A server says something, where the gate rests: its piece is to be heard.
use Rattle.std.proofs.Common.{◌≡◌, ℕ, zero, suc, ◌≤◌, Bool, true, false, cond, not, ◌&&◌, ◌==◌, List, [], ◌∷◌, length, Some, None, Option, sym, refl, ap, ◌∙◌, subst, slice_get, arith}
use Rattle.std.proofs.lemmas.Bool.{eqb-true}
use Rattle.text.specs.Bytes.{Text}
use Rattle.connection.specs.Model.{Conn, put, owner_limit}
use Rattle.connection.specs.Stands.{Stands as ConnStands, Pends, come}
use Rattle.connection.specs.declared.state.Busy.{Busy}
use Rattle.connection.specs.declared.state.Idle.{Idle}
use Rattle.ear.specs.Ways.{ear_way}
use Rattle.ear.specs.declared.Ear.{Ear}
use Rattle.response_laws.specs.Ear.{ear}
use Rattle.proxy.specs.Calls.{rests_now}
use Rattle.proxy.specs.Model.{Servers, Gate, from_server, hears, turn, comes, on_doing, on_line}
use Rattle.proxy.specs.Slots.{server_slot}
use Rattle.proxy.specs.Stands.{ConnPlace, Stands, Hears}
use Rattle.proxy.specs.Steps.{in_place, there_at, taken_at}
use Rattle.proxy.specs.declared.state.Proxy.{Proxy}
use Rattle.proxy.proofs.Places.{set_here, changed_here}
use Rattle.proxy.proofs.Away.{place_of, out_held}

-- where the gate rests nobody is in the line
line_empty : (b : Bool) (l : List ℕ) → (not b && (length l == 0)) ≡ true → l ≡ []
line_empty true l e = absurd (cc)
line_empty false [] e = refl
line_empty false (x ∷ l) e = absurd (omega (arith, eqb-true (length (x ∷ l)) 0 e))

-- a place without a connection stays as it is when one is taken out of it
taken_none : (places : List (Option (Idle Ear))) (s : ℕ) → there_at s places ≡ None → taken_at s places ≡ places
taken_none [] s e = refl
taken_none (x ∷ xs) zero e = ap (λ y. y ∷ xs) (sym e)
taken_none (x ∷ xs) (suc s) e = ap (λ ys. x ∷ ys) (taken_none xs s e)

-- the state is as it was then
pub none_taken : (p : Proxy) (s : ℕ) → there_at s p.connections.places ≡ None → record p { connections = record { places = taken_at s p.connections.places } } ≡ p
none_taken p s e = ap (λ (ps : List (Option (Idle Ear))). record p { connections = record { places = ps } }) (taken_none p.connections.places s e)

-- a place without a connection has none in the model
place_none : (slot : Text) (o : Option (Option (Idle Ear))) (b : Option Conn) → in_place o ≡ None → ConnPlace slot o b → b ≡ None
place_none slot None None e p = refl
place_none slot None (Some c) e p = elim p [ ]
place_none slot (Some None) None e p = refl
place_none slot (Some None) (Some c) e p = elim p [ ]
place_none slot (Some (Some i)) b e p = absurd (cc)

-- a connection that is there is one of the model
record There (slot : Text) (i : Idle Ear) (b : Option Conn) : Type 0 where
  pub c : Conn
  pub is : b ≡ Some c
  pub stands : ConnStands ear_way i.0 slot c
  pub few : length c.waiting ≤ owner_limit

there : (slot : Text) (i : Idle Ear) (b : Option Conn) → ConnPlace slot (Some (Some i)) b → There slot i b
there slot i (Some c) p = record { c = c; is = refl; stands = p.0; few = p.1 }
there slot i None p = elim p [ ]

-- who waits still waits when bytes come
waits_still : (s : Text) (c : Conn) (b : Bool) → (cond b (put s c) c).waiting ≡ c.waiting
waits_still s c true = refl
waits_still s c false = refl

module _ (servers : Servers) (p : Proxy) (memory : Text) (g : Gate) (h : Stands servers p memory g) (s : ℕ) (quiet : rests_now p ≡ true) where
  -- the line of the model is empty
  line_none : g.line ≡ []
  line_none = sym h.holds.line ∙ line_empty p.hears p.line.items quiet

  -- so the model rests
  pub rests_then : turn servers ear g ≡ None
  rests_then = ap (on_doing servers ear g) h.quiet.1 ∙ ap (on_line servers ear g) line_none

  -- there is no such server
  pub nobody_there : there_at s p.connections.places ≡ None → slice_get g.connections s ≡ None
  nobody_there e = place_none (server_slot s memory) (slice_get p.connections.places s) (slice_get g.connections s) e (h.holds.connections s (λ z. cc))

  module _ (i : Idle Ear) (e : there_at s p.connections.places ≡ Some i) where
    here : slice_get p.connections.places s ≡ Some (Some i)
    here = place_of (slice_get p.connections.places s) i e

    found : There (server_slot s memory) i (slice_get g.connections s)
    found = there (server_slot s memory) i (slice_get g.connections s) (subst (λ o. ConnPlace (server_slot s memory) o (slice_get g.connections s)) here (h.holds.connections s (λ z. cc)))

    -- its piece is to be heard
    taken_hears : (piece : Text) (busy : Busy Ear) → ((memory : Text) (c : Conn) → ConnStands ear_way i.0 memory c → Pends ear_way busy memory (come piece c)) →
        Hears servers (record p { connections = record { places = taken_at s p.connections.places }; hears = true }) (record { server = s; busy = busy }) memory (comes (from_server s piece) g)
    taken_hears piece busy next =
        let c = found.c in
        record {
          c = come piece c;
          away = record {
            holds = out_held servers p memory g s (come piece) (hears s) true h.holds;
            hearing = refl;
            place = set_here p.connections.places s (Some i) None here;
            is = changed_here (come piece) g.connections s c found.is;
            few = omega (arith, ap length line_none, ap length (waits_still piece c c.up), found.few);
          };
          doing = refl;
          pends = next (server_slot s memory) c found.stands;
        }

    -- with the places as they are then
    pub hears_then : (places : List (Option (Idle Ear))) → places ≡ taken_at s p.connections.places → (piece : Text) (busy : Busy Ear) →
        ((memory : Text) (c : Conn) → ConnStands ear_way i.0 memory c → Pends ear_way busy memory (come piece c)) →
        Hears servers (record p { connections = record { places = places }; hears = true }) (record { server = s; busy = busy }) memory (comes (from_server s piece) g)
    hears_then places taken piece busy next =
        subst (λ (ps : List (Option (Idle Ear))). Hears servers (record p { connections = record { places = ps }; hears = true }) (record { server = s; busy = busy }) memory (comes (from_server s piece) g))
        (sym taken) (taken_hears piece busy next)
