-- A client sends something where the gate rests.
use Rattle.std.proofs.Common.{◌≡◌, ℕ, Bool, true, false, not, List, [], ◌∷◌, length, Some, None, Option, sym, refl, ap, ◌∙◌, subst, slice_get, eqb}
use Rattle.std.proofs.lemmas.Bool.{and_parts, eqb-true}
use Rattle.std.proofs.lemmas.List.{nil_from_length}
use Rattle.arrayvec.specs.ArrayVec.{ArrayVec}
use Rattle.text.specs.Bytes.{Text}
use Rattle.response_laws.specs.Ear.{ear}
use Rattle.proxy.specs.Model.{Servers, Client, Gate, Stage, reads, waits, ended, changed, more_of, from_client, comes, turn, on_line, on_doing}
use Rattle.proxy.specs.Slots.{client_slot}
use Rattle.proxy.specs.Stands.{ClientStands, ClientPlace, Stands}
use Rattle.proxy.specs.Calls.{rests_now}
use Rattle.proxy.specs.declared.state.Proxy.{Proxy}
use Rattle.proxy.specs.declared.state.Client.{Client as Held}
use Rattle.proxy.specs.declared.state.Client.TheVariants.{Reads, Waits, Ended}
use Rattle.proxy.proofs.Places.{same_or, mapped, changed_there, changed_map}

not_true : (b : Bool) → not b ≡ true → b ≡ false
not_true true e = cc
not_true false e = refl

-- nobody is in the line, and no piece is being heard
pub at_rest : (p : Proxy) → rests_now p ≡ true → (p.hears ≡ false) × (p.line.items ≡ [])
at_rest p e =
    let both = and_parts (not p.hears) (eqb (length p.line.items) 0) e in
    (not_true p.hears both.0, nil_from_length p.line.items (eqb-true (length p.line.items) 0 both.1))

-- so the model rests
pub no_turn : (servers : Servers) (p : Proxy) (memory : Text) (g : Gate) → Stands servers p memory g → p.line.items ≡ [] → turn servers ear g ≡ None
no_turn servers p memory g s e = ap (on_doing servers ear g) s.quiet.1 ∙ ap (on_line servers ear g) (sym s.holds.line ∙ e)

-- more unread bytes are no matter of the state
more_by : (names : List Text) (slot s : Text) (h : Held) (x : Client) (st : Stage) → x.stage ≡ st → ClientStands names slot h x → ClientStands names slot h (more_of s st x)
more_by names slot s (Reads r) x reads e k = (k.0, k.1)
more_by names slot s (Reads r) x waits e k = (k.0, k.1)
more_by names slot s (Reads r) x ended e k = k
more_by names slot s Waits x reads e k = (k.0, k.1)
more_by names slot s Waits x waits e k = (k.0, k.1)
more_by names slot s Waits x ended e k = k
more_by names slot s Ended x reads e k = let clash = sym e ∙ k.0 in absurd (cc)
more_by names slot s Ended x waits e k = let clash = sym e ∙ k.0 in absurd (cc)
more_by names slot s Ended x ended e k = k

abbrev more : Text → Client → Client
more s x = more_of s x.stage x

more_place : (names : List Text) (slot s : Text) (a : Option Held) (b : Option Client) → ClientPlace names slot a b → ClientPlace names slot a (mapped (more s) b)
more_place names slot s (Some h) (Some x) k = more_by names slot s h x x.stage refl k
more_place names slot s (Some h) None k = k
more_place names slot s None (Some x) k = k
more_place names slot s None None k = k

-- the model at one more piece of a client
pub sent_stands : (servers : Servers) (p : Proxy) (memory : Text) (g : Gate) (c : ℕ) (line : ArrayVec ℕ) (s : Text) → Stands servers p memory g → line.items ≡ c ∷ [] → Stands servers (record p { line = line }) memory (comes (from_client c s) g)
sent_stands servers p memory g c line s k e =
    let h = k.holds in
    record {
      holds = record {
        settings = h.settings;
        size = h.size;
        line = e;
        clients = λ i. same_or i c
            (λ same. subst (λ j. ClientPlace servers.names (client_slot j memory) (slice_get p.clients j) (slice_get (changed (more s) c g.clients) j)) (sym same)
            (subst (λ o. ClientPlace servers.names (client_slot c memory) (slice_get p.clients c) o) (sym (changed_map (more s) g.clients c)) (more_place servers.names (client_slot c memory) s (slice_get p.clients c) (slice_get g.clients c) (h.clients c))))
            (λ other. subst (λ o. ClientPlace servers.names (client_slot i memory) (slice_get p.clients i) o) (sym (changed_there (more s) g.clients c i other)) (h.clients i));
        connections = h.connections;
      };
      quiet = k.quiet;
    }
