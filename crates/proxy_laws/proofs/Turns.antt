-- Every turn and every event keeps what is kept of the gate.
use Rattle.std.proofs.Common.{◌≡◌, ℕ, Bool, true, false, cond, List, [], ◌∷◌, ◌++◌, sym, refl, ◌∙◌, subst, arith}
use Rattle.std.specs.Prelude.{Some, None, Option, slice_get}
use Rattle.std.specs.List.{Contains}
use Rattle.text.specs.Bytes.{Text}
use Rattle.connection.specs.Model.{Conn, Turn, rests, gives, falls, put, says}
use Rattle.connection.specs.Stands.{come, turn_now}
use Rattle.response_laws.specs.Ear.{ear}
use Rattle.proxy.specs.Model.{Servers, Client, Doing, nothing, hears, tells, Did, Event, from_client, from_server, changed, more_of, comes, turn, on_turn, on_hearing}
use Rattle.proxy_laws.specs.Traces.{Entry, came}
use Rattle.proxy_laws.proofs.AtClient.{AtClient, at_kept}
use Rattle.proxy_laws.proofs.AtServer.{AtServer, happens_one, server_kept, server_hears}
use Rattle.proxy_laws.proofs.Changed.{each_changed, changed_long}
use Rattle.proxy_laws.proofs.ClientSteps.{at_bytes}
use Rattle.proxy_laws.proofs.Handing.{gives_keeps, tells_keeps}
use Rattle.proxy_laws.proofs.Keeps.{Keeps, gate, Kept, nobody_then, no_step}
use Rattle.proxy_laws.proofs.LineTurn.{line_keeps}
use Rattle.proxy_laws.proofs.Owed.{Owed, pending}
use Rattle.proxy_laws.proofs.Projections.{sent_one, outs_one, own, other}
use Rattle.proxy_laws.proofs.Quiet.{told_keeps, deaf_keeps, rest_keeps, fall_keeps}
use Rattle.proxy_laws.proofs.Waits.{Any, onward_changed}

done_so : (d e : Did) → ◌≡◌ {A = Option Did} (Some d) (Some e) → d ≡ e
done_so d e h = cc

pub none_in : {A P : Type 0} (x : A) → Contains [] x → P
none_in x m = let lt = m.1 in absurd (omega arith)

module _ (servers : Servers) (es : List Entry) (xs : List Client) (ds : List Conn) (line : List ℕ) where
  -- at a connection whose server is heard
  module _ (s : ℕ) (h : Keeps servers es (gate xs ds (hears s) line)) where
    heard_turn : (c : Conn) → slice_get ds s ≡ Some c → (t : Turn) → turn_now ear c ≡ t → Kept servers es (on_turn (gate xs ds (hears s) line) s c t)
    heard_turn c at rests e = rest_keeps servers es xs ds line s h c at e
    heard_turn c at (gives d) e = gives_keeps servers es xs ds line s h c at d e
    heard_turn c at falls e = fall_keeps servers es xs ds line s h c at e

    heard : (o : Option Conn) → slice_get ds s ≡ o → Kept servers es (on_hearing ear (gate xs ds (hears s) line) s o)
    heard None at = deaf_keeps servers es xs ds line s h at
    heard (Some c) at = heard_turn c at (turn_now ear c) refl

module _ (servers : Servers) (es : List Entry) (xs : List Client) (ds : List Conn) where
  pub turn_keeps : (w : Doing) (line : List ℕ) (d : Did) → Keeps servers es (gate xs ds w line) → turn servers ear (gate xs ds w line) ≡ Some d → Kept servers es d
  turn_keeps nothing [] d h e = cc
  turn_keeps nothing (c ∷ cs) d h e = subst (Kept servers es) (done_so _ d e) (line_keeps servers es xs ds c cs h)
  turn_keeps (hears s) line d h e = subst (Kept servers es) (done_so _ d e) (heard servers es xs ds line s h (slice_get ds s) refl)
  turn_keeps (tells s []) line d h e = subst (Kept servers es) (done_so _ d e) (told_keeps servers es xs ds line s h)
  turn_keeps (tells s (o ∷ os)) line d h e = subst (Kept servers es) (done_so _ d e) (tells_keeps servers es xs ds line s o os h)

  -- where it rests nothing goes on, and nobody is in the line
  pub at_rest : (w : Doing) (line : List ℕ) → turn servers ear (gate xs ds w line) ≡ None → (w ≡ nothing) × (line ≡ [])
  at_rest nothing [] e = (refl, refl)
  at_rest nothing (c ∷ cs) e = cc
  at_rest (hears s) line e = cc
  at_rest (tells s os) line e = cc

  -- EVENTS
  module _ (h : Keeps servers es (gate xs ds nothing [])) where
    client_comes : (c : ℕ) (s : Text) → Keeps servers (es ++ (came (from_client c s) ∷ [])) (comes (from_client c s) (gate xs ds nothing []))
    client_comes c s =
        let e : Entry = came (from_client c s) in
        let ys : List Entry = e ∷ [] in
        let f : Client → Client = λ x. more_of s x.stage x in
        record {
          now = h.now;
          few = changed_long f xs c ∙ h.few;
          many = h.many;
          clients = each_changed (λ d x. AtClient servers es [] d x (h.now d)) (λ d x. AtClient servers (es ++ ys) (c ∷ []) d x (h.now d)) f xs c
              (λ x i a. at_bytes servers es [] c x (h.now c) ys s (sent_one c e ∙ own c c s [] refl) (outs_one c e) a)
              (λ d x n i a. at_kept servers es ys d (sent_one d e ∙ other c d s [] (λ z. n (sym z))) [] (c ∷ []) x (h.now d) (outs_one d e) a (none_in d)) h.clients;
          connections = λ k d i. let b = h.connections k d i in server_kept servers es ys nothing nothing k d b [] (happens_one e k) refl b.calm;
          owed = h.owed;
          waits = h.waits;
          nobody = λ d m. nobody_then servers es ys (gate xs ds nothing []) h d m (outs_one d e);
          fell = tt;
        }

    come_waits : (s : Text) (d : Conn) (b : Bool) → (cond b (put s d) d).waiting ≡ d.waiting
    come_waits s d true = refl
    come_waits s d false = refl

    server_comes : (k : ℕ) (s : Text) → Keeps servers (es ++ (came (from_server k s) ∷ [])) (comes (from_server k s) (gate xs ds nothing []))
    server_comes k s =
        let e : Entry = came (from_server k s) in
        let ys : List Entry = e ∷ [] in
        no_step servers es ys (gate xs ds nothing []) h (changed (come s) k ds) (hears k) [] (changed_long (come s) ds k) (λ d. sent_one d e) (λ d. outs_one d e)
        (λ d y i a. at_kept servers es ys d (sent_one d e) [] [] y (h.now d) (outs_one d e) a (λ m. m))
        (each_changed (AtServer servers es nothing) (AtServer servers (es ++ ys) (hears k)) (come s) ds k
        (λ y i b. server_hears servers es ys nothing (hears k) k y b s (let z = happens_one e k in record { order = z.order ∙ own k k (says s ∷ []) [] refl; says = z.says ∙ own k k s [] refl; asks = z.asks; gets = z.gets; tells = z.tells; ends = z.ends }) refl (b.calm (λ z. cc)) refl)
        (λ j y n i b. server_kept servers es ys nothing (hears k) j y b [] (let z = happens_one e j in record { order = z.order ∙ other k j (says s ∷ []) [] (λ m. n (sym m)); says = z.says ∙ other k j s [] (λ m. n (sym m)); asks = z.asks; gets = z.gets; tells = z.tells; ends = z.ends }) refl (λ m. b.calm (λ z. cc))) h.connections)
        (each_changed (λ j y. Owed h.now j (pending j nothing y)) (λ j y. Owed h.now j (pending j (hears k) y)) (come s) ds k
        (λ y i b. subst (Owed h.now k) (sym (come_waits s y y.up)) b)
        (λ j y n i b. b) h.owed)
        (onward_changed Any ds nothing (hears k) (come s) k (λ y o i _ m. subst (λ os. Contains os o) (sym (come_waits s y y.up)) m) (λ j y o n m. m)) tt

    rested_comes : (v : Event) → Keeps servers (es ++ (came v ∷ [])) (comes v (gate xs ds nothing []))
    rested_comes (from_client c s) = client_comes c s
    rested_comes (from_server k s) = server_comes k s

  pub event_keeps : (v : Event) (w : Doing) (line : List ℕ) → Keeps servers es (gate xs ds w line) → turn servers ear (gate xs ds w line) ≡ None → Keeps servers (es ++ (came v ∷ [])) (comes v (gate xs ds w line))
  event_keeps v nothing [] h e = rested_comes h v
  event_keeps v nothing (c ∷ cs) h e = cc
  event_keeps v (hears s) line h e = cc
  event_keeps v (tells s os) line h e = cc
