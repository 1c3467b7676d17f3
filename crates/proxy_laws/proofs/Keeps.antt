-- What is kept of the whole gate, and how it stays so where one client, or none, has a step.
use Rattle.std.proofs.Common.{◌≡◌, ◌≢◌, ℕ, ◌<◌, ◌≤◌, List, [], ◌∷◌, ◌++◌, map, length, sym, refl, ◌∙◌, subst, ⊎_elim, arith}
use Rattle.std.specs.Prelude.{Some, slice_get}
use Rattle.std.specs.List.{Contains}
use Rattle.std.proofs.lemmas.Bool.{cases_eq}
use Rattle.std.proofs.lemmas.Option.{slice_get_within}
use Rattle.connection.specs.Model.{Conn, Response}
use Rattle.connection_laws.proofs.Ordered.{contains_cons}
use Rattle.proxy.specs.Model.{Servers, client_count, Client, Doing, nothing, hears, tells, Gate, Did, downs, changed}
use Rattle.proxy_laws.specs.Traces.{Entry, events_at, went, sent_by, outs_for, said_by, asked_of, got_from, told_by, downs_of}
use Rattle.proxy_laws.specs.Clients.{Now, Asked, waiting}
use Rattle.proxy_laws.proofs.AtClient.{AtClient, outs_then, at_kept}
use Rattle.proxy_laws.proofs.AtServer.{AtServer, Nothing, server_kept}
use Rattle.proxy_laws.proofs.Changed.{Each, each_changed, changed_long}
use Rattle.proxy_laws.proofs.Owed.{Owed, untold, pending, now_at, now_same, now_other}
use Rattle.proxy_laws.proofs.Waits.{Waiting, Waits, Onward, Any, Not, waits_on, waits_step}

-- a connection whose owners are told went down, and it is one of those there are
abbrev pub Fell : List Entry → List Conn → Doing → Type 0
Fell es ds nothing = Unit {0}
Fell es ds (hears s) = Unit {0}
Fell es ds (tells s os) = Contains es (went (downs s)) × ((d : Conn) × (slice_get ds s ≡ Some d))

-- now: what each client is at
pub record Keeps (servers : Servers) (es : List Entry) (g : Gate) : Type 0 where
  pub now : ℕ → Now
  pub few : length g.clients ≡ client_count
  pub many : length g.connections ≡ length servers.names
  pub clients : Each (λ c x. AtClient servers es g.line c x (now c)) g.clients
  pub connections : Each (AtServer servers es g.doing) g.connections
  pub owed : Each (λ k d. Owed now k (pending k g.doing d)) g.connections
  pub waits : Waits now g.connections g.doing
  pub nobody : (c : ℕ) → client_count ≤ c → outs_for c es ≡ []
  pub fell : Fell es g.connections g.doing

abbrev pub gate : List Client → List Conn → Doing → List ℕ → Gate
gate xs ds w line = record { clients = xs; connections = ds; doing = w; line = line }

-- what was done is kept so
abbrev pub Kept : Servers → List Entry → Did → Type 0
Kept servers es d = Keeps servers (es ++ map went d.out) d.then

-- nothing of what happens is of a server
abbrev pub Unheard : List Entry → Type 0
Unheard ys = (k : ℕ) → Nothing ys k

-- nothing of what happens is of another client than c
pub record Unseen (c : ℕ) (ys : List Entry) : Type 0 where
  pub sent : (d : ℕ) → d ≢ c → sent_by d ys ≡ []
  pub outs : (d : ℕ) → d ≢ c → outs_for d ys ≡ []

pub unheard_none : Unheard []
unfolding events_at said_by asked_of got_from told_by downs_of
unheard_none k = record { order = refl; says = refl; asks = refl; gets = refl; tells = refl; ends = refl }

pub sent_none : (d : ℕ) → sent_by d [] ≡ []
unfolding sent_by
sent_none d = refl

pub outs_none : (d : ℕ) → outs_for d [] ≡ []
unfolding outs_for
outs_none d = refl

pub unseen_none : (c : ℕ) → Unseen c []
unseen_none c = record { sent = λ d n. sent_none d; outs = λ d n. outs_none d }

-- those behind the first in the line
pub behind_first : (c d : ℕ) (cs : List ℕ) → d ≢ c → Contains (c ∷ cs) d → Contains cs d
behind_first c d cs n m = contains_cons c cs d (λ e. absurd (n (sym e))) (λ i. i) m

module _ (servers : Servers) (es ys : List Entry) (g : Gate) (h : Keeps servers es g) where
  -- the connections, where nothing happens at any
  pub connections_same : (w : Doing) → Unheard ys → ((k : ℕ) → w ≢ hears k → g.doing ≢ hears k) → ((k : ℕ) → untold k w ≡ untold k g.doing) → Each (AtServer servers (es ++ ys) w) g.connections
  connections_same w u f t k d i = let a = h.connections k d i in server_kept servers es ys g.doing w k d a [] (u k) (t k) (λ n. a.calm (f k n))

  pub nobody_then : (c : ℕ) → client_count ≤ c → outs_for c ys ≡ [] → outs_for c (es ++ ys) ≡ []
  nobody_then c m e = outs_then servers es ys c [] [] (h.nobody c m) e

  -- a client's step
  module _ (c : ℕ) (x : Client) (at : slice_get g.clients c ≡ Some x) (n : Now) (line : List ℕ) (unseen : Unseen c ys) (stay : (d : ℕ) → d ≢ c → Contains g.line d → Contains line d) where
    there : c < client_count
    there = omega (arith, slice_get_within g.clients c x at, h.few)

    others : (d : ℕ) (y : Client) → d ≢ c → AtClient servers es g.line d y (h.now d) → AtClient servers (es ++ ys) line d y (now_at h.now c n d)
    others d y m a = subst (AtClient servers (es ++ ys) line d y) (sym (now_other h.now c n d m)) (at_kept servers es ys d (unseen.sent d m) g.line line y (h.now d) (unseen.outs d m) a (stay d m))

    nobody_else : (d : ℕ) → client_count ≤ d → outs_for d (es ++ ys) ≡ []
    nobody_else d m = nobody_then d m (unseen.outs d (λ e. absurd (omega (arith, there))))

    module _ (ds : List Conn) (w : Doing) (long : length ds ≡ length g.connections) (connections : Each (AtServer servers (es ++ ys) w) ds) (owed : Each (λ k d. Owed (now_at h.now c n) k (pending k w d)) ds) (fell : Fell (es ++ ys) ds w) (onward : Onward (Not c) g.connections g.doing ds w)
        (own_wait : (a : Asked) (early : List Response) → n ≡ waiting a early → (a.owner.client ≡ c) × Waiting ds w a.server a.owner) where
      same_one : (y : Client) → slice_get g.clients c ≡ Some y → x ≡ y
      same_one y i = cc

      -- it is changed by it
      pub client_step : (f : Client → Client) → AtClient servers (es ++ ys) line c (f x) n → Keeps servers (es ++ ys) (gate (changed f c g.clients) ds w line)
      client_step f a = record {
        now = now_at h.now c n;
        few = changed_long f g.clients c ∙ h.few;
        many = long ∙ h.many;
        clients = each_changed (λ d y. AtClient servers es g.line d y (h.now d)) (λ d y. AtClient servers (es ++ ys) line d y (now_at h.now c n d)) f g.clients c
            (λ y i b. let same : x ≡ y = same_one y i in subst (λ (z : Client). AtClient servers (es ++ ys) line c (f z) (now_at h.now c n c)) same (subst (AtClient servers (es ++ ys) line c (f x)) (sym (now_same h.now c n)) a))
            (λ d y m i b. others d y m b) h.clients;
        connections = connections;
        owed = owed;
        waits = waits_step h.now g.connections g.doing ds w c n onward own_wait h.waits;
        nobody = nobody_else;
        fell = fell;
      }

      -- or it is only at something else now
      pub client_stays : AtClient servers (es ++ ys) line c x n → Keeps servers (es ++ ys) (gate g.clients ds w line)
      client_stays a = record {
        now = now_at h.now c n;
        few = h.few;
        many = long ∙ h.many;
        clients = λ d y i. ⊎_elim
            (λ same. let is : x ≡ y = same_one y (subst (λ k. slice_get g.clients k ≡ Some y) same i) in
            subst (λ k. AtClient servers (es ++ ys) line k y (now_at h.now c n k)) (sym same) (subst (λ (z : Client). AtClient servers (es ++ ys) line c z (now_at h.now c n c)) is (subst (AtClient servers (es ++ ys) line c x) (sym (now_same h.now c n)) a)))
            (λ m. others d y m (h.clients d y i)) (cases_eq d c);
        connections = connections;
        owed = owed;
        waits = waits_step h.now g.connections g.doing ds w c n onward own_wait h.waits;
        nobody = nobody_else;
        fell = fell;
      }

  -- no client's step
  pub no_step : (ds : List Conn) (w : Doing) (line : List ℕ) → length ds ≡ length g.connections → ((d : ℕ) → sent_by d ys ≡ []) → ((d : ℕ) → outs_for d ys ≡ []) →
      ((d : ℕ) (y : Client) → slice_get g.clients d ≡ Some y → AtClient servers es g.line d y (h.now d) → AtClient servers (es ++ ys) line d y (h.now d)) → Each (AtServer servers (es ++ ys) w) ds → Each (λ k d. Owed h.now k (pending k w d)) ds → Onward Any g.connections g.doing ds w → Fell (es ++ ys) ds w →
      Keeps servers (es ++ ys) (gate g.clients ds w line)
  no_step ds w line long sent outs f connections owed onward fell = record {
    now = h.now;
    few = h.few;
    many = long ∙ h.many;
    clients = λ d y i. f d y i (h.clients d y i);
    connections = connections;
    owed = owed;
    waits = waits_on h.now g.connections g.doing ds w onward h.waits;
    nobody = λ d m. nobody_then d m (outs d);
    fell = fell;
  }
