-- A request that is let pass goes out, or is refused: one turn of the model.
use Rattle.std.proofs.Common.{◌≡◌, ℕ, ◌≤◌, Bool, true, false, cond, ◌&&◌, T, List, length, drop, Some, None, Ok, Err, Option, Result, sym, refl, ap, ◌∙◌, subst, slice_get, nat_lt, arith}
use Rattle.std.proofs.lemmas.Bool.{and_parts, ltb-true}
use Rattle.std.proofs.lemmas.List.{length-append, length-map}
use Rattle.text.specs.Bytes.{Text}
use Rattle.message.specs.declared.fault.Fault.{Fault}
use Rattle.message.specs.declared.fault.Fault.TheVariants.{Denied, Down}
use Rattle.message.specs.declared.fault.Unfit.{Unfit}
use Rattle.request.specs.Canonical.{Req, canonical}
use Rattle.request.specs.Found.{passed}
use Rattle.request.specs.Reading.{memory_size}
use Rattle.request_laws.specs.Outcome.{whole, outcome}
use Rattle.request_laws.proofs.Passes.{spelled_passes}
use Rattle.request_laws.proofs.Requests.{read_iff_spelled}
use Rattle.response_laws.specs.Ear.{ear}
use Rattle.rules.specs.Rules.{verdict, parts_in}
use Rattle.connection.specs.Model.{Conn, asked, asks, step, has_room, owner_limit, sent_limit}
use Rattle.connection.specs.Owners.{owner_of}
use Rattle.connection.specs.Stands.{AskedSo, admission, admission_of, Stands as ConnStands}
use Rattle.connection.specs.declared.state.Idle.{Idle}
use Rattle.connection.specs.declared.state.Unsent.{Unsent}
use Rattle.connection.specs.declared.state.Unsent.TheVariants.{Refused as Unsaid, Full, Method}
use Rattle.ear.specs.Ways.{ear_way}
use Rattle.ear.specs.declared.Ear.{Ear}
use Rattle.proxy.specs.Model.{Client, Gate, waits, taken, changed, rules_of, bytes_of, turn, refused, sent_at, on_connection, on_admission}
use Rattle.proxy.specs.Slots.{server_slot}
use Rattle.proxy.specs.Stands.{servers_of, ConnPlace, Holds}
use Rattle.proxy.specs.Steps.{OnPass, OnRules, AsksPlace, PassSo, in_place, left_by, put_at, refused_by, taken_by, told_of}
use Rattle.proxy.specs.Calls.{Turned}
use Rattle.proxy.specs.declared.state.Proxy.{Proxy}
use Rattle.proxy.specs.declared.state.Client.TheVariants.{Waits}
use Rattle.proxy.specs.declared.client.Did.{Did}
use Rattle.proxy.specs.declared.client.Did.TheVariants.{Refused, Sent}
use Rattle.proxy.proofs.Holding.{conn_some, conn_same}
use Rattle.proxy.proofs.Places.{same_or, set_here, set_there, set_same, changed_here, changed_there}
use Rattle.proxy.proofs.Going.{Goes, turn_is, left_stands, unread_is, refused_turns}
use Rattle.proxy.proofs.Sizes.{short_method, fits_slot}

pub did_is : (a b : Did) → ◌≡◌ {A = Result Did Unfit} (Ok a) (Ok b) → a ≡ b
did_is a b e = cc

idle_is : (i j : Idle Ear) → j.0 ≡ i.0 → j ≡ i
idle_is i j e = ap (λ z. record { 0 = z }) e

-- what a connection of the model admits is what the state that stands for it does
admits_so : (i : Idle Ear) (slot : Text) (d : Conn) → ConnStands ear_way i.0 slot d → admission d.up (length d.waiting) (length d.sent) ≡ admission_of i.0
admits_so i slot d st =
    ap (λ u. admission u (length d.waiting) (length d.sent)) (sym st.is_up)
    ∙ ap (λ n. admission i.0.up n (length d.sent)) (ap length (sym st.waits) ∙ length-map i.0.owners owner_of)
    ∙ ap (λ n. admission i.0.up (length i.0.owners) n) (sym st.counts)

-- no more wait at a connection that is asked than may
asked_few : (c : ℕ) (q : Req) (d : Conn) (b : Bool) → (d.up && has_room d) ≡ b → length d.waiting ≤ owner_limit → length (step ear (asks c q) d).waiting ≤ owner_limit
asked_few c q d true e few =
    let room = (and_parts d.up (has_room d) e).1 in
    let less = ltb-true (length d.waiting) owner_limit (and_parts (nat_lt (length d.waiting) owner_limit) (nat_lt (length d.sent) sent_limit) room).0 in
    subst (λ (u : Bool). length (cond u (asked c q d) d).waiting ≤ owner_limit) (sym e) (simp length-append (omega (arith, less)))
asked_few c q d false e few = subst (λ (u : Bool). length (cond u (asked c q d) d).waiting ≤ owner_limit) (sym e) few

-- the connection of the server s is another one, in the state and in the model
conn_held : (old : Proxy) (memory : Text) (g : Gate) (s : ℕ) (i j : Idle Ear) (d : Conn) (f : Conn → Conn) → Holds (servers_of old) old memory g None → slice_get old.connections.places s ≡ Some (Some i) → slice_get g.connections s ≡ Some d →
    ConnPlace (server_slot s memory) (Some (Some j)) (Some (f d)) →
    Holds (servers_of old) (record old { connections = record { places = put_at s j old.connections.places } }) memory (record g { connections = changed f s g.connections }) None
conn_held old memory g s i j d f h ep eg k =
    let here = conn_some (server_slot s memory) (slice_get (put_at s j old.connections.places) s) (slice_get (changed f s g.connections) s) j (f d) (set_here old.connections.places s (Some i) (Some j) ep) (changed_here f g.connections s d eg) k in
    record {
      settings = refl;
      size = h.size;
      line = h.line;
      clients = h.clients;
      connections = λ t away. same_or t s
          (λ e. subst (λ m. ConnPlace (server_slot m memory) (slice_get (put_at s j old.connections.places) m) (slice_get (changed f s g.connections) m)) (sym e) here)
          (λ e. conn_same (server_slot t memory) (server_slot t memory) (slice_get old.connections.places t) (slice_get (put_at s j old.connections.places) t) (slice_get g.connections t) (slice_get (changed f s g.connections) t) refl
          (set_there old.connections.places s t (Some j) e) (changed_there f g.connections s t e) (h.connections t away));
    }

module _ (old : Proxy) (memory then out after : Text) (g : Gate) (c : ℕ) (x : Client) (cs : List ℕ) (go : Goes old memory then g c x cs) (s : ℕ) (q : Req) (n k : ℕ)
    (found : outcome (servers_of old).names (bytes_of x) ≡ whole (passed s q) n) (room : memory_size ≤ length out) (rest : drop n (bytes_of x) ≡ drop k x.unread) (new mid : Proxy) (did : Did) where
  abbrev Goal : Type 0
  Goal = Turned (servers_of old) g new then x.unread out after c did (taken_by did (length x.unread) k)

  good : T (canonical q)
  good = let p = (read_iff_spelled (servers_of old).names (bytes_of x) s q n).0 found in (spelled_passes (servers_of old).names p.0 s q p.4).0

  -- the turn of the model, by the verdict of the rules
  turn_by : (b : Bool) → verdict (rules_of (servers_of old) s) q.method (parts_in q.target) ≡ b → turn (servers_of old) ear g ≡ Some (cond b (on_connection ear g c cs s q n (slice_get g.connections s)) (refused g c cs Denied n))
  turn_by b e =
      turn_is old memory then out after g c x cs go (whole (passed s q) n) found ∙
      ap (λ (u : Bool). Some (cond u (on_connection ear g c cs s q n (slice_get g.connections s)) (refused g c cs Denied n))) e

  -- it is refused, and nothing is changed but at the client
  refused_so : (f : Fault) (a : Result ℕ Fault) → a ≡ Err f → mid ≡ old → after ≡ out → turn (servers_of old) ear g ≡ Some (refused g c cs f n) → OnPass c s mid new (Ok did) a → Goal
  refused_so f a e m same t h =
      let p = subst (λ r. OnPass c s mid new (Ok did) r) e h in
      subst (λ d. Turned (servers_of old) g new then x.unread out after c d (taken_by d (length x.unread) k)) (sym (did_is did (Refused f) p.0))
      (refused_turns old memory then out after g c x cs go new f n k t (p.1 ∙ ap (refused_by c f) m) same (λ b. rest))

  -- it goes out
  sent_so : (i j : Idle Ear) (d : Conn) (len : ℕ) (a : Result ℕ Fault) → slice_get old.connections.places s ≡ Some (Some i) → slice_get g.connections s ≡ Some d → ConnPlace (server_slot s memory) (Some (Some i)) (Some d) →
      AskedSo ear_way c q out after i.0 j.0 (Ok len) → mid ≡ record old { connections = record { places = put_at s j old.connections.places } } → a ≡ Ok len →
      turn (servers_of old) ear g ≡ Some (on_admission ear g c cs s q n (admission d.up (length d.waiting) (length d.sent))) → OnPass c s mid new (Ok did) a → Goal
  sent_so i j d len a ep eg place asked m e t h =
      let p = subst (λ r. OnPass c s mid new (Ok did) r) e h in
      let st = place.0 in
      let g1 : Gate = record g { connections = changed (step ear (asks c q)) s g.connections } in
      let mid1 : Proxy = record old { connections = record { places = put_at s j old.connections.places } } in
      let admitted : admission d.up (length d.waiting) (length d.sent) ≡ Ok tt = admits_so i (server_slot s memory) d st ∙ asked.0 in
      let held : Holds (servers_of old) mid1 memory g1 None = conn_held old memory g s i j d (step ear (asks c q)) go.stands.holds ep eg (asked.3 (server_slot s memory) d st, asked_few c q d (d.up && has_room d) refl place.1) in
      let go1 : Goes mid1 memory then g1 c x cs = record { held = go.held; stands = record { holds = held; quiet = go.stands.quiet }; line = go.line; is = go.is; place = go.place; few = go.few; wrote = go.wrote; stage = go.stage } in
      subst (λ y. Turned (servers_of old) g new then x.unread out after c y (taken_by y (length x.unread) k)) (sym (did_is did (Sent s len) p.0)) (
        sent_at ear g c cs s q n,
        t ∙ ap (λ r. Some (on_admission ear g c cs s q n r)) admitted,
        (q, refl, asked.2),
        left_stands mid1 memory then out after g1 c x cs go1 new Waits (taken n waits) (p.1 ∙ ap (left_by c Waits) m) (refl, refl),
        unread_is mid1 memory then out after g1 c x cs go1 (taken n waits) cs (drop k x.unread) rest,
      )

  -- by what the connection said
  by_answer : (u : Result ℕ Unsent) (i j : Idle Ear) (d : Conn) (a : Result ℕ Fault) → slice_get old.connections.places s ≡ Some (Some i) → slice_get g.connections s ≡ Some d → ConnPlace (server_slot s memory) (Some (Some i)) (Some d) →
      AskedSo ear_way c q out after i.0 j.0 u → mid ≡ record old { connections = record { places = put_at s j old.connections.places } } → a ≡ told_of u →
      turn (servers_of old) ear g ≡ Some (on_admission ear g c cs s q n (admission d.up (length d.waiting) (length d.sent))) → OnPass c s mid new (Ok did) a → Goal
  by_answer (Ok len) i j d a ep eg place asked m e t h = sent_so i j d len a ep eg place asked m e t h
  by_answer (Err (Unsaid f)) i j d a ep eg place asked m e t h =
      let refusal : admission d.up (length d.waiting) (length d.sent) ≡ Err f = admits_so i (server_slot s memory) d place.0 ∙ asked.0 in
      let same : put_at s j old.connections.places ≡ old.connections.places = ap (λ y. put_at s y old.connections.places) (idle_is i j asked.2) ∙ set_same old.connections.places s (Some i) ep in
      refused_so f a e (m ∙ ap (λ ps. record old { connections = record { places = ps } }) same) asked.1 (t ∙ ap (λ r. Some (on_admission ear g c cs s q n r)) refusal) h
  by_answer (Err (Full w)) i j d a ep eg place asked m e t h = let w = asked.2 in let fits = fits_slot q good in absurd (omega (arith, room, fits, w.1))
  by_answer (Err Method) i j d a ep eg place asked m e t h = let short = short_method q good in absurd (omega (arith, short, asked.1))

  -- by the places of the connection
  by_place : (pl : Option (Option (Idle Ear))) (co : Option Conn) (a : Result ℕ Fault) → slice_get old.connections.places s ≡ pl → slice_get g.connections s ≡ co → ConnPlace (server_slot s memory) pl co →
      AsksPlace c s q out after old.connections.places mid.connections.places a (in_place pl) → mid ≡ record old { connections = mid.connections } →
      turn (servers_of old) ear g ≡ Some (on_connection ear g c cs s q n co) → OnPass c s mid new (Ok did) a → Goal
  by_place (Some (Some i)) (Some d) a ep eg place (j, u, ask, puts, told) m t h =
      by_answer u i j d a ep eg place ask (m ∙ ap (λ ps. record old { connections = record { places = ps } }) puts) told t h
  by_place (Some (Some i)) None a ep eg place said m t h = elim place [ ]
  by_place (Some None) (Some d) a ep eg place said m t h = elim place [ ]
  by_place (Some None) None a ep eg place said m t h = refused_so Down a said.0 (m ∙ ap (λ ps. record old { connections = record { places = ps } }) said.1) said.2 t h
  by_place None (Some d) a ep eg place said m t h = elim place [ ]
  by_place None None a ep eg place said m t h = refused_so Down a said.0 (m ∙ ap (λ ps. record old { connections = record { places = ps } }) said.1) said.2 t h

  -- by the verdict of the rules
  by_rules : (b : Bool) (a : Result ℕ Fault) → verdict (rules_of (servers_of old) s) q.method (parts_in q.target) ≡ b → OnRules c s q out after old mid a b → OnPass c s mid new (Ok did) a → Goal
  by_rules true a e (said, m) h =
      by_place (slice_get old.connections.places s) (slice_get g.connections s) a refl refl (go.stands.holds.connections s (λ z. cc)) said m (turn_by true e) h
  by_rules false a e (r, m, same) h = refused_so Denied a r m same (turn_by false e) h

  pub pass_turns : (a : Result ℕ Fault) → PassSo c s q out after old mid a → OnPass c s mid new (Ok did) a → Goal
  pass_turns a p h = by_rules (verdict (rules_of (servers_of old) s) q.method (parts_in q.target)) a refl p h
