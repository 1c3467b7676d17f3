-- Where a connection rests it is what its events make of it; where what a server says is cut makes no difference; and what was given only grows.
use Rattle.std.proofs.Common.{◌≡◌, ◌≢◌, ℕ, zero, suc, ◌+◌, ◌-◌, ◌<◌, Bool, true, false, cond, ◌&&◌, List, [], ◌∷◌, ◌++◌, map, length, sym, refl, ap, ◌∙◌, subst, append_assoc, append-nil, length-append, arith}
use Rattle.std.specs.List.{concat}
use Rattle.text.specs.Bytes.{Text}
use Rattle.request.specs.Canonical.{Req}
use Rattle.connection.specs.Model.{Ear, Steady, Response, Owner, Conn, Turn, whole, rests, gives, falls, fresh, has_room, asked, put, gave, turn, turn_by, on_turn, on_idle, on_found, drain, drained, Event, asks, says, step, run}
use Rattle.connection.specs.Stands.{turn_now}
use Rattle.connection_laws.specs.Moments.{Rests, Leads, start, asking, hearing, handing, falling}
use Rattle.connection_laws.specs.Laws.{Unwanted, AtRest, CutFree}
use Rattle.connection_laws.proofs.Kept.{Kept, kept}
use Rattle.connection_laws.proofs.Steadily.{shrinks}
use Rattle.connection_laws.proofs.Turns.{Gift, gift_of, fall_of, Quiet, quiet_of, rests_at}

pub run_push : (e : Ear) (vs : List Event) (v : Event) (c : Conn) → run e (vs ++ (v ∷ [])) c ≡ step e v (run e vs c)
unfolding run
run_push e [] v c = refl
run_push e (w ∷ vs) v c = run_push e vs v (step e w c)

pub run_append : (e : Ear) (vs ws : List Event) (c : Conn) → run e (vs ++ ws) c ≡ run e ws (run e vs c)
unfolding run
run_append e [] ws c = refl
run_append e (w ∷ vs) ws c = run_append e vs ws (step e w c)

-- one turn of draining, by what the turn is
module _ (e : Ear) (k : ℕ) (c : Conn) where
  pub drain_turn : (t : Turn) → turn e c ≡ t → drain (suc k) e c ≡ on_turn (λ d. drain k e d) c t
  unfolding drain
  drain_turn t h = ap (on_turn (λ d. drain k e d) c) h

some_idle : (t : Text) → t ≢ [] → on_idle t ≡ falls
some_idle [] n = absurd (n refl)
some_idle (x ∷ t) n = refl

module _ (e : Ear) (c : Conn) (u : c.up ≡ true) where
  pub now_turn : turn_now e c ≡ turn e c
  now_turn = ap (λ (b : Bool). cond b (turn e c) rests) u

  -- what a turn is, by what waits
  falls_by : (ws : List Owner) → c.waiting ≡ ws → Unwanted e ws c.part → turn e c ≡ falls
  falls_by [] w n = ap (turn_by e c) w ∙ some_idle c.part n
  falls_by (o ∷ os) w n = ap (turn_by e c) w ∙ ap (on_found c o os) n

  pub falls_now : Unwanted e c.waiting c.part → turn e c ≡ falls
  falls_now n = falls_by c.waiting refl n

  pub gives_now : (o : Owner) (os : List Owner) (a : Response) (rest : Text) → c.waiting ≡ o ∷ os → e o.method c.part ≡ whole a rest → turn e c ≡ gives (gave o a os rest c)
  gives_now o os a rest w f = ap (turn_by e c) w ∙ ap (on_found c o os) f

module _ (e : Ear) (st : Steady e) where
  smaller : (c d : Conn) → Gift e c d → length d.part < length c.part
  smaller c d g = let less = shrinks e st g.to.method c.part g.response g.rest g.found in subst (λ (x : Conn). length x.part < length c.part) (sym g.is) less

  still_up : (c d : Conn) → Gift e c d → d.up ≡ true
  still_up c d g = ap (λ (x : Conn). x.up) g.is ∙ g.up

  fuel_by : (j k : ℕ) (c : Conn) (t : Turn) → c.up ≡ true → turn e c ≡ t → ((d : Conn) → Gift e c d → drain j e d ≡ drain k e d) → drain (suc j) e c ≡ drain (suc k) e c
  fuel_by j k c rests u h f = drain_turn e j c rests h ∙ sym (drain_turn e k c rests h)
  fuel_by j k c falls u h f = drain_turn e j c falls h ∙ sym (drain_turn e k c falls h)
  fuel_by j k c (gives d) u h f = drain_turn e j c (gives d) h ∙ f d (gift_of e c d (now_turn e c u ∙ h)) ∙ sym (drain_turn e k c (gives d) h)

  -- any number of turns will do that is above the number of bytes
  pub fuel : (j k : ℕ) (c : Conn) → c.up ≡ true → length c.part < j → length c.part < k → drain j e c ≡ drain k e c
  fuel zero k c u l m = absurd (omega arith)
  fuel (suc j) zero c u l m = absurd (omega arith)
  fuel (suc j) (suc k) c u l m =
      fuel_by j k c (turn e c) u refl (λ d g. let less = smaller c d g in fuel j k d (still_up c d g) (omega arith) (omega arith))

  -- the state in which nothing is left to be handed over
  abbrev pub finished : Conn → Conn
  finished c = cond c.up (drained e c) c

  rests_by : (k : ℕ) (c : Conn) (t : Turn) → c.up ≡ true → turn e c ≡ t → ((d : Conn) → Gift e c d → Rests e (drain k e d)) → Rests e (drain (suc k) e c)
  rests_by k c rests u h f = subst (Rests e) (sym (drain_turn e k c rests h)) (now_turn e c u ∙ h)
  rests_by k c falls u h f = subst (Rests e) (sym (drain_turn e k c falls h)) refl
  rests_by k c (gives d) u h f = subst (Rests e) (sym (drain_turn e k c (gives d) h)) (f d (gift_of e c d (now_turn e c u ∙ h)))

  -- after enough turns it rests
  pub rests_drained : (k : ℕ) (c : Conn) → c.up ≡ true → length c.part < k → Rests e (drain k e c)
  rests_drained zero c u l = absurd (omega arith)
  rests_drained (suc k) c u l = rests_by k c (turn e c) u refl (λ d g. let less = smaller c d g in rests_drained k d (still_up c d g) (omega arith))

  -- a client may ask where it rests, and then it rests
  asked_quiet : (p : ℕ) (q : Req) (c : Conn) (ws : List Owner) → c.waiting ≡ ws → Quiet e c → Quiet e (asked p q c)
  asked_quiet p q c [] w h = record {
    none = λ v. h.none w;
    first = λ o os v. ap (e o.method) (h.none w) ∙ st.silent o.method;
  }
  asked_quiet p q c (x ∷ ws) w h = record {
    none = λ v. let both = ap (λ (os : List Owner). os ++ (record { client = p; number = length c.sent; method = q.method } ∷ [])) w in cc;
    first = λ o os v.
        let both : x ∷ (ws ++ (record { client = p; number = length c.sent; method = q.method } ∷ [])) ≡ o ∷ os = ap (λ (os : List Owner). os ++ (record { client = p; number = length c.sent; method = q.method } ∷ [])) (sym w) ∙ v in
        let same : x ≡ o = cc in
        ap (λ (y : Owner). e y.method c.part) (sym same) ∙ h.first x ws w;
  }

  pub rests_asked : (p : ℕ) (q : Req) (c : Conn) → Rests e c → Rests e (asked p q c)
  rests_asked p q c r = rests_at e (asked p q c) (λ u. asked_quiet p q c c.waiting refl (quiet_of e c u r))

  -- every event leads from rest to rest
  rests_cond : (b : Bool) (c d : Conn) → (b ≡ true → Rests e d) → Rests e c → Rests e (cond b d c)
  rests_cond true c d f r = f refl
  rests_cond false c d f r = r

  pub rests_step : (v : Event) (c : Conn) → Rests e c → Rests e (step e v c)
  rests_step (asks p q) c r = rests_cond (c.up && has_room c) c (asked p q c) (λ u. rests_asked p q c r) r
  rests_step (says s) c r = rests_cond c.up c (drained e (put s c)) (λ u. rests_drained (suc (length (put s c).part)) (put s c) u (omega arith)) r

  rests_fresh : Rests e fresh
  rests_fresh = refl

  pub rests_run : (vs : List Event) (c : Conn) → Rests e c → Rests e (run e vs c)
  unfolding run
  rests_run [] c r = r
  rests_run (v ∷ vs) c r = rests_run vs (step e v c) (rests_step v c r)

  -- where it rests, nothing is left to be handed over
  pub drained_rests : (k : ℕ) (c : Conn) → c.up ≡ true → Rests e c → drain k e c ≡ c
  unfolding drain
  drained_rests zero c u r = refl
  drained_rests (suc k) c u r = drain_turn e k c rests (sym (now_turn e c u) ∙ r)

  finished_by : (b : Bool) (c : Conn) → c.up ≡ b → Rests e c → cond b (drained e c) c ≡ c
  finished_by true c u r = drained_rests (suc (length c.part)) c u r
  finished_by false c u r = refl

  pub finished_rests : (c : Conn) → Rests e c → finished c ≡ c
  finished_rests c r = finished_by c.up c refl r

  -- what is left to be handed over at a moment leads to what the events make of the connection
  abbrev Ends : List Event → Conn → Type 0
  Ends vs c = finished c ≡ run e vs fresh

  ends_rests : (vs : List Event) (v : Event) (c d : Conn) → Rests e c → Ends vs c → finished d ≡ step e v c → finished d ≡ run e (vs ++ (v ∷ [])) fresh
  ends_rests vs v c d r h g = g ∙ ap (step e v) (sym (finished_rests c r) ∙ h) ∙ sym (run_push e vs v fresh)

  ends_gift : (c d : Conn) → c.up ≡ true → turn e c ≡ gives d → length d.part < length c.part → d.up ≡ true → finished d ≡ finished c
  ends_gift c d u h less v =
      ap (λ (b : Bool). cond b (drained e d) d) v
      ∙ fuel (suc (length d.part)) (length c.part) d v (omega arith) less
      ∙ sym (drain_turn e (length c.part) c (gives d) h)
      ∙ ap (λ (b : Bool). cond b (drained e c) c) (sym u)

  ends_kept : Kept e Ends
  unfolding run
  ends_kept = record {
    at_start = finished_rests fresh rests_fresh;
    at_ask = λ xs p q c l r n u m h.
        let goes : (c.up && has_room c) ≡ true = rw (u, m) refl in
        ends_rests xs (asks p q) c (asked p q c) r h (finished_rests (asked p q c) (rests_asked p q c r) ∙ ap (λ (b : Bool). cond b (asked p q c) c) (sym goes));
    at_refusal = λ xs p q c l r n u h. ends_rests xs (asks p q) c c r h (finished_rests c r ∙ ap (λ (b : Bool). cond b (asked p q c) c) (sym u));
    at_say = λ xs s c l r n u h. ends_rests xs (says s) c (put s c) r h (ap (λ (b : Bool). cond b (drained e (put s c)) (put s c)) u ∙ ap (λ (b : Bool). cond b (drained e (put s c)) c) (sym u));
    at_deaf = λ xs s c l r n u h. ends_rests xs (says s) c c r h (finished_rests c r ∙ ap (λ (b : Bool). cond b (drained e (put s c)) c) (sym u));
    at_gift = λ xs c o os a rest l u w f h. let less = shrinks e st o.method c.part a rest f in ends_gift c (gave o a os rest c) u (gives_now e c u o os a rest w f) less u ∙ h;
    at_fall = λ xs c l u n h. sym (drain_turn e (length c.part) c falls (falls_now e c u n)) ∙ ap (λ (b : Bool). cond b (drained e c) c) (sym u) ∙ h;
  }

  pub ends : (vs : List Event) (c : Conn) → Leads e vs c → finished c ≡ run e vs fresh
  ends vs c l = kept e Ends ends_kept l

  pub only_run : (vs : List Event) (c : Conn) → Leads e vs c → Rests e c → c ≡ run e vs fresh
  only_run vs c l r = sym (finished_rests c r) ∙ ends vs c l

  -- and it can be led there
  lead_by : (vs : List Event) (k : ℕ) (c : Conn) (t : Turn) → c.up ≡ true → turn e c ≡ t → Leads e vs c → ((d : Conn) → Gift e c d → Leads e vs d → Leads e vs (drain k e d)) → Leads e vs (drain (suc k) e c)
  lead_by vs k c rests u h l f = subst (Leads e vs) (sym (drain_turn e k c rests h)) l
  lead_by vs k c falls u h l f = subst (Leads e vs) (sym (drain_turn e k c falls h)) (falling l (now_turn e c u ∙ h))
  lead_by vs k c (gives d) u h l f = subst (Leads e vs) (sym (drain_turn e k c (gives d) h)) (f d (gift_of e c d (now_turn e c u ∙ h)) (handing d l (now_turn e c u ∙ h)))

  leads_drained : (vs : List Event) (k : ℕ) (c : Conn) → c.up ≡ true → Leads e vs c → Leads e vs (drain k e c)
  unfolding drain
  leads_drained vs zero c u l = l
  leads_drained vs (suc k) c u l = lead_by vs k c (turn e c) u refl l (λ d g m. leads_drained vs k d (still_up c d g) m)

  leads_said : (vs : List Event) (s : Text) (c : Conn) (b : Bool) → c.up ≡ b → Leads e (vs ++ (says s ∷ [])) (cond b (put s c) c) → Leads e (vs ++ (says s ∷ [])) (cond b (drained e (put s c)) c)
  leads_said vs s c true u l = leads_drained (vs ++ (says s ∷ [])) (suc (length (put s c).part)) (put s c) u l
  leads_said vs s c false u l = l

  pub leads_step : (vs : List Event) (v : Event) (c : Conn) → Leads e vs c → Rests e c → Leads e (vs ++ (v ∷ [])) (step e v c)
  leads_step vs (asks p q) c l r = asking p q l r
  leads_step vs (says s) c l r = leads_said vs s c c.up refl (hearing s l r)

  leads_run : (vs ws : List Event) (c : Conn) → Leads e vs c → Rests e c → Leads e (vs ++ ws) (run e ws c)
  unfolding run
  leads_run vs [] c l r = subst (λ (us : List Event). Leads e us c) (sym (append-nil vs)) l
  leads_run vs (w ∷ ws) c l r =
      subst (λ (us : List Event). Leads e us (run e ws (step e w c))) (append_assoc vs (w ∷ []) ws) (leads_run (vs ++ (w ∷ [])) ws (step e w c) (leads_step vs w c l r) (rests_step w c r))

  pub led : (vs : List Event) → Leads e vs (run e vs fresh)
  led vs = leads_run [] vs fresh start rests_fresh

pub at_rest : AtRest
at_rest e st vs = record { reached = led e st vs; at_rest = rests_run e st vs fresh refl; only = only_run e st vs }

-- Cut-free
module _ (e : Ear) (st : Steady e) (t : Text) where
  -- on a connection that fell nothing more happens, and it would have fallen with more bytes too
  unwanted_on : (os : List Owner) (s : Text) → Unwanted e os s → Unwanted e os (s ++ t)
  unwanted_on [] [] n = absurd (n refl)
  unwanted_on [] (x ∷ s) n = λ z. cc
  unwanted_on (o ∷ os) s h = st.stays_unreadable o.method s t h

  abbrev Joins : ℕ → Conn → Type 0
  Joins k c = (j : ℕ) → length (c.part ++ t) < j → step e (says t) (drain k e c) ≡ drain j e (put t c)

  joins_rests : (c : Conn) (k j : ℕ) → c.up ≡ true → drain k e c ≡ c → length (c.part ++ t) < j → step e (says t) (drain k e c) ≡ drain j e (put t c)
  joins_rests c k j u h l = ap (step e (says t)) h ∙ ap (λ (b : Bool). cond b (drained e (put t c)) c) u ∙ fuel e st (suc (length (c.part ++ t))) j (put t c) u (omega arith) l

  joins_falls : (c : Conn) (k j : ℕ) → c.up ≡ true → turn e c ≡ falls → step e (says t) (drain (suc k) e c) ≡ drain (suc j) e (put t c)
  joins_falls c k j u h =
      let f = fall_of e c (now_turn e c u ∙ h) in
      ap (step e (says t)) (drain_turn e k c falls h) ∙ sym (drain_turn e j (put t c) falls (falls_now e (put t c) u (unwanted_on c.waiting c.part f.unwanted)))

  joins_gives : (c d : Conn) (k j : ℕ) → turn e c ≡ gives d → Gift e c d → Joins k d → length (c.part ++ t) < suc j → step e (says t) (drain (suc k) e c) ≡ drain (suc j) e (put t c)
  joins_gives c d k j h g i l =
      let less = shrinks e st g.to.method c.part g.response g.rest g.found in
      let next : Conn = gave g.to g.response g.behind (g.rest ++ t) (put t c) in
      let count : c.used + (length c.part - length g.rest) ≡ c.used + (length (c.part ++ t) - length (g.rest ++ t)) = omega (arith, length-append c.part t, length-append g.rest t) in
      let same : put t d ≡ next = ap (put t) g.is ∙ ap (λ n. record next { used = n }) count in
      let short : length (d.part ++ t) < j = subst (λ (x : Conn). length (x.part ++ t) < j) (sym g.is) (omega (arith, length-append c.part t, length-append g.rest t)) in
      ap (step e (says t)) (drain_turn e k c (gives d) h) ∙ i j short ∙ ap (drain j e) same
      ∙ sym (drain_turn e j (put t c) (gives next) (gives_now e (put t c) g.up g.to g.behind g.response (g.rest ++ t) g.waits (st.stays g.to.method c.part t g.response g.rest g.found)))

  joins_by : (c : Conn) (k j : ℕ) (u : Turn) → c.up ≡ true → turn e c ≡ u → ((d : Conn) → Gift e c d → Joins k d) → length (c.part ++ t) < suc j → step e (says t) (drain (suc k) e c) ≡ drain (suc j) e (put t c)
  joins_by c k j rests u h f l = joins_rests c (suc k) (suc j) u (drain_turn e k c rests h) l
  joins_by c k j falls u h f l = joins_falls c k j u h
  joins_by c k j (gives d) u h f l = let g = gift_of e c d (now_turn e c u ∙ h) in joins_gives c d k j h g (f d g) l

  joins : (k : ℕ) (c : Conn) → c.up ≡ true → length c.part < k → Joins k c
  joins zero c u m j l = absurd (omega arith)
  joins (suc k) c u m zero l = absurd (omega arith)
  joins (suc k) c u m (suc j) l = joins_by c k j (turn e c) u refl (λ d g. let less = smaller e st c d g in joins k d (still_up e st c d g) (omega arith)) l

  pieces_by : (s : Text) (c : Conn) (b : Bool) → c.up ≡ b → step e (says t) (cond b (drained e (put s c)) c) ≡ cond b (drained e (put (s ++ t) c)) c
  pieces_by s c true u =
      joins (suc (length (c.part ++ s))) (put s c) u (omega arith) (suc (length ((c.part ++ s) ++ t))) (omega arith)
      ∙ ap (λ z. drain (suc (length z)) e (record c { part = z })) (append_assoc c.part s t)
  pieces_by s c false u = ap (λ (b : Bool). cond b (drained e (put t c)) c) u

  -- two pieces are as one
  pieces : (s : Text) (c : Conn) → step e (says t) (step e (says s) c) ≡ step e (says (s ++ t)) c
  pieces s c = pieces_by s c c.up refl

module _ (e : Ear) (st : Steady e) where
  no_bytes : (c : Conn) (b : Bool) → c.up ≡ b → Rests e c → cond b (drained e (put [] c)) c ≡ c
  no_bytes c true u r = ap (λ z. drain (suc (length z)) e (record c { part = z })) (append-nil c.part) ∙ drained_rests e st (suc (length c.part)) c u r
  no_bytes c false u r = refl

  said_once : (ss : List Text) (c : Conn) → Rests e c → run e (map (λ s. says s) ss) c ≡ step e (says (concat ss)) c
  unfolding run
  said_once [] c r = sym (no_bytes c c.up refl r)
  said_once (s ∷ ss) c r = said_once ss (step e (says s) c) (rests_step e st (says s) c r) ∙ pieces e st (concat ss) s c

  any_cut : (vs ws : List Event) (ss : List Text) → run e (vs ++ (map (λ s. says s) ss ++ ws)) fresh ≡ run e ws (step e (says (concat ss)) (run e vs fresh))
  any_cut vs ws ss =
      run_append e vs (map (λ s. says s) ss ++ ws) fresh ∙ run_append e (map (λ s. says s) ss) ws (run e vs fresh)
      ∙ ap (run e ws) (said_once ss (run e vs fresh) (rests_run e st vs fresh refl))

pub cut_free : CutFree
cut_free e st vs ws ss ts h = any_cut e st vs ws ss ∙ ap (λ z. run e ws (step e (says z) (run e vs fresh))) h ∙ sym (any_cut e st vs ws ts)
