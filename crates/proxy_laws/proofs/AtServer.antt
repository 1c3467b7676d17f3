-- What is kept of one server's connection, and what each step of the gate does with it.
use Rattle.std.proofs.Common.{◌≡◌, ◌≢◌, ℕ, Bool, true, false, cond, ◌&&◌, T, List, [], ◌∷◌, ◌++◌, map, sym, refl, ap, ◌∙◌, subst, append_assoc, append-nil, ⊎_elim}
use Rattle.std.specs.List.{Contains}
use Rattle.std.proofs.lemmas.List.{map-append}
use Rattle.std.proofs.lemmas.List.Elements.{Contains-append_left, Contains-push_cases}
use Rattle.text.specs.Bytes.{Text}
use Rattle.reader.specs.Reader.{Reader, Fair}
use Rattle.request.specs.Canonical.{Req}
use Rattle.rules.specs.Rules.{Rule}
use Rattle.rules_laws.specs.Views.{View, FairView, good_rules}
use Rattle.connection.specs.Model.{Conn, Owner, Response, Sent, has_room, asked, asks, says, step, put, down, gives, falls}
use Rattle.connection.specs.Model.{Event as Said}
use Rattle.connection.specs.Stands.{come, turn_now}
use Rattle.connection_laws.specs.Laws.{said_in, requests_of}
use Rattle.connection_laws.specs.Moments.{Leads, Rests, asking, hearing, handing, falling}
use Rattle.connection_laws.specs.Promise.{LetPass, Promise}
use Rattle.connection_laws.proofs.Lost.{said_ask, said_say}
use Rattle.connection_laws.proofs.Main.{main}
use Rattle.connection_laws.proofs.Ordered.{turns}
use Rattle.connection_laws.proofs.Runs.{rests_step}
use Rattle.connection_laws.proofs.Turns.{Gift, fall_of}
use Rattle.response_laws.specs.Ear.{ear}
use Rattle.response_laws.proofs.Steadily.{steady_ear}
use Rattle.proxy.specs.Model.{Servers, Doing, hears, Out, downs, rules_of}
use Rattle.proxy_laws.specs.Servers.{got_of}
use Rattle.proxy_laws.specs.Clients.{WentDown}
use Rattle.proxy_laws.specs.Traces.{Entry, went, Got, event_in, events_at, said_in_one, said_by, asked_in, asked_of, got_in, got_from, told_in, told_by, downs_in, downs_of}
use Rattle.proxy_laws.proofs.Owed.{untold}
use Rattle.proxy_laws.proofs.Projections.{events_more, said_more, asked_more, got_more, told_more, downs_more, events_one, said_one, asked_one, got_one, told_one, downs_one}

-- led: what was asked and said leads to the connection c. fell: it is down only where that was an event. calm: it rests, unless its server is heard.
-- passed: what went out was let pass.
pub record AtServer (servers : Servers) (es : List Entry) (doing : Doing) (k : ℕ) (c : Conn) : Type 0 where
  pub vs : List Said
  pub led : Leads ear vs c
  pub order : vs ≡ events_at k es
  pub said : said_in vs ≡ said_by k es
  pub asked : c.sent ≡ asked_of k es
  pub given : map got_of c.given ≡ got_from k es
  pub told : c.told ≡ told_by k es ++ untold k doing
  pub down : downs_of k es ≡ cond c.up [] (downs k ∷ [])
  pub fell : c.up ≡ false → WentDown k es
  pub calm : doing ≢ hears k → Rests ear c
  pub passed : (q : Req) → Contains (requests_of c) q → LetPass (rules_of servers k) q

-- what of the things that happen is of the server k
pub record Happens (ys : List Entry) (k : ℕ) (events : List Said) (said : Text) (asked : List Sent) (got : List Got) (told : List Owner) (down : List Out) : Type 0 where
  pub order : events_at k ys ≡ events
  pub says : said_by k ys ≡ said
  pub asks : asked_of k ys ≡ asked
  pub gets : got_from k ys ≡ got
  pub tells : told_by k ys ≡ told
  pub ends : downs_of k ys ≡ down

-- nothing is
abbrev pub Nothing : List Entry → ℕ → Type 0
Nothing ys k = Happens ys k [] [] [] [] [] []

-- of one thing
pub happens_one : (x : Entry) (k : ℕ) → Happens (x ∷ []) k (event_in k x) (said_in_one k x) (asked_in k x) (got_in k x) (told_in k x) (downs_in k x)
happens_one x k = record { order = events_one k x; says = said_one k x; asks = asked_one k x; gets = got_one k x; tells = told_one k x; ends = downs_one k x }

module _ (servers : Servers) (es ys : List Entry) (doing now : Doing) (k : ℕ) (c : Conn) (h : AtServer servers es doing k c) where
  order_then : (zs : List Said) → events_at k ys ≡ zs → h.vs ++ zs ≡ events_at k (es ++ ys)
  order_then zs e = ap (λ vs. vs ++ zs) h.order ∙ ap (λ us. events_at k es ++ us) (sym e) ∙ sym (events_more k es ys)

  order_same : events_at k ys ≡ [] → h.vs ≡ events_at k (es ++ ys)
  order_same e = sym (append-nil h.vs) ∙ order_then [] e

  said_then : (s : Text) → said_by k ys ≡ s → said_by k (es ++ ys) ≡ said_in h.vs ++ s
  said_then s e = said_more k es ys ∙ ap (λ t. t ++ said_by k ys) (sym h.said) ∙ ap (λ t. said_in h.vs ++ t) e

  asked_then : (xs : List Sent) → asked_of k ys ≡ xs → asked_of k (es ++ ys) ≡ c.sent ++ xs
  asked_then xs e = asked_more k es ys ∙ ap (λ zs. zs ++ asked_of k ys) (sym h.asked) ∙ ap (λ zs. c.sent ++ zs) e

  got_then : (xs : List Got) → got_from k ys ≡ xs → got_from k (es ++ ys) ≡ map got_of c.given ++ xs
  got_then xs e = got_more k es ys ∙ ap (λ zs. zs ++ got_from k ys) (sym h.given) ∙ ap (λ zs. map got_of c.given ++ zs) e

  -- those who are told are the first of those who are to be told
  told_then : (os : List Owner) → told_by k ys ≡ os → os ++ untold k now ≡ untold k doing → c.told ≡ told_by k (es ++ ys) ++ untold k now
  told_then os e f =
      h.told ∙ ap (λ ps. told_by k es ++ ps) (sym f) ∙ sym (append_assoc (told_by k es) os (untold k now)) ∙ ap (λ ps. (told_by k es ++ ps) ++ untold k now) (sym e) ∙ ap (λ ps. ps ++ untold k now) (sym (told_more k es ys))

  down_then : (os : List Out) → downs_of k ys ≡ os → downs_of k (es ++ ys) ≡ cond c.up [] (downs k ∷ []) ++ os
  down_then os e = downs_more k es ys ∙ ap (λ zs. zs ++ downs_of k ys) h.down ∙ ap (λ zs. cond c.up [] (downs k ∷ []) ++ zs) e

  fell_then : c.up ≡ false → WentDown k (es ++ ys)
  fell_then u = Contains-append_left es ys (went (downs k)) (h.fell u)

  -- nothing happens at it, but that owners are told
  pub server_kept : (os : List Owner) → Happens ys k [] [] [] [] os [] → os ++ untold k now ≡ untold k doing → (now ≢ hears k → Rests ear c) → AtServer servers (es ++ ys) now k c
  server_kept os n t r = record {
    vs = h.vs;
    led = h.led;
    order = order_same n.order;
    said = sym (said_then [] n.says ∙ append-nil (said_in h.vs));
    asked = sym (asked_then [] n.asks ∙ append-nil c.sent);
    given = sym (got_then [] n.gets ∙ append-nil (map got_of c.given));
    told = told_then os n.tells t;
    down = down_then [] n.ends ∙ append-nil _;
    fell = fell_then;
    calm = r;
    passed = h.passed;
  }

  -- what bytes that come do not change
  come_same : {A : Type 0} (f : Conn → A) (s : Text) (b : Bool) → f (put s c) ≡ f c → f (cond b (put s c) c) ≡ f c
  come_same f s true e = e
  come_same f s false e = refl

  -- its server says something
  pub server_hears : (s : Text) → Happens ys k (says s ∷ []) s [] [] [] [] → untold k now ≡ untold k doing → Rests ear c → now ≡ hears k → AtServer servers (es ++ ys) now k (come s c)
  server_hears s x t r n = record {
    vs = h.vs ++ (says s ∷ []);
    led = hearing s h.led r;
    order = order_then (says s ∷ []) x.order;
    said = said_say h.vs s ∙ sym (said_then s x.says);
    asked = come_same (λ (d : Conn). d.sent) s c.up refl ∙ sym (asked_then [] x.asks ∙ append-nil c.sent);
    given = ap (map got_of) (come_same (λ (d : Conn). d.given) s c.up refl) ∙ sym (got_then [] x.gets ∙ append-nil (map got_of c.given));
    told = come_same (λ (d : Conn). d.told) s c.up refl ∙ told_then [] x.tells t;
    down = down_then [] x.ends ∙ append-nil _ ∙ ap (λ b. cond b [] (downs k ∷ [])) (sym (come_same (λ (d : Conn). d.up) s c.up refl));
    fell = λ u. fell_then (sym (come_same (λ (d : Conn). d.up) s c.up refl) ∙ u);
    calm = λ m. absurd (m n);
    passed = subst (λ xs. (q : Req) → Contains (map (λ (x : Sent). x.request) xs) q → LetPass (rules_of servers k) q) (sym (come_same (λ (d : Conn). d.sent) s c.up refl)) h.passed;
  }

  -- a request goes out
  module _ (p : ℕ) (q : Req) (room : (c.up && has_room c) ≡ true) where
    goes : step ear (asks p q) c ≡ asked p q c
    goes = ap (λ (b : Bool). cond b (asked p q c) c) room

    passed_push : (us : List Rule) → ((z : Req) → Contains (requests_of c) z → LetPass us z) → LetPass us q → (z : Req) → Contains (requests_of (asked p q c)) z → LetPass us z
    passed_push us f l z m =
        ⊎_elim (f z) (λ same. subst (LetPass us) same l)
        (Contains-push_cases (requests_of c) q z (subst (λ zs. Contains zs z) (map-append (λ (x : Sent). x.request) c.sent (record { client = p; request = q } ∷ [])) m))

    pub server_asks : Happens ys k (asks p q ∷ []) [] (record { client = p; request = q } ∷ []) [] [] [] → untold k now ≡ untold k doing → Rests ear c → LetPass (rules_of servers k) q → AtServer servers (es ++ ys) now k (step ear (asks p q) c)
    server_asks x t r l = record {
      vs = h.vs ++ (asks p q ∷ []);
      led = asking p q h.led r;
      order = order_then (asks p q ∷ []) x.order;
      said = said_ask h.vs p q ∙ sym (said_then [] x.says ∙ append-nil (said_in h.vs));
      asked = ap (λ (d : Conn). d.sent) goes ∙ sym (asked_then _ x.asks);
      given = ap (λ (d : Conn). map got_of d.given) goes ∙ sym (got_then [] x.gets ∙ append-nil (map got_of c.given));
      told = ap (λ (d : Conn). d.told) goes ∙ told_then [] x.tells t;
      down = down_then [] x.ends ∙ append-nil _ ∙ ap (λ (d : Conn). cond d.up [] (downs k ∷ [])) (sym goes);
      fell = λ u. fell_then (sym (ap (λ (d : Conn). d.up) goes) ∙ u);
      calm = λ m. rests_step ear steady_ear (asks p q) c r;
      passed = subst (λ (d : Conn). (z : Req) → Contains (requests_of d) z → LetPass (rules_of servers k) z) (sym goes) (passed_push (rules_of servers k) h.passed l);
    }

  -- a response is given to the first who waits
  pub server_gives : (d : Conn) (t : turn_now ear c ≡ gives d) (o : Owner) (a : Response) → Happens ys k [] [] [] (record { owner = o; response = a } ∷ []) [] [] → untold k now ≡ untold k doing →
      (gift : Gift ear c d) → gift.to ≡ o → gift.response ≡ a → now ≡ hears k → AtServer servers (es ++ ys) now k d
  server_gives d t o a x u gift to is n = record {
    vs = h.vs;
    led = handing d h.led t;
    order = order_same x.order;
    said = sym (said_then [] x.says ∙ append-nil (said_in h.vs));
    asked = ap (λ (x : Conn). x.sent) gift.is ∙ sym (asked_then [] x.asks ∙ append-nil c.sent);
    given = ap (λ (x : Conn). map got_of x.given) gift.is ∙ map-append got_of c.given _ ∙ ap (λ z. map got_of c.given ++ (z ∷ [])) (rw (to, is) refl) ∙ sym (got_then _ x.gets);
    told = ap (λ (x : Conn). x.told) gift.is ∙ told_then [] x.tells u;
    down = down_then [] x.ends ∙ append-nil _ ∙ ap (λ (x : Conn). cond x.up [] (downs k ∷ [])) (sym gift.is);
    fell = λ v. fell_then (sym (ap (λ (x : Conn). x.up) gift.is) ∙ v);
    calm = λ m. absurd (m n);
    passed = subst (λ (x : Conn). (z : Req) → Contains (requests_of x) z → LetPass (rules_of servers k) z) (sym gift.is) h.passed;
  }

  -- it goes down: nobody was told so before, and now all who wait are to be told
  pub server_falls : turn_now ear c ≡ falls → Happens ys k [] [] [] [] [] (downs k ∷ []) → untold k doing ≡ [] → untold k now ≡ c.waiting → WentDown k (es ++ ys) → AtServer servers (es ++ ys) now k (down c)
  server_falls t x none all f =
      let up = (fall_of ear c t).up in
      let before : told_by k es ≡ [] = sym (h.told ∙ ap (λ os. told_by k es ++ os) none ∙ append-nil (told_by k es)) ∙ (turns ear h.vs c h.led).up up in
      record {
        vs = h.vs;
        led = falling h.led t;
        order = order_same x.order;
        said = sym (said_then [] x.says ∙ append-nil (said_in h.vs));
        asked = sym (asked_then [] x.asks ∙ append-nil c.sent);
        given = sym (got_then [] x.gets ∙ append-nil (map got_of c.given));
        told = sym (ap (λ os. os ++ untold k now) (told_more k es ys ∙ ap (λ os. os ++ told_by k ys) before ∙ x.tells) ∙ all);
        down = down_then (downs k ∷ []) x.ends ∙ ap (λ b. cond b [] (downs k ∷ []) ++ (downs k ∷ [])) up;
        fell = λ u. f;
        calm = λ m. refl;
        passed = h.passed;
      }

  -- and with it the whole promise of a connection holds
  pub server_promised : T (good_rules (rules_of servers k)) → (r : Reader) → Fair r → (v : View) → FairView v → Promise (rules_of servers k) r v ear h.vs c
  server_promised good r fr v fv = main ear steady_ear h.vs c h.led (rules_of servers k) good r fr v fv h.passed
