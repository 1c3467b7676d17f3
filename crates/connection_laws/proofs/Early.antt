-- Nobody is given a byte that was said before their own request went out.
use Rattle.std.proofs.Common.{◌≡◌, ℕ, ◌+◌, ◌-◌, ◌<◌, ◌≤◌, true, List, [], ◌∷◌, ◌++◌, length, take, drop, sym, refl, ap, ◌∙◌, subst, inl, inr, ⊎_elim, ◌⊎◌, append_assoc, append-nil, length-append, length-take, take-append-drop, arith}
use Rattle.std.specs.List.{Contains, concat}
use Rattle.std.proofs.lemmas.Bool.{cases_lt}
use Rattle.std.proofs.lemmas.List.Elements.{Contains-push_cases, Contains-append_right}
use Rattle.text.specs.Bytes.{Text}
use Rattle.request.specs.Canonical.{Req}
use Rattle.connection.specs.Model.{Ear, Steady, Response, Owner, Given, Conn, more, whole, fresh, asked, down, put, gave, Event, asks, says, run}
use Rattle.connection_laws.specs.Moments.{Rests, Leads, start}
use Rattle.connection_laws.specs.Laws.{said_in, NobodyEarly}
use Rattle.connection_laws.proofs.Grows.{sent_is}
use Rattle.connection_laws.proofs.Kept.{Kept, kept}
use Rattle.connection_laws.proofs.Lost.{lost}
use Rattle.connection_laws.proofs.Ordered.{InTurn, turns, numbers_below, served_owners, left_owners, contains_first}
use Rattle.connection_laws.proofs.Steadily.{more_before, past, shrinks}
use Rattle.connection_laws.proofs.Turns.{Quiet, quiet_of}

-- An owner below A waits first, and of its response some bytes have come: up to N of all that was said, and since then.
pub record Mid (e : Ear) (A N : ℕ) (c : Conn) : Type 0 where
  pub who : Owner
  pub behind : List Owner
  pub before : Text
  pub since : Text
  pub first : c.waiting ≡ who ∷ behind
  pub older : who.number < A
  pub split : c.part ≡ before ++ since
  pub short : e who.method before ≡ more
  pub place : c.used + length before ≡ N

-- Fewer than A requests or just A went out, and N bytes or more have been said; or all of the first N bytes are used up; or they reach into the part in hand
pub data Since (e : Ear) (A N : ℕ) (c : Conn) : Type 0 where
  not_yet : length c.sent ≤ A → N ≤ c.used + length c.part → Since e A N c
  used_up : N ≤ c.used → Since e A N c
  inside : Mid e A N c → Since e A N c

-- responses to owners from A on begin behind the first N bytes
pub record Late (e : Ear) (A N : ℕ) (c : Conn) : Type 0 where
  pub gifts : (g : Given) → Contains c.given g → A ≤ g.to.number → N ≤ g.from
  pub now : c.up ≡ true → Since e A N c

-- who waits first has a number below the number of requests that went out
waits_below : (c : Conn) → InTurn c → (o : Owner) (os : List Owner) → c.up ≡ true → c.waiting ≡ o ∷ os → o.number < length c.sent
waits_below c h o os u w =
    numbers_below c.sent o (left_owners h.serves o (subst (λ ws. Contains (c.told ++ ws) o) (sym w) (Contains-append_right c.told (o ∷ os) o (contains_first o os))))

gift_below : (c : Conn) → InTurn c → (g : Given) → Contains c.given g → g.to.number < length c.sent
gift_below c h g m = numbers_below c.sent g.to (served_owners h.serves g m)

module _ (e : Ear) (st : Steady e) (A N : ℕ) (c : Conn) where
  -- where it rests, the first N bytes are used up or reach into a response that is not whole yet
  opened_first : (o : Owner) (os : List Owner) → c.waiting ≡ o ∷ os → InTurn c → c.up ≡ true → Quiet e c → length c.sent ≤ A → N ≤ c.used + length c.part → c.used < N → Mid e A N c
  opened_first o os w h u quiet few said lt =
      let n : ℕ = N - c.used in
      record {
        who = o;
        behind = os;
        before = take n c.part;
        since = drop n c.part;
        first = w;
        older = omega (arith, waits_below c h o os u w);
        split = sym (take-append-drop n c.part);
        short = more_before e st o.method (take n c.part) (drop n c.part) (ap (e o.method) (take-append-drop n c.part) ∙ quiet.first o os w);
        place = omega (arith, length-take n c.part);
      }

  opened : (ws : List Owner) → c.waiting ≡ ws → InTurn c → c.up ≡ true → Quiet e c → length c.sent ≤ A → N ≤ c.used + length c.part → (N ≤ c.used) ⊎ Mid e A N c
  opened [] w h u quiet few said = inl (omega (arith, ap length (quiet.none w)))
  opened (o ∷ os) w h u quiet few said = elim (cases_lt c.used N) [
    | inl lt ↦ inr (opened_first o os w h u quiet few said lt)
    | inr ge ↦ inl ge
  ]

  since_other : (p : ℕ) (q : Req) → (N ≤ c.used) ⊎ Mid e A N c → Since e A N (asked p q c)
  since_other p q (inl le) = used_up le
  since_other p q (inr m) = inside (record {
    who = m.who;
    behind = m.behind ++ (record { client = p; number = length c.sent; method = q.method } ∷ []);
    before = m.before;
    since = m.since;
    first = ap (λ ws. ws ++ (record { client = p; number = length c.sent; method = q.method } ∷ [])) m.first;
    older = m.older;
    split = m.split;
    short = m.short;
    place = m.place;
  })

  since_ask : (p : ℕ) (q : Req) → InTurn c → c.up ≡ true → Quiet e c → Since e A N c → Since e A N (asked p q c)
  since_ask p q h u quiet (used_up le) = since_other p q (inl le)
  since_ask p q h u quiet (inside m) = since_other p q (inr m)
  since_ask p q h u quiet (not_yet few said) = elim (cases_lt (length c.sent) A) [
    | inl lt ↦ not_yet (omega (arith, length-append c.sent (record { client = p; request = q } ∷ []))) said
    | inr ge ↦ since_other p q (opened c.waiting refl h u quiet few said)
  ]

  since_say : (s : Text) → Since e A N c → Since e A N (put s c)
  since_say s (not_yet few said) = not_yet few (omega (arith, length-append c.part s))
  since_say s (used_up le) = used_up le
  since_say s (inside m) = inside (record {
    who = m.who;
    behind = m.behind;
    before = m.before;
    since = m.since ++ s;
    first = m.first;
    older = m.older;
    split = ap (λ z. z ++ s) m.split ∙ append_assoc m.before m.since s;
    short = m.short;
    place = m.place;
  })

  module _ (o : Owner) (os : List Owner) (a : Response) (rest : Text) (u : c.up ≡ true) (w : c.waiting ≡ o ∷ os) (f : e o.method c.part ≡ whole a rest) where
    -- what the part before N and since has when it becomes whole
    used_now : Mid e A N c → N ≤ c.used + (length c.part - length rest)
    used_now m =
        let both : m.who ∷ m.behind ≡ o ∷ os = sym m.first ∙ w in
        let same : m.who ≡ o = cc in
        let read : e m.who.method (m.before ++ m.since) ≡ whole a rest = ap (λ (x : Owner). e x.method (m.before ++ m.since)) same ∙ ap (e o.method) (sym m.split) ∙ f in
        let l : length rest ≤ length m.since = past e st m.who.method m.before m.since a rest m.short read in
        omega (arith, m.place, ap length m.split, length-append m.before m.since)

    since_gift : Since e A N c → Since e A N (gave o a os rest c)
    since_gift (not_yet few said) = not_yet few (let less = shrinks e st o.method c.part a rest f in omega arith)
    since_gift (used_up le) = used_up (omega arith)
    since_gift (inside m) = used_up (used_now m)

    -- where the response begins, if its owner is one from A on
    from_late : InTurn c → Since e A N c → A ≤ o.number → N ≤ c.used
    from_late h (not_yet few said) k = let b = waits_below c h o os u w in absurd (omega arith)
    from_late h (used_up le) k = le
    from_late h (inside m) k =
        let both : m.who ∷ m.behind ≡ o ∷ os = sym m.first ∙ w in
        let same : m.who ≡ o = cc in
        absurd (omega (arith, m.older, ap (λ (x : Owner). x.number) same))

    late_gift : InTurn c → Late e A N c → Late e A N (gave o a os rest c)
    late_gift h l = record {
      gifts = λ g m k. ⊎_elim (λ n. l.gifts g n k)
          (λ same. omega (arith, from_late h (l.now u) (omega (arith, k, ap (λ (x : Given). x.to.number) same)), ap (λ (x : Given). x.from) same))
          (Contains-push_cases c.given (record { to = o; from = c.used; response = a }) g m);
      now = λ v. since_gift (l.now u);
    }

nil_split : (xs ys : List Event) → [] ≡ xs ++ ys → ys ≡ []
nil_split [] ys h = sym h
nil_split (x ∷ xs) ys h = cc

whole_split : (xs ys vs : List Event) → vs ≡ xs ++ ys → ys ≡ [] → xs ≡ vs
whole_split xs ys vs h z = sym (append-nil xs) ∙ ap (λ zs. xs ++ zs) (sym z) ∙ sym h

-- a front of a list of events with one more behind it is all of it, or a front of the list
snoc_split : (xs ys vs : List Event) (v : Event) → vs ++ (v ∷ []) ≡ xs ++ ys → (ys ≡ []) ⊎ ((zs : List Event) × (vs ≡ xs ++ zs))
snoc_split [] ys vs v h = inr (vs, refl)
snoc_split (x ∷ xs) ys [] v h = let t : [] ≡ xs ++ ys = cc in inl (nil_split xs ys t)
snoc_split (x ∷ xs) ys (w ∷ vs) v h =
    let t : vs ++ (v ∷ []) ≡ xs ++ ys = cc in
    let first : w ≡ x = cc in
    elim (snoc_split xs ys vs v t) [ inl z ↦ inl z | inr k ↦ inr (k.0, ap (λ y. y ∷ vs) first ∙ ap (λ us. x ∷ us) k.1) ]

-- what holds at each front of the events so far
abbrev AtFronts : Ear → List Event → Conn → Type 0
AtFronts e vs c = (xs ys : List Event) → vs ≡ xs ++ ys → Late e (length (run e xs fresh).sent) (length (said_in xs)) c

module _ (e : Ear) (st : Steady e) where
  -- of all that was said so far, nothing goes to those who have not asked yet
  late_start : (vs : List Event) (c : Conn) → Leads e vs c → Late e (length (run e vs fresh).sent) (length (said_in vs)) c
  late_start vs c l =
      let n : length c.sent ≡ length (run e vs fresh).sent = ap length (sent_is e st vs c l) in
      let h = turns e vs c l in
      let k = lost e st vs c l in
      record {
        gifts = λ g m more. let b = gift_below c h g m in absurd (omega arith);
        now = λ u. not_yet (omega arith) (omega (arith, k.counted u, ap length k.lost.said, length-append (concat k.lost.texts) k.lost.left, ap length (k.lost.while_up u)));
      }

  fronts_next : (vs : List Event) (v : Event) (c d : Conn) → Leads e (vs ++ (v ∷ [])) d → AtFronts e vs c → ((A N : ℕ) → Late e A N c → Late e A N d) → AtFronts e (vs ++ (v ∷ [])) d
  fronts_next vs v c d n h f xs ys s = elim (snoc_split xs ys vs v s) [
    | inl z ↦ subst (λ us. Late e (length (run e us fresh).sent) (length (said_in us)) d) (sym (whole_split xs ys (vs ++ (v ∷ [])) s z)) (late_start (vs ++ (v ∷ [])) d n)
    | inr k ↦ f _ _ (h xs k.0 k.1)
  ]

  late_ask : (xs : List Event) (p : ℕ) (q : Req) (c : Conn) → Leads e xs c → Rests e c → c.up ≡ true → (A N : ℕ) → Late e A N c → Late e A N (asked p q c)
  late_ask xs p q c l r u A N h = record { gifts = h.gifts; now = λ v. since_ask e st A N c p q (turns e xs c l) u (quiet_of e c u r) (h.now u) }

  late_say : (s : Text) (c : Conn) (A N : ℕ) → Late e A N c → Late e A N (put s c)
  late_say s c A N h = record { gifts = h.gifts; now = λ u. since_say e st A N c s (h.now u) }

  late_fall : (c : Conn) (A N : ℕ) → Late e A N c → Late e A N (down c)
  late_fall c A N h = record { gifts = h.gifts; now = λ u. cc }

  fronts_kept : Kept e (AtFronts e)
  fronts_kept = record {
    at_start = λ xs ys s. subst (λ us. Late e (length (run e us fresh).sent) (length (said_in us)) fresh) (sym (whole_split xs ys [] s (nil_split xs ys s))) (late_start [] fresh start);
    at_ask = λ xs p q c l r n u m h. fronts_next xs (asks p q) c (asked p q c) n h (late_ask xs p q c l r u);
    at_refusal = λ xs p q c l r n u h. fronts_next xs (asks p q) c c n h (λ A N k. k);
    at_say = λ xs s c l r n u h. fronts_next xs (says s) c (put s c) n h (late_say s c);
    at_deaf = λ xs s c l r n u h. fronts_next xs (says s) c c n h (λ A N k. k);
    at_gift = λ xs c o os a rest l u w f h. λ us ys s. late_gift e st _ _ c o os a rest u w f (turns e xs c l) (h us ys s);
    at_fall = λ xs c l u n h. λ us ys s. late_fall c _ _ (h us ys s);
  }

pub nobody_early : NobodyEarly
nobody_early e st vs c l g m xs ys s k = (kept e (AtFronts e) (fronts_kept e st) l xs ys s).gifts g m k
