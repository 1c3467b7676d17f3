-- A response that is handed over, and a refusal to one whose server's connection went down: both go to the client whose request they answer.
use Rattle.std.proofs.Common.{◌≡◌, ◌≢◌, ℕ, Bool, true, false, cond, List, [], ◌∷◌, ◌++◌, sym, refl, ap, ◌∙◌, subst, ⊎_elim, arith}
use Rattle.std.specs.Prelude.{Some, None, Option, slice_get, ◌==◌}
use Rattle.std.specs.List.{Contains, last_or}
use Rattle.std.proofs.lemmas.Bool.{cases_eq}
use Rattle.std.proofs.lemmas.List.Elements.{Contains-append_left, Contains-append_right}
use Rattle.connection.specs.Model.{Conn, Owner, Response, Given, gives}
use Rattle.connection.specs.Stands.{turn_now}
use Rattle.connection_laws.proofs.Ordered.{contains_first, contains_cons}
use Rattle.connection_laws.proofs.Turns.{Gift, gift_of}
use Rattle.response_laws.specs.Ear.{ear}
use Rattle.proxy.specs.Model.{Servers, Client, hears, tells, Gate, answers, fails, downs, changed, freed_if, on_newest, on_telling}
use Rattle.proxy_laws.specs.Clients.{WentDown, reading, waiting, Asked}
use Rattle.proxy_laws.specs.Traces.{Entry, went, outs_for}
use Rattle.proxy_laws.proofs.AtClient.{AtClient}
use Rattle.proxy_laws.proofs.AtServer.{AtServer, Happens, Nothing, happens_one, server_kept, server_gives}
use Rattle.proxy_laws.proofs.Changed.{Each, each_changed, changed_long, stands}
use Rattle.proxy_laws.proofs.ClientSteps.{at_last, at_fall, at_early}
use Rattle.proxy_laws.proofs.Keeps.{Keeps, gate, Kept, Unseen, client_step, client_stays}
use Rattle.proxy_laws.proofs.Owed.{Whose, Owed, pending, now_at, owed_early, owed_done, owed_behind}
use Rattle.proxy_laws.proofs.Projections.{sent_one, outs_one, own, other}
use Rattle.proxy_laws.proofs.Waits.{Waiting, Onward, Any, Not, onward_same, onward_changed}

-- what was given last
last_push : {A : Type 0} (o : Option A) (xs : List A) (x : A) → last_or o (xs ++ (x ∷ [])) ≡ Some x
last_push o [] x = refl
last_push o (y ∷ xs) x = last_push (Some y) xs x

-- an owner that is of another client than the first stands behind it
behind_owner : (o p : Owner) (os : List Owner) → p.client ≢ o.client → Contains (o ∷ os) p → Contains os p
behind_owner o p os n m = contains_cons o os p (λ e. absurd (n (ap (λ (q : Owner). q.client) (sym e)))) (λ i. i) m

module _ (servers : Servers) (es : List Entry) (xs : List Client) (ds : List Conn) (line : List ℕ) (s : ℕ) where
  -- A RESPONSE
  module _ (h : Keeps servers es (gate xs ds (hears s) line)) (c : Conn) (at : slice_get ds s ≡ Some c) (d : Conn) (t : turn_now ear c ≡ gives d) where
    abbrev g : Gate
    g = gate xs ds (hears s) line

    gift : Gift ear c d
    gift = gift_of ear c d t

    abbrev o : Owner
    o = gift.to

    abbrev a : Response
    a = gift.response

    abbrev x : Given
    x = record { to = o; from = c.used; response = a }

    abbrev ys : List Entry
    ys = went (answers s o a) ∷ []

    only_it : (y : Conn) → slice_get ds s ≡ Some y → c ≡ y
    only_it y j = cc

    owed_first : Owed h.now s (o ∷ gift.behind)
    owed_first = subst (Owed h.now s) gift.waits (h.owed s c at)

    whose : Whose h.now s o
    whose = owed_first.whose o (contains_first o gift.behind)

    -- its client
    client : (z : Client) × (slice_get xs o.client ≡ Some z)
    client = stands xs o.client (omega (arith, whose.few, h.few))

    held : AtClient servers es line o.client client.0 (waiting whose.asked whose.early)
    held = subst (AtClient servers es line o.client client.0) whose.is (h.clients o.client client.0 client.1)

    unseen : Unseen o.client ys
    unseen = record { sent = λ e n. sent_one e (went (answers s o a)); outs = λ e n. outs_one e (went (answers s o a)) ∙ other o.client e (answers s o a ∷ []) [] (λ z. n (sym z)) }

    goes : outs_for o.client ys ≡ answers whose.asked.server whose.asked.owner a ∷ []
    goes =
        outs_one o.client (went (answers s o a)) ∙ own o.client o.client (answers s o a ∷ []) [] refl
        ∙ ap (λ k. answers k o a ∷ []) (sym whose.server) ∙ ap (λ p. answers whose.asked.server p a ∷ []) (sym whose.owner)

    gives_it : Happens ys s [] [] [] (record { owner = o; response = a } ∷ []) [] []
    gives_it = let z = happens_one (went (answers s o a)) s in record { order = z.order; says = z.says; asks = z.asks; gets = z.gets ∙ own s s (record { owner = o; response = a } ∷ []) [] refl; tells = z.tells; ends = z.ends }

    gives_no_other : (k : ℕ) → s ≢ k → Nothing ys k
    gives_no_other k n = let z = happens_one (went (answers s o a)) k in record { order = z.order; says = z.says; asks = z.asks; gets = z.gets ∙ other s k (record { owner = o; response = a } ∷ []) [] n; tells = z.tells; ends = z.ends }

    connections_after : Each (AtServer servers (es ++ ys) (hears s)) (changed (λ y. d) s ds)
    connections_after =
        let e : Entry = went (answers s o a) in
        each_changed (AtServer servers es (hears s)) (AtServer servers (es ++ ys) (hears s)) (λ y. d) ds s
        (λ y j b. server_gives servers es ys (hears s) (hears s) s c (subst (AtServer servers es (hears s) s) (sym (only_it y j)) b) d t o a gives_it refl gift refl refl refl)
        (λ k y n _ b. server_kept servers es ys (hears s) (hears s) k y b [] (gives_no_other k (λ z. n (sym z))) refl b.calm)
        h.connections

    waiting_then : (b : Bool) → a.last ≡ b → d.waiting ≡ cond b gift.behind (o ∷ gift.behind)
    waiting_then b e = ap (λ (y : Conn). y.waiting) gift.is ∙ ap (λ l. cond l gift.behind (o ∷ gift.behind)) e

    -- the owner goes on waiting
    early_owed : a.last ≡ false → Each (λ k y. Owed (now_at h.now o.client (waiting whose.asked (whose.early ++ (a ∷ [])))) k (pending k (hears s) y)) (changed (λ y. d) s ds)
    early_owed e =
        let early : List Response = whose.early ++ (a ∷ []) in
        each_changed (λ k y. Owed h.now k (pending k (hears s) y)) (λ k y. Owed (now_at h.now o.client (waiting whose.asked early)) k (pending k (hears s) y)) (λ y. d) ds s
        (λ y j b. subst (Owed (now_at h.now o.client (waiting whose.asked early)) s) (sym (waiting_then false e)) (owed_early h.now s s o whose early (o ∷ gift.behind) owed_first))
        (λ k y n _ b. owed_early h.now s k o whose early y.waiting b) h.owed

    -- or nothing more is owed to it
    last_owed : a.last ≡ true → Each (λ k y. Owed (now_at h.now o.client reading) k (pending k (hears s) y)) (changed (λ y. d) s ds)
    last_owed e =
        each_changed (λ k y. Owed h.now k (pending k (hears s) y)) (λ k y. Owed (now_at h.now o.client reading) k (pending k (hears s) y)) (λ y. d) ds s
        (λ y j b. subst (Owed (now_at h.now o.client reading) s) (sym (waiting_then true e)) (owed_done h.now s s o whose gift.behind (λ _. owed_first.apart.0) (owed_behind h.now s o gift.behind owed_first)))
        (λ k y n _ b. owed_done h.now s k o whose y.waiting (λ same. absurd (n same)) b) h.owed

    -- the others wait on, and one that goes on waiting too
    early_onward : a.last ≡ false → Onward Any ds (hears s) (changed (λ y. d) s ds) (hears s)
    early_onward e =
        onward_changed Any ds (hears s) (hears s) (λ y. d) s
        (λ y p j _ m. subst (λ ps. Contains ps p) (sym (waiting_then false e ∙ sym gift.waits ∙ ap (λ (z : Conn). z.waiting) (only_it y j))) m)
        (λ k y p n m. m)

    last_onward : a.last ≡ true → Onward (Not o.client) ds (hears s) (changed (λ y. d) s ds) (hears s)
    last_onward e =
        onward_changed (Not o.client) ds (hears s) (hears s) (λ y. d) s
        (λ y p j n m. subst (λ ps. Contains ps p) (sym (waiting_then true e)) (behind_owner o p gift.behind n (subst (λ ps. Contains ps p) (ap (λ (z : Conn). z.waiting) (sym (only_it y j)) ∙ gift.waits) m)))
        (λ k y p n m. m)

    still_waits : a.last ≡ false → (b : Asked) (early : List Response) → waiting whose.asked (whose.early ++ (a ∷ [])) ≡ waiting b early → (b.owner.client ≡ o.client) × Waiting (changed (λ y. d) s ds) (hears s) b.server b.owner
    still_waits e b early z =
        let same : whose.asked ≡ b = cc in
        let before = h.waits o.client whose.asked whose.early whose.is in
        subst (λ (p : Asked). (p.owner.client ≡ o.client) × Waiting (changed (λ y. d) s ds) (hears s) p.server p.owner) same (before.0, early_onward e whose.asked.server whose.asked.owner tt before.1)

    handed_by : (b : Bool) → a.last ≡ b → Keeps servers (es ++ ys) (freed_if b o.client (record g { connections = changed (λ y. d) s ds }))
    handed_by true e =
        client_step servers es ys g h o.client client.0 client.1 reading (line ++ (o.client ∷ [])) unseen (λ k n m. Contains-append_left line (o.client ∷ []) k m) (changed (λ y. d) s ds) (hears s) (changed_long (λ y. d) ds s)
        connections_after (last_owed e) tt (last_onward e) (λ b early z. cc) _
        (at_last servers es line o.client client.0 ys (line ++ (o.client ∷ [])) (sent_one o.client (went (answers s o a))) whose.asked whose.early held _ refl refl a goes e (Contains-append_right line (o.client ∷ []) o.client (contains_first o.client [])))
    handed_by false e =
        client_stays servers es ys g h o.client client.0 client.1 (waiting whose.asked (whose.early ++ (a ∷ []))) line unseen (λ k n m. m) (changed (λ y. d) s ds) (hears s) (changed_long (λ y. d) ds s)
        connections_after (early_owed e) tt (λ k p _ w. early_onward e k p tt w) (still_waits e)
        (at_early servers es line o.client client.0 ys line (sent_one o.client (went (answers s o a))) whose.asked whose.early held a goes e)

    pub gives_keeps : Kept servers es (on_newest g s d (last_or None d.given))
    gives_keeps = subst (λ z. Kept servers es (on_newest g s d z)) (sym (ap (λ (y : Conn). last_or None y.given) gift.is ∙ last_push None c.given x)) (handed_by a.last refl)

  -- A REFUSAL, to an owner whose server's connection went down
  module _ (o : Owner) (os : List Owner) (h : Keeps servers es (gate xs ds (tells s (o ∷ os)) line)) where
    abbrev before : Gate
    before = gate xs ds (tells s (o ∷ os)) line

    abbrev refusal : List Entry
    refusal = went (fails s o) ∷ []

    owed_all : Owed h.now s (o ∷ (os ++ h.fell.1.0.waiting))
    owed_all = subst (λ ps. Owed h.now s (ps ++ h.fell.1.0.waiting)) (own s s (o ∷ os) [] refl) (h.owed s h.fell.1.0 h.fell.1.1)

    told : Whose h.now s o
    told = owed_all.whose o (contains_first o (os ++ h.fell.1.0.waiting))

    asker : (z : Client) × (slice_get xs o.client ≡ Some z)
    asker = stands xs o.client (omega (arith, told.few, h.few))

    asker_held : AtClient servers es line o.client asker.0 (waiting told.asked told.early)
    asker_held = subst (AtClient servers es line o.client asker.0) told.is (h.clients o.client asker.0 asker.1)

    refusal_goes : outs_for o.client refusal ≡ fails told.asked.server told.asked.owner ∷ []
    refusal_goes =
        outs_one o.client (went (fails s o)) ∙ own o.client o.client (fails s o ∷ []) [] refl
        ∙ ap (λ k. fails k o ∷ []) (sym told.server) ∙ ap (λ p. fails told.asked.server p ∷ []) (sym told.owner)

    went_down : WentDown told.asked.server es
    went_down = subst (λ k. WentDown k es) (sym told.server) h.fell.0

    only_refusal : refusal ≡ went (fails told.asked.server told.asked.owner) ∷ []
    only_refusal = ap (λ k. went (fails k o) ∷ []) (sym told.server) ∙ ap (λ p. went (fails told.asked.server p) ∷ []) (sym told.owner)

    tells_it : (k : ℕ) → Happens refusal k [] [] [] [] (cond (s == k) (o ∷ []) []) []
    tells_it k = happens_one (went (fails s o)) k

    told_first : (k : ℕ) (b : Bool) → cond b (o ∷ []) [] ++ cond b os [] ≡ cond b (o ∷ os) []
    told_first k true = refl
    told_first k false = refl

    -- the first was told, and all others are still owed what they were
    told_behind : (k : ℕ) (y : Conn) (p : Owner) → p.client ≢ o.client → (b : Bool) → Contains (cond b (o ∷ os) [] ++ y.waiting) p → Contains (cond b os [] ++ y.waiting) p
    told_behind k y p n true m = behind_owner o p (os ++ y.waiting) n m
    told_behind k y p n false m = m

    told_owed : Each (λ k y. Owed (now_at h.now o.client reading) k (pending k (tells s os) y)) ds
    told_owed k y i = ⊎_elim
        (λ same. let is : h.fell.1.0 ≡ y = let here : slice_get ds s ≡ Some y = subst (λ j. slice_get ds j ≡ Some y) same i in let there : slice_get ds s ≡ Some h.fell.1.0 = h.fell.1.1 in cc in
        subst (λ j. Owed (now_at h.now o.client reading) j (pending j (tells s os) y)) (sym same)
        (subst (λ ps. Owed (now_at h.now o.client reading) s (ps ++ y.waiting)) (sym (own s s os [] refl))
        (subst (λ (z : Conn). Owed (now_at h.now o.client reading) s (os ++ z.waiting)) is
        (owed_done h.now s s o told (os ++ h.fell.1.0.waiting) (λ _. owed_all.apart.0) (owed_behind h.now s o (os ++ h.fell.1.0.waiting) owed_all)))))
        (λ n. let m : s ≢ k = λ z. n (sym z) in
        subst (λ ps. Owed (now_at h.now o.client reading) k (ps ++ y.waiting)) (sym (other s k os [] m))
        (owed_done h.now s k o told y.waiting (λ same. absurd (n same)) (subst (λ ps. Owed h.now k (ps ++ y.waiting)) (other s k (o ∷ os) [] m) (h.owed k y i))))
        (cases_eq k s)

    told_onward : Onward (Not o.client) ds (tells s (o ∷ os)) ds (tells s os)
    told_onward = onward_same (Not o.client) ds (tells s (o ∷ os)) (tells s os) (λ k y p i n m. told_behind k y p n (s == k) m)

    pub tells_keeps : Kept servers es (on_telling before s (o ∷ os))
    tells_keeps =
        let e : Entry = went (fails s o) in
        client_step servers es refusal before h o.client asker.0 asker.1 reading (line ++ (o.client ∷ []))
        (record { sent = λ d n. sent_one d e; outs = λ d n. outs_one d e ∙ other o.client d (fails s o ∷ []) [] (λ z. n (sym z)) })
        (λ k n m. Contains-append_left line (o.client ∷ []) k m) ds (tells s os) refl
        (λ k y i. let b = h.connections k y i in server_kept servers es refusal (tells s (o ∷ os)) (tells s os) k y b (cond (s == k) (o ∷ []) []) (tells_it k) (told_first k (s == k)) (λ n. b.calm (λ z. cc)))
        told_owed (Contains-append_left es refusal (went (downs s)) h.fell.0, h.fell.1) told_onward (λ b early z. cc) _
        (at_fall servers es line o.client asker.0 refusal (line ++ (o.client ∷ [])) (sent_one o.client e) told.asked told.early asker_held _ refl refl only_refusal refusal_goes went_down (Contains-append_right line (o.client ∷ []) o.client (contains_first o.client [])))
