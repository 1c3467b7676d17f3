-- A request that goes out keeps what is kept.
use Rattle.std.proofs.Common.{◌≡◌, ℕ, ◌<◌, true, cond, ◌&&◌, List, [], ◌∷◌, ◌++◌, length, take, sym, refl, ap, ◌∙◌, subst, arith, ◌≢◌}
use Rattle.std.specs.Prelude.{Some, slice_get}
use Rattle.std.proofs.lemmas.Option.{slice_get_within}
use Rattle.request.specs.Canonical.{Req}
use Rattle.request_laws.specs.Grammar.{Spelled}
use Rattle.request_laws.proofs.Passes.{spelled_passes}
use Rattle.rules.specs.Rules.{verdict, parts_in}
use Rattle.connection.specs.Model.{Conn, has_room, asked, asks, step, Response}
use Rattle.connection_laws.specs.Promise.{LetPass}
use Rattle.response_laws.specs.Ear.{ear}
use Rattle.proxy.specs.Model.{Servers, client_count, waits, Client, nothing, sends, changed, bytes_of, taken, sent_at, rules_of}
use Rattle.proxy_laws.specs.Clients.{Asked, Now, reading, waiting}
use Rattle.proxy_laws.specs.Traces.{Entry, went, outs_for, asked_of}
use Rattle.proxy_laws.proofs.AtClient.{AtClient}
use Rattle.proxy_laws.proofs.AtServer.{AtServer, Happens, Nothing, happens_one, server_kept, server_asks}
use Rattle.proxy_laws.proofs.Changed.{Each, each_changed, changed_long, changed_here}
use Rattle.proxy_laws.proofs.ClientSteps.{at_request}
use Rattle.proxy_laws.proofs.Keeps.{Keeps, gate, Kept, behind_first, client_step}
use Rattle.proxy_laws.proofs.Owed.{Owed, pending, now_at, owed_reader, owed_push}
use Rattle.proxy_laws.proofs.Projections.{sent_one, outs_one, asked_one, own, other}
use Rattle.proxy_laws.proofs.Waits.{Waiting, Onward, Not, onward_changed}
use Rattle.std.specs.List.{Contains}
use Rattle.std.proofs.lemmas.List.Elements.{Contains-append_left, Contains-append_right}
use Rattle.connection_laws.proofs.Ordered.{contains_first}

module _ (servers : Servers) (es : List Entry) (xs : List Client) (ds : List Conn) (c : ℕ) (cs : List ℕ) (h : Keeps servers es (gate xs ds nothing (c ∷ cs))) where
  -- the client x reads, and its request of n bytes is q, for the server k, whose connection d has room
  module _ (x : Client) (at : slice_get xs c ≡ Some x) (r : h.now c ≡ reading) (n k : ℕ) (q : Req) (spelled : Spelled servers.names (take n (bytes_of x)) k q) (d : Conn) (i : slice_get ds k ≡ Some d) (room : (d.up && has_room d) ≡ true) (allowed : verdict (rules_of servers k) q.method (parts_in q.target) ≡ true) where
    abbrev request : List Entry
    request = went (sends k c q) ∷ []

    abbrev asking : Asked
    asking = record { text = take n (bytes_of x); server = k; request = q; owner = record { client = c; number = length d.sent; method = q.method } }

    abbrev go : Conn → Conn
    go = step ear (asks c q)

    abbrev then : ℕ → Now
    then = now_at h.now c (waiting asking [])

    there : c < client_count
    there = omega (arith, slice_get_within xs c x at, h.few)

    passes : LetPass (rules_of servers k) q
    passes = let p = spelled_passes servers.names (take n (bytes_of x)) k q spelled in (p.0, p.1, allowed)

    asks_it : asked_of k request ≡ record { client = c; request = q } ∷ []
    asks_it = asked_one k (went (sends k c q)) ∙ own k k (record { client = c; request = q } ∷ []) [] refl

    -- what its server, and the others, see of it
    asks_of_it : Happens request k (asks c q ∷ []) [] (record { client = c; request = q } ∷ []) [] [] []
    asks_of_it = let z = happens_one (went (sends k c q)) k in record { order = z.order ∙ own k k (asks c q ∷ []) [] refl; says = z.says; asks = asks_it; gets = z.gets; tells = z.tells; ends = z.ends }

    none_of_others : (j : ℕ) → k ≢ j → Nothing request j
    none_of_others j n = let z = happens_one (went (sends k c q)) j in record { order = z.order ∙ other k j (asks c q ∷ []) [] n; says = z.says; asks = z.asks ∙ other k j (record { client = c; request = q } ∷ []) [] n; gets = z.gets; tells = z.tells; ends = z.ends }

    only_it : (y : Conn) → slice_get ds k ≡ Some y → d ≡ y
    only_it y j = cc

    connections_after : Each (AtServer servers (es ++ request) nothing) (changed go k ds)
    connections_after =
        each_changed (AtServer servers es nothing) (AtServer servers (es ++ request) nothing) go ds k
        (λ y j b. server_asks servers es request nothing nothing k y b c q (subst (λ (z : Conn). (z.up && has_room z) ≡ true) (only_it y j) room) asks_of_it refl (b.calm (λ z. cc)) passes)
        (λ j y ne _ b. server_kept servers es request nothing nothing j y b [] (none_of_others j (λ z. ne (sym z))) refl b.calm)
        h.connections

    goes_out : go d ≡ asked c q d
    goes_out = ap (λ b. cond b (asked c q d) d) room

    waits_last : Owed then k (go d).waiting
    waits_last = subst (λ (z : Conn). Owed then k z.waiting) (sym goes_out) (owed_push h.now c k d.waiting asking r there refl refl (h.owed k d i))

    owed_after : Each (λ j y. Owed then j (pending j nothing y)) (changed go k ds)
    owed_after =
        each_changed (λ j y. Owed h.now j (pending j nothing y)) (λ j y. Owed then j (pending j nothing y)) go ds k
        (λ y j b. subst (λ (z : Conn). Owed then k (go z).waiting) (only_it y j) waits_last)
        (λ j y ne _ b. owed_reader h.now c (waiting asking []) r j y.waiting b) h.owed

    others_wait : Onward (Not c) ds nothing (changed go k ds) nothing
    others_wait =
        onward_changed (Not c) ds nothing nothing go k
        (λ y o j _ m. subst (λ (z : Conn). Contains (go z).waiting o) (only_it y j) (subst (λ (z : Conn). Contains z.waiting o) (sym goes_out) (Contains-append_left d.waiting (asking.owner ∷ []) o (subst (λ (z : Conn). Contains z.waiting o) (sym (only_it y j)) m))))
        (λ j y o n m. m)

    waits_here : (a : Asked) (early : List Response) → waiting asking [] ≡ waiting a early → (a.owner.client ≡ c) × Waiting (changed go k ds) nothing a.server a.owner
    waits_here a early e =
        let same : asking ≡ a = cc in
        subst (λ (b : Asked). (b.owner.client ≡ c) × Waiting (changed go k ds) nothing b.server b.owner) same
        (refl, (go d, changed_here go ds k d i, subst (λ (z : Conn). Contains z.waiting asking.owner) (sym goes_out) (Contains-append_right d.waiting (asking.owner ∷ []) asking.owner (contains_first asking.owner []))))

    pub sent_keeps : Kept servers es (sent_at ear (gate xs ds nothing (c ∷ cs)) c cs k q n)
    sent_keeps =
        let o : Entry = went (sends k c q) in
        let goes : outs_for c request ≡ sends k c q ∷ [] = outs_one c o ∙ own c c (sends k c q ∷ []) [] refl in
        client_step servers es request (gate xs ds nothing (c ∷ cs)) h c x at (waiting asking []) cs
        (record { sent = λ e j. sent_one e o; outs = λ e j. outs_one e o ∙ other c e (sends k c q ∷ []) [] (λ z. j (sym z)) })
        (λ e j. behind_first c e cs j) (changed go k ds) nothing (changed_long go ds k) connections_after owed_after tt others_wait (λ a early e. waits_here a early e) (taken n waits)
        (at_request servers es (c ∷ cs) c x request cs (sent_one c o) n k q (length d.sent) goes asks_it (ap length (h.connections k d i).asked) spelled allowed
        (subst (AtClient servers es (c ∷ cs) c x) r (h.clients c x at)))
