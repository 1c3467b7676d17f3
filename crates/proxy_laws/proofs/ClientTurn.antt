-- The turn of the first client in the line keeps what is kept.
use Rattle.std.proofs.Common.{◌≡◌, ◌≢◌, ℕ, true, cond, List, [], ◌∷◌, ◌++◌, take, sym, refl, ap, ◌∙◌, subst, ⊎_elim}
use Rattle.std.specs.Prelude.{Some, slice_get, ◌==◌}
use Rattle.std.proofs.lemmas.Bool.{cases_eq}
use Rattle.message.specs.Faults.{ends_client}
use Rattle.message.specs.declared.fault.Fault.{Fault}
use Rattle.message.specs.declared.fault.Flaw.{Flaw}
use Rattle.request.specs.Found.{more}
use Rattle.request_laws.specs.Faults.{FirstFault}
use Rattle.request_laws.specs.Laws.{finding_of}
use Rattle.request_laws.specs.Outcome.{outcome}
use Rattle.connection.specs.Model.{Conn}
use Rattle.connection_laws.proofs.Ordered.{contains_first}
use Rattle.proxy.specs.Model.{Servers, reads, ended, Client, nothing, Gate, Did, refuses, ends, bytes_of, taken, passed_over, wanting, ended_at, refused_at}
use Rattle.proxy_laws.specs.Clients.{Now, reading, over, Refused}
use Rattle.proxy_laws.specs.Traces.{Entry, went, sent_by, outs_for, events_at, said_by, asked_of, got_from, told_by, downs_of}
use Rattle.proxy_laws.proofs.AtClient.{AtClient, at_kept, at_passed}
use Rattle.proxy_laws.proofs.Changed.{Each}
use Rattle.proxy_laws.proofs.ClientSteps.{at_wanting, at_end, at_refusal}
use Rattle.proxy_laws.proofs.Keeps.{Keeps, gate, Kept, Unheard, Unseen, unheard_none, unseen_none, sent_none, outs_none, behind_first, connections_same, client_step, no_step}
use Rattle.proxy_laws.proofs.Owed.{Owed, pending, now_at, owed_reader}
use Rattle.proxy_laws.proofs.Projections.{sent_one, outs_one, outs_two, own, other}
use Rattle.proxy_laws.proofs.AtServer.{happens_one}
use Rattle.proxy_laws.proofs.Waits.{Onward, Any, Not, onward_same}

-- A REFUSAL, seen from each

module _ (c : ℕ) (f : Fault) where
  refusal_unheard : Unheard (went (refuses c f) ∷ [])
  refusal_unheard k = happens_one (went (refuses c f)) k

  refusal_unseen : Unseen c (went (refuses c f) ∷ [])
  refusal_unseen = record { sent = λ d n. sent_one d (went (refuses c f)); outs = λ d n. outs_one d (went (refuses c f)) ∙ other c d (refuses c f ∷ []) [] (λ e. n (sym e)) }

  refusal_own : outs_for c (went (refuses c f) ∷ []) ≡ refuses c f ∷ []
  refusal_own = outs_one c (went (refuses c f)) ∙ own c c (refuses c f ∷ []) [] refl

  end_unheard : Unheard (went (refuses c f) ∷ went (ends c) ∷ [])
  unfolding events_at said_by asked_of got_from told_by downs_of
  end_unheard k = record { order = refl; says = refl; asks = refl; gets = refl; tells = refl; ends = refl }

  end_silent : (d : ℕ) → sent_by d (went (refuses c f) ∷ went (ends c) ∷ []) ≡ []
  unfolding sent_by
  end_silent d = refl

  end_unseen : Unseen c (went (refuses c f) ∷ went (ends c) ∷ [])
  end_unseen = record {
    sent = λ d n. end_silent d;
    outs = λ d n. outs_two d (went (refuses c f)) (went (ends c)) ∙ ap (λ os. os ++ cond (c == d) (ends c ∷ []) []) (other c d (refuses c f ∷ []) [] (λ e. n (sym e))) ∙ other c d (ends c ∷ []) [] (λ e. n (sym e));
  }

  end_own : outs_for c (went (refuses c f) ∷ went (ends c) ∷ []) ≡ refuses c f ∷ ends c ∷ []
  end_own = outs_two c (went (refuses c f)) (went (ends c)) ∙ ap (λ os. os ++ cond (c == c) (ends c ∷ []) []) (own c c (refuses c f ∷ []) [] refl) ∙ ap (λ os. refuses c f ∷ os) (own c c (ends c ∷ []) [] refl)

module _ (servers : Servers) (es : List Entry) (xs : List Client) (ds : List Conn) (c : ℕ) (cs : List ℕ) (h : Keeps servers es (gate xs ds nothing (c ∷ cs))) where
  abbrev now_g : Gate
  now_g = gate xs ds nothing (c ∷ cs)

  abbrev Good : Did → Type 0
  Good d = Kept servers es d

  -- nothing happens
  pub over_keeps : ((y : Client) → slice_get xs c ≡ Some y → y.stage ≢ reads) → Good (passed_over now_g cs)
  over_keeps idle =
      no_step servers es [] now_g h ds nothing cs refl sent_none outs_none
      (λ d y i a. ⊎_elim (λ e. at_passed servers es [] d (sent_none d) (c ∷ cs) cs y (h.now d) (outs_none d) a (idle y (subst (λ k. slice_get xs k ≡ Some y) e i)))
      (λ n. at_kept servers es [] d (sent_none d) (c ∷ cs) cs y (h.now d) (outs_none d) a (behind_first c d cs n)) (cases_eq d c))
      (connections_same servers es [] now_g h nothing unheard_none (λ k n. n) (λ k. refl)) h.owed (onward_same Any ds nothing nothing (λ k d o i n m. m)) tt

  -- it reads
  module _ (x : Client) (at : slice_get xs c ≡ Some x) (r : h.now c ≡ reading) where
    mine : AtClient servers es (c ∷ cs) c x reading
    mine = subst (AtClient servers es (c ∷ cs) c x) r (h.clients c x at)

    owed_same : (n : Now) → Each (λ k d. Owed (now_at h.now c n) k (pending k nothing d)) ds
    owed_same n k d i = owed_reader h.now c n r k d.waiting (h.owed k d i)

    others_wait : Onward (Not c) ds nothing ds nothing
    others_wait = onward_same (Not c) ds nothing nothing (λ k d o i n m. m)

    -- all of its bytes are read, and more are wanted
    pub wanting_keeps : finding_of (outcome servers.names (bytes_of x)) ≡ more → Good (wanting now_g c cs)
    wanting_keeps e =
        client_step servers es [] now_g h c x at reading cs (unseen_none c) (λ d n. behind_first c d cs n) ds nothing refl
        (connections_same servers es [] now_g h nothing unheard_none (λ k n. n) (λ k. refl)) (owed_same reading) tt others_wait (λ a early e. cc) (λ y. record y { hand = bytes_of y; unread = [] })
        (at_wanting servers es (c ∷ cs) c x [] cs (sent_none c) (outs_none c) e mine)

    pub ended_keeps : (w : Flaw) → FirstFault servers.names (bytes_of x) w → ends_client w.fault ≡ true → Good (ended_at now_g c cs w.fault)
    ended_keeps w first last =
        let ys : List Entry = went (refuses c w.fault) ∷ went (ends c) ∷ [] in
        client_step servers es ys now_g h c x at (over w.fault) cs (end_unseen c w.fault) (λ d n. behind_first c d cs n) ds nothing refl
        (connections_same servers es ys now_g h nothing (end_unheard c w.fault) (λ k n. n) (λ k. refl)) (owed_same (over w.fault)) tt others_wait (λ a early e. cc) (λ y. record { stage = ended; hand = []; unread = [] })
        (at_end servers es (c ∷ cs) c x ys cs w (end_silent c w.fault c) (end_own c w.fault) first last mine)

    pub refused_keeps : (n : ℕ) (f : Fault) → Refused servers (es ++ (went (refuses c f) ∷ [])) c (outs_for c es) (bytes_of x) (take n (bytes_of x)) f → Good (refused_at now_g c f n)
    refused_keeps n f why =
        let ys : List Entry = went (refuses c f) ∷ [] in
        client_step servers es ys now_g h c x at reading (c ∷ cs) (refusal_unseen c f) (λ d m i. i) ds nothing refl
        (connections_same servers es ys now_g h nothing (refusal_unheard c f) (λ k m. m) (λ k. refl)) (owed_same reading) tt others_wait (λ a early e. cc) (taken n reads)
        (at_refusal servers es (c ∷ cs) c x ys (c ∷ cs) (sent_one c (went (refuses c f))) n f (refusal_own c f) why (contains_first c cs) mine)
