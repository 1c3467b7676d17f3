-- What each step of the gate does with the client whose step it is.
use Rattle.std.proofs.Common.{◌≡◌, ℕ, true, false, List, [], ◌∷◌, ◌++◌, length, take, drop, inl, inr, sym, refl, ap, ◌∙◌, subst, append_assoc, append-nil, take-append-drop}
use Rattle.std.specs.Prelude.{slice_get}
use Rattle.std.specs.List.{Contains}
use Rattle.text.specs.Bytes.{Text}
use Rattle.message.specs.Faults.{ends_client}
use Rattle.message.specs.declared.fault.Fault.{Fault}
use Rattle.message.specs.declared.fault.Flaw.{Flaw}
use Rattle.request.specs.Canonical.{Req}
use Rattle.request.specs.Found.{more}
use Rattle.request_laws.specs.Faults.{FirstFault}
use Rattle.request_laws.specs.Grammar.{Spelled}
use Rattle.request_laws.specs.Laws.{finding_of}
use Rattle.request_laws.specs.Outcome.{outcome}
use Rattle.rules.specs.Rules.{verdict, parts_in}
use Rattle.connection.specs.Model.{Response}
use Rattle.connection_laws.proofs.Ordered.{contains_first}
use Rattle.proxy.specs.Model.{Servers, reads, waits, ended, Client, Out, sends, answers, fails, refuses, ends, bytes_of, more_of, taken, rules_of}
use Rattle.proxy_laws.specs.Traces.{Entry, went, sent_by, outs_for, asked_of}
use Rattle.proxy_laws.specs.Clients.{Asked, Fate, refused, answered, failed, Now, reading, waiting, over, asking, outs_of, outs_of_all, outs_now, Refused, Read, Left, WentDown}
use Rattle.proxy_laws.proofs.AtClient.{AtClient, outs_then, read_kept, left_kept, in_the_line, held_more}
use Rattle.proxy_laws.proofs.Chains.{read_more, left_more, read_one, outs_push, asking_push, early_push}
use Rattle.proxy_laws.proofs.Projections.{sent_more, asked_more, last_at}

module _ (servers : Servers) (es : List Entry) (line : List ℕ) (c : ℕ) (x : Client) where
  -- bytes come from it
  pub at_bytes : (n : Now) (ys : List Entry) (s : Text) → sent_by c ys ≡ s → outs_for c ys ≡ [] → AtClient servers es line c x n → AtClient servers (es ++ ys) (c ∷ []) c (more_of s x.stage x) n
  at_bytes n ys s own silent h = record {
    done = h.done;
    left = h.left ++ s;
    rest = h.rest ++ s;
    outs = outs_then servers es ys c _ [] h.outs silent ∙ append-nil (outs_of_all c h.done ++ outs_now c n);
    read = subst (λ t. Read servers (es ++ ys) c [] t h.done (h.left ++ s)) (sym (sent_more c es ys ∙ ap (λ t. sent_by c es ++ t) own)) (read_more servers es ys c s h.read);
    unfinished = left_more servers es ys c s h.left h.rest n h.unfinished;
    held = held_more s x n h.rest h.held;
    in_line = in_the_line servers.names (c ∷ []) c n (h.rest ++ s) (contains_first c []);
  }

  -- all of its bytes are read, and they are no whole request and no fault
  pub at_wanting : (ys : List Entry) (after : List ℕ) → sent_by c ys ≡ [] → outs_for c ys ≡ [] → finding_of (outcome servers.names (bytes_of x)) ≡ more → AtClient servers es line c x reading →
      AtClient servers (es ++ ys) after c (record x { hand = bytes_of x; unread = [] }) reading
  at_wanting ys after quiet silent e h = record {
    done = h.done;
    left = h.left;
    rest = h.rest;
    outs = outs_then servers es ys c _ [] h.outs silent ∙ append-nil (outs_of_all c h.done ++ []);
    read = read_kept servers es ys c quiet h.done h.left h.read;
    unfinished = left_kept servers es ys c quiet h.left reading h.rest h.unfinished;
    held = (h.held.0, h.held.1 ∙ sym (append-nil (bytes_of x)));
    in_line = inr (ap (λ t. finding_of (outcome servers.names t)) h.held.1 ∙ e);
  }

  -- it is refused, and its connection ends
  pub at_end : (ys : List Entry) (after : List ℕ) (w : Flaw) → sent_by c ys ≡ [] → outs_for c ys ≡ refuses c w.fault ∷ ends c ∷ [] → FirstFault servers.names (bytes_of x) w → ends_client w.fault ≡ true →
      AtClient servers es line c x reading → AtClient servers (es ++ ys) after c (record { stage = ended; hand = []; unread = [] }) (over w.fault)
  at_end ys after w quiet goes first last h = record {
    done = h.done;
    left = h.left;
    rest = h.rest;
    outs = outs_then servers es ys c _ _ h.outs goes ∙ ap (λ os. os ++ (refuses c w.fault ∷ ends c ∷ [])) (append-nil (outs_of_all c h.done));
    read = read_kept servers es ys c quiet h.done h.left h.read;
    unfinished = (h.unfinished, (w, subst (λ t. FirstFault servers.names t w) (sym (h.unfinished ∙ h.held.1)) first, refl, last));
    held = refl;
    in_line = tt;
  }

  -- a request with this fate is behind it, and it reads on
  module _ (ys : List Entry) (after : List ℕ) (quiet : sent_by c ys ≡ []) where
    done_with : (n : Now) (h : AtClient servers es line c x n) (fate : Fate) (y : Client) (rest : Text) → outs_for c (es ++ ys) ≡ outs_of_all c h.done ++ outs_of c fate → Read servers (es ++ ys) c [] (sent_by c (es ++ ys)) (h.done ++ (fate ∷ [])) rest →
        y.stage ≡ reads → rest ≡ bytes_of y → Contains after c → AtClient servers (es ++ ys) after c y reading
    done_with n h fate y rest outs read stage held m = record {
      done = h.done ++ (fate ∷ []);
      left = rest;
      rest = rest;
      outs = outs ∙ sym (append-nil (outs_of_all c (h.done ++ (fate ∷ []))) ∙ outs_push c h.done fate);
      read = read;
      unfinished = refl;
      held = (stage, held);
      in_line = inl m;
    }

    -- it is refused, and goes on behind its request of n bytes
    pub at_refusal : (n : ℕ) (f : Fault) → outs_for c ys ≡ refuses c f ∷ [] → Refused servers (es ++ ys) c (outs_for c es) (bytes_of x) (take n (bytes_of x)) f → Contains after c → AtClient servers es line c x reading →
        AtClient servers (es ++ ys) after c (taken n reads x) reading
    at_refusal n f goes why m h =
        let all : h.left ≡ bytes_of x = h.unfinished ∙ h.held.1 in
        let fate : Fate = refused (take n (bytes_of x)) f in
        let before : outs_for c es ≡ outs_of_all c h.done = h.outs ∙ append-nil (outs_of_all c h.done) in
        let why' : Refused servers (es ++ ys) c (outs_of_all c h.done) h.left (take n (bytes_of x)) f = subst (λ os. Refused servers (es ++ ys) c os h.left (take n (bytes_of x)) f) before (subst (λ t. Refused servers (es ++ ys) c (outs_for c es) t (take n (bytes_of x)) f) (sym all) why) in
        done_with reading h fate (taken n reads x) (drop n (bytes_of x)) (outs_then servers es ys c _ _ h.outs goes ∙ ap (λ os. os ++ (refuses c f ∷ [])) (append-nil (outs_of_all c h.done)))
        (read_one servers (es ++ ys) c fate (drop n (bytes_of x)) (read_kept servers es ys c quiet h.done h.left h.read) (all ∙ sym (take-append-drop n (bytes_of x))) why') refl refl m

    module _ (a : Asked) (early : List Response) (h : AtClient servers es line c x (waiting a early)) where
      going : Left servers (es ++ ys) c h.left (waiting a early) h.rest
      going = left_kept servers es ys c quiet h.left (waiting a early) h.rest h.unfinished

      outs_ended : (o : Out) → outs_for c ys ≡ o ∷ [] → outs_for c (es ++ ys) ≡ outs_of_all c h.done ++ (asking c a early ++ (o ∷ []))
      outs_ended o goes = outs_then servers es ys c _ _ h.outs goes ∙ append_assoc (outs_of_all c h.done) (asking c a early) (o ∷ [])

      -- the last response to its request comes, or the server's connection went down: it reads again, held as y
      module _ (y : Client) (stage : y.stage ≡ reads) (same : bytes_of x ≡ bytes_of y) where
        pub at_last : (r : Response) → outs_for c ys ≡ answers a.server a.owner r ∷ [] → r.last ≡ true → Contains after c → AtClient servers (es ++ ys) after c y reading
        at_last r goes last m =
            done_with (waiting a early) h (answered a early r) y h.rest (outs_ended (answers a.server a.owner r) goes)
            (read_one servers (es ++ ys) c (answered a early r) h.rest (read_kept servers es ys c quiet h.done h.left h.read) going.2 (going.0, going.1, last)) stage (h.held.1 ∙ same) m

        pub at_fall : ys ≡ went (fails a.server a.owner) ∷ [] → outs_for c ys ≡ fails a.server a.owner ∷ [] → WentDown a.server es → Contains after c → AtClient servers (es ++ ys) after c y reading
        at_fall only goes fell m =
            done_with (waiting a early) h (failed a early) y h.rest (outs_ended (fails a.server a.owner) goes)
            (read_one servers (es ++ ys) c (failed a early) h.rest (read_kept servers es ys c quiet h.done h.left h.read) going.2 (going.0, going.1, (es, [], ap (λ zs. es ++ zs) only, h.outs, fell))) stage (h.held.1 ∙ same) m

      -- an early response comes
      pub at_early : (r : Response) → outs_for c ys ≡ answers a.server a.owner r ∷ [] → r.last ≡ false → AtClient servers (es ++ ys) after c x (waiting a (early ++ (r ∷ [])))
      at_early r goes early_one = record {
        done = h.done;
        left = h.left;
        rest = h.rest;
        outs = outs_ended (answers a.server a.owner r) goes ∙ ap (λ os. outs_of_all c h.done ++ os) (sym (asking_push c a early r));
        read = read_kept servers es ys c quiet h.done h.left h.read;
        unfinished = (going.0, early_push early r going.1 early_one, going.2);
        held = h.held;
        in_line = tt;
      }

    -- its request of n bytes goes out
    pub at_request : (n k : ℕ) (q : Req) (number : ℕ) → outs_for c ys ≡ sends k c q ∷ [] → asked_of k ys ≡ record { client = c; request = q } ∷ [] → number ≡ length (asked_of k es) → Spelled servers.names (take n (bytes_of x)) k q →
        verdict (rules_of servers k) q.method (parts_in q.target) ≡ true → AtClient servers es line c x reading →
        AtClient servers (es ++ ys) after c (taken n waits x) (waiting (record { text = take n (bytes_of x); server = k; request = q; owner = record { client = c; number = number; method = q.method } }) [])
    at_request n k q number goes asks at spelled allowed h = record {
      done = h.done;
      left = h.left;
      rest = drop n (bytes_of x);
      outs = outs_then servers es ys c _ _ h.outs goes ∙ ap (λ os. os ++ (sends k c q ∷ [])) (append-nil (outs_of_all c h.done));
      read = read_kept servers es ys c quiet h.done h.left h.read;
      unfinished = (
        record {
          spelled = spelled;
          allowed = allowed;
          own = (refl, refl);
          numbered = ap (slice_get (asked_of k (es ++ ys))) at ∙ ap (λ xs. slice_get xs (length (asked_of k es))) (asked_more k es ys ∙ ap (λ xs. asked_of k es ++ xs) asks) ∙ last_at (asked_of k es) (record { client = c; request = q });
        },
        tt,
        h.unfinished ∙ h.held.1 ∙ sym (take-append-drop n (bytes_of x)),
      );
      held = (refl, refl);
      in_line = tt;
    }
