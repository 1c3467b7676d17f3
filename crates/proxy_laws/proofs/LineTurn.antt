-- The turn of the first client in the line, by what is found in its bytes.
use Rattle.std.proofs.Common.{◌≡◌, ℕ, Bool, true, false, cond, List, ◌∷◌, length, take, sym, refl, ap, ◌∙◌, subst, arith, ◌++◌, []}
use Rattle.std.specs.Prelude.{Some, None, Ok, Err, Option, slice_get}
use Rattle.std.proofs.lemmas.List.{length-take-le, take_at}
use Rattle.text.specs.Bytes.{Text}
use Rattle.message.specs.Faults.{ends_client}
use Rattle.message.specs.declared.fault.Fault.{Fault}
use Rattle.message.specs.declared.fault.Fault.TheVariants.{Denied, Busy, Down}
use Rattle.message.specs.declared.fault.Flaw.{Flaw}
use Rattle.request.specs.Canonical.{Req}
use Rattle.request.specs.Found.{Finding, passed, more, fault}
use Rattle.request_laws.specs.Faults.{FirstFault}
use Rattle.request_laws.specs.Grammar.{Spelled}
use Rattle.request_laws.specs.Laws.{finding_of}
use Rattle.request_laws.specs.Outcome.{Outcome, wants, broken, whole, outcome}
use Rattle.request_laws.proofs.FirstFaults.{fault_is_first}
use Rattle.request_laws.proofs.OnePiece.{whole_within}
use Rattle.request_laws.proofs.Passes.{spelled_passes}
use Rattle.request_laws.proofs.Requests.{read_iff_spelled}
use Rattle.rules.specs.Rules.{verdict, parts_in}
use Rattle.connection.specs.Model.{Conn, has_room}
use Rattle.response_laws.specs.Ear.{ear}
use Rattle.proxy.specs.Model.{Servers, Stage, reads, waits, ended, Client, nothing, Gate, Did, bytes_of, wanting, ended_at, refused_at, refused, on_admission, on_connection, rules_of, on_finding, on_outcome, on_stage, on_client, refuses}
use Rattle.proxy_laws.specs.Clients.{reading, Refused, faulty, denied, crowded, down}
use Rattle.proxy_laws.specs.Traces.{Entry, went, outs_for}
use Rattle.proxy_laws.proofs.AtClient.{reads_now}
use Rattle.proxy_laws.proofs.Broken.{broken_ends}
use Rattle.proxy_laws.proofs.Changed.{stands}
use Rattle.proxy_laws.proofs.Keeps.{Keeps, gate, Kept}
use Rattle.proxy_laws.proofs.ClientTurn.{over_keeps, wanting_keeps, ended_keeps, refused_keeps}
use Rattle.proxy_laws.proofs.RequestOut.{sent_keeps}
use Rattle.proxy_laws.proofs.Crowding.{crowded_at}

module _ (servers : Servers) (es : List Entry) (xs : List Client) (ds : List Conn) (c : ℕ) (cs : List ℕ) (h : Keeps servers es (gate xs ds nothing (c ∷ cs))) where
  abbrev g : Gate
  g = gate xs ds nothing (c ∷ cs)

  abbrev Good : Did → Type 0
  Good d = Kept servers es d

  module _ (x : Client) (at : slice_get xs c ≡ Some x) (r : h.now c ≡ reading) where
    abbrev s : Text
    s = bytes_of x

    abbrev Refusal : ℕ → Fault → Type 0
    Refusal n f = Refused servers (es ++ (went (refuses c f) ∷ [])) c (outs_for c es) s (take n s) f

    refuse : (n : ℕ) (f : Fault) → Refusal n f → Good (refused_at g c f n)
    refuse n f why = refused_keeps servers es xs ds c cs h x at r n f why

    want : finding_of (outcome servers.names s) ≡ more → Good (wanting g c cs)
    want e = wanting_keeps servers es xs ds c cs h x at r e

    -- a fault: its connection ends, or it goes on
    fault_keeps : (w : Flaw) (n : ℕ) (b : Bool) → ends_client w.fault ≡ b → FirstFault servers.names s w → (b ≡ false → outcome servers.names s ≡ whole (fault w) n) → Good (cond b (ended_at g c cs w.fault) (refused_at g c w.fault n))
    fault_keeps w n true e first o = ended_keeps servers es xs ds c cs h x at r w first e
    fault_keeps w n false e first o =
        let long : length (take n s) ≡ n = length-take-le n s (whole_within servers.names s (fault w) n (o refl)) in
        refuse n w.fault (faulty w (o refl ∙ ap (whole (fault w)) (sym long)) first e)

    module _ (k : ℕ) (q : Req) (n : ℕ) (spelled : Spelled servers.names (take n s) k q) where
      abbrev Says : Bool → Type 0
      Says b = verdict (rules_of servers k) q.method (parts_in q.target) ≡ b

      module _ (allowed : Says true) (d : Conn) (i : slice_get ds k ≡ Some d) where
        -- the connection has room, or it is said why not
        admission_keeps : (u m : Bool) → d.up ≡ u → has_room d ≡ m → Good (on_admission ear g c cs k q n (cond u (cond m (Ok tt) (Err Busy)) (Err Down)))
        admission_keeps true true u m = sent_keeps servers es xs ds c cs h x at r n k q spelled d i (rw (u, m) refl) allowed
        admission_keeps true false u m = refuse n Busy (crowded k q spelled allowed (es, [], refl, refl, crowded_at servers es nothing k d (h.connections k d i) u m))
        admission_keeps false m u e = refuse n Down (down k q spelled allowed (es, [], refl, refl, (h.connections k d i).fell u))

      connection_keeps : Says true → Good (on_connection ear g c cs k q n (slice_get ds k))
      connection_keeps allowed =
          let d = stands ds k (omega (arith, (spelled_passes servers.names (take n s) k q spelled).2, h.many)) in
          subst (λ o. Good (on_connection ear g c cs k q n o)) (sym d.1) (admission_keeps allowed d.0 d.1 d.0.up (has_room d.0) refl refl)

      -- the rules are asked first
      verdict_keeps : (b : Bool) → Says b → Good (cond b (on_connection ear g c cs k q n (slice_get ds k)) (refused g c cs Denied n))
      verdict_keeps true v = connection_keeps v
      verdict_keeps false v = refuse n Denied (denied k q spelled v)

    spelled_front : (k : ℕ) (q : Req) (n : ℕ) → outcome servers.names s ≡ whole (passed k q) n → Spelled servers.names (take n s) k q
    spelled_front k q n e =
        let p = (read_iff_spelled servers.names s k q n).0 e in
        subst (λ t. Spelled servers.names t k q) (sym (ap (take n) p.2 ∙ take_at p.0 p.1 n p.3)) p.4

    first_fault : (w : Flaw) → finding_of (outcome servers.names s) ≡ fault w → FirstFault servers.names s w
    first_fault w e = (fault_is_first servers.names s w).0 e

    finding_keeps : (f : Finding) (n : ℕ) → outcome servers.names s ≡ whole f n → Good (on_finding servers ear g c cs f n)
    finding_keeps (passed k q) n e = verdict_keeps k q n (spelled_front k q n e) (verdict (rules_of servers k) q.method (parts_in q.target)) refl
    finding_keeps more n e = want (ap finding_of e)
    finding_keeps (fault w) n e = fault_keeps w n (ends_client w.fault) refl (first_fault w (ap finding_of e)) (λ b. e)

    outcome_keeps : (o : Outcome) → outcome servers.names s ≡ o → Good (on_outcome servers ear g c cs o)
    outcome_keeps wants e = want (ap finding_of e)
    outcome_keeps (broken w) e = fault_keeps w 0 (ends_client w.fault) refl (first_fault w (ap finding_of e)) (λ b. let a = broken_ends servers.names s w e in cc)
    outcome_keeps (whole f n) e = finding_keeps f n e

  stage_keeps : (x : Client) → slice_get xs c ≡ Some x → (st : Stage) → x.stage ≡ st → Good (on_stage servers ear g c cs x st)
  stage_keeps x at reads e = let a = h.clients c x at in outcome_keeps x at (reads_now x (h.now c) a.rest e a.held) (outcome servers.names (bytes_of x)) refl
  stage_keeps x at waits e = over_keeps servers es xs ds c cs h (λ y i z. let same : x ≡ y = cc in cc)
  stage_keeps x at ended e = over_keeps servers es xs ds c cs h (λ y i z. let same : x ≡ y = cc in cc)

  client_keeps : (o : Option Client) → slice_get xs c ≡ o → Good (on_client servers ear g c cs o)
  client_keeps None at = over_keeps servers es xs ds c cs h (λ y i z. cc)
  client_keeps (Some x) at = stage_keeps x at x.stage refl

  pub line_keeps : Good (on_client servers ear g c cs (slice_get xs c))
  line_keeps = client_keeps (slice_get xs c) refl
