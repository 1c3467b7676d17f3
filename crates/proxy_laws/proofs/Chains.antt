-- What a client's bytes mean, where more comes: more bytes behind them, more entries, and one request more.
use Rattle.std.proofs.Common.{◌≡◌, ◌≢◌, ℕ, false, List, [], ◌∷◌, ◌++◌, sym, ap, ◌∙◌, subst, append_assoc, append-nil}
use Rattle.std.specs.Prelude.{Some, slice_get}
use Rattle.std.proofs.lemmas.List.{map-append}
use Rattle.text.specs.Bytes.{Text}
use Rattle.message.specs.declared.fault.Fault.{Fault}
use Rattle.message.specs.declared.fault.Fault.TheVariants.{Busy, Down}
use Rattle.message.specs.declared.fault.Flaw.{Flaw}
use Rattle.request.specs.Found.{Finding, more, fault}
use Rattle.request_laws.specs.Faults.{FirstFault}
use Rattle.request_laws.specs.Laws.{finding_of}
use Rattle.request_laws.specs.Outcome.{outcome, wants, whole}
use Rattle.request_laws.proofs.FirstFaults.{fault_is_first}
use Rattle.request_laws.proofs.OutcomeStays.{outcome_stays}
use Rattle.connection.specs.Model.{Response}
use Rattle.proxy.specs.Model.{Servers, Out, sends, answers, fails, refuses}
use Rattle.proxy_laws.specs.Traces.{Entry, Crowded, went, asked_of}
use Rattle.proxy_laws.specs.Clients.{WentDown, When, Asked, Fate, refused, answered, failed, Now, reading, waiting, over, asking, outs_of, outs_of_all, Early, text_of, GoesOut, Refused, faulty, denied, crowded, down, Meant, Read, none, next, Left}
use Rattle.proxy_laws.proofs.Projections.{asked_more, stays_at}

-- the first fault stays the first, whatever follows
pub fault_stays : (names : List Text) (s t : Text) (w : Flaw) → FirstFault names s w → FirstFault names (s ++ t) w
fault_stays names s t w f =
    let e = (fault_is_first names s w).1 f in
    let some : outcome names s ≢ wants = λ z. let m : more ≡ fault w = sym (ap finding_of z) ∙ e in cc in
    (fault_is_first names (s ++ t) w).0 (ap finding_of (outcome_stays names s t some) ∙ e)

whole_stays : (names : List Text) (s t : Text) (f : Finding) (n : ℕ) → outcome names s ≡ whole f n → outcome names (s ++ t) ≡ whole f n
whole_stays names s t f n e = outcome_stays names s t (λ z. cc) ∙ e

module _ (servers : Servers) (es ys : List Entry) (c : ℕ) where
  pub goes_more : (x : Asked) → GoesOut servers es c x → GoesOut servers (es ++ ys) c x
  goes_more x g = record {
    spelled = g.spelled;
    allowed = g.allowed;
    own = g.own;
    numbered = subst (λ qs. slice_get qs x.owner.number ≡ Some (record { client = c; request = x.request })) (sym (asked_more x.server es ys)) (stays_at (asked_of x.server es) (asked_of x.server ys) x.owner.number _ g.numbered);
  }

  when_more : (before : List Out) (o : Out) (P : List Entry → Type 0) → When servers es c before o P → When servers (es ++ ys) c before o P
  when_more before o P w = (w.0, w.1 ++ ys, ap (λ us. us ++ ys) w.2 ∙ append_assoc w.0 (went o ∷ w.1) ys, w.3, w.4)

  refused_more : (before : List Out) (s t text : Text) (f : Fault) → Refused servers es c before s text f → Refused servers (es ++ ys) c before (s ++ t) text f
  refused_more before s t text f (faulty w o i e) = faulty w (whole_stays servers.names s t (fault w) _ o) (fault_stays servers.names s t w i) e
  refused_more before s t text f (denied k q p v) = denied k q p v
  refused_more before s t text f (crowded k q p v w) = crowded k q p v (when_more before (refuses c Busy) (Crowded k) w)
  refused_more before s t text f (down k q p v w) = down k q p v (when_more before (refuses c Down) (WentDown k) w)

  meant_more : (earlier : List Fate) (s t : Text) (x : Fate) → Meant servers es c earlier s x → Meant servers (es ++ ys) c earlier (s ++ t) x
  meant_more earlier s t (refused text f) m = refused_more (outs_of_all c earlier) s t text f m
  meant_more earlier s t (answered x early last) m = (goes_more x m.0, m.1, m.2)
  meant_more earlier s t (failed x early) m = (goes_more x m.0, m.1, when_more (outs_of_all c earlier ++ asking c x early) (fails x.server x.owner) (WentDown x.server) m.2)

  pub read_more : (t : Text) {earlier : List Fate} {s left : Text} {xs : List Fate} → Read servers es c earlier s xs left → Read servers (es ++ ys) c earlier (s ++ t) xs (left ++ t)
  read_more t none = none
  read_more t (next {earlier} {s} {rest} x is m r) = next x (ap (λ u. u ++ t) is ∙ append_assoc (text_of x) rest t) (meant_more earlier s t x m) (read_more t r)

  pub left_more : (t s rest : Text) (n : Now) → Left servers es c s n rest → Left servers (es ++ ys) c (s ++ t) n (rest ++ t)
  left_more t s rest reading h = ap (λ u. u ++ t) h
  left_more t s rest (waiting x early) h = (goes_more x h.0, h.1, ap (λ u. u ++ t) h.2 ∙ append_assoc x.text rest t)
  left_more t s rest (over f) h = let w = h.1 in (ap (λ u. u ++ t) h.0, (w.0, fault_stays servers.names s t w.0 w.1, w.2, w.3))

module _ (servers : Servers) (es : List Entry) (c : ℕ) where
  -- one request more, of those that are left
  pub read_one : (x : Fate) (rest : Text) {earlier : List Fate} {s left : Text} {xs : List Fate} → Read servers es c earlier s xs left → left ≡ text_of x ++ rest → Meant servers es c (earlier ++ xs) left x → Read servers es c earlier s (xs ++ (x ∷ [])) rest
  read_one x rest (none {earlier} {s}) e m = next x e (subst (λ ys. Meant servers es c ys s x) (append-nil earlier) m) none
  read_one x rest (next {earlier} {left} {xs} y is n r) e m = next y is n (read_one x rest r e (subst (λ ys. Meant servers es c ys left x) (sym (append_assoc earlier (y ∷ []) xs)) m))

pub outs_push : (c : ℕ) (xs : List Fate) (x : Fate) → outs_of_all c (xs ++ (x ∷ [])) ≡ outs_of_all c xs ++ outs_of c x
unfolding outs_of_all
outs_push c [] x = append-nil (outs_of c x)
outs_push c (y ∷ xs) x = ap (λ os. outs_of c y ++ os) (outs_push c xs x) ∙ sym (append_assoc (outs_of c y) (outs_of_all c xs) (outs_of c x))

-- one early response more
pub asking_push : (c : ℕ) (x : Asked) (early : List Response) (a : Response) → asking c x (early ++ (a ∷ [])) ≡ asking c x early ++ (answers x.server x.owner a ∷ [])
asking_push c x early a = ap (λ os. sends x.server c x.request ∷ os) (map-append (λ b. answers x.server x.owner b) early (a ∷ []))

pub early_push : (early : List Response) (a : Response) → Early early → a.last ≡ false → Early (early ++ (a ∷ []))
early_push [] a h l = (l, tt)
early_push (b ∷ early) a h l = (h.0, early_push early a h.1 l)
