-- The fault that is found is the first in the stated order.
use Rattle.std.proofs.Common.{◌≡◌, ℕ, ◌+◌, ◌<◌, ◌≤◌, leb, ◌⊎◌, List, [], ◌++◌, length, take, drop, Some, None, Ok, Err, Option, Result, sym, refl, ap, ◌∙◌, subst, inl, inr, arith}
use Rattle.std.proofs.lemmas.List.{length-map, length-take, drop_at}
use Rattle.std.proofs.lemmas.Bool.{cond_both, cond-false, lt-leb, leb-false}
use Rattle.text.specs.Bytes.{Text}
use Rattle.message.specs.Bodies.{Part, part_of}
use Rattle.message.specs.Chunked.{most_bytes, fresh}
use Rattle.message.specs.Faults.{flaw}
use Rattle.message.specs.Hops.{field_of, kept_of}
use Rattle.message.specs.Sent.{Sent}
use Rattle.message.specs.declared.body.Due.{Due}
use Rattle.message.specs.declared.body.Due.TheVariants.{Chunks}
use Rattle.message.specs.declared.chunked.Outcome.{Outcome as Ran}
use Rattle.message.specs.declared.chunked.Outcome.TheVariants.{More, Whole, Wrong}
use Rattle.message.specs.declared.fault.Fault.TheVariants.{TooLong}
use Rattle.message.specs.declared.fault.Flaw.{Flaw}
use Rattle.message.specs.declared.framing.Size.TheVariants.{Chunked}
use Rattle.message_laws.proofs.Parts.{counted_good}
use Rattle.message_laws.proofs.Refused.{refused as chunks_refused}
use Rattle.request.specs.Canonical.{Req, head_limit, field_limit}
use Rattle.request.specs.Found.{fault, limited}
use Rattle.request.specs.Heads.{window, judged}
use Rattle.request.specs.Targets.{check_target}
use Rattle.request.specs.Writing.{head_length}
use Rattle.request.specs.declared.head.Head.{Head}
use Rattle.request.specs.declared.head.Judged.{Judged}
use Rattle.request_laws.specs.FaultLaws.{FaultIsFirst}
use Rattle.request_laws.specs.Faults.{LineFault, HeadFault, AsFields, AllCame, FirstFault, in_lines, in_head, in_chunks, in_target, in_canonical}
use Rattle.request_laws.specs.Laws.{finding_of}
use Rattle.request_laws.specs.Lines.{Unframing, SizeSpelled}
use Rattle.request_laws.specs.Outcome.{whole, on_target, on_ran, on_part, on_due, on_head, outcome}
use Rattle.request_laws.proofs.BodyRead.{body_read, body_spelled}
use Rattle.request_laws.proofs.Dues as dues
use Rattle.request_laws.proofs.Dues.{DueAs}
use Rattle.request_laws.proofs.LineFaults.{lines_spelled}
use Rattle.request_laws.proofs.PlacedHead.{Placed, head_placed, placed_good, Passed, good_passed}
use Rattle.request_laws.proofs.Refused.{refused}
use Rattle.request_laws.proofs.Requests.{meant, fields_judged, target_judged}
use Rattle.request_laws.proofs.SentAmong.{only_sent, only_field}
use Rattle.request_laws.proofs.TargetFaults.{fault_found, target_read, targets_refused}
use Rattle.request_laws.proofs.Targets.{target_checks}
use Rattle.request_laws.proofs.WholeHead.{headed, headed_all, head_of}

-- WHAT IS FOUND IS THE FIRST

-- a fault behind a head that is let pass is one of a whole request, or of its body
part_fault : (head : Head) (s : Text) (p : Part) (o : Ran) (v : Flaw) → finding_of (on_ran head s p o) ≡ fault v → ((n : ℕ) × (on_ran head s p o ≡ whole (fault v) n)) ⊎ (o ≡ Wrong v)
part_fault head s p More v e = cc
part_fault head s p (Wrong w) v e = inr (cc)
part_fault head s p Whole v e = inl (head.len + p.taken, ap (λ f. whole f (head.len + p.taken)) e)

-- a canonical head that is too long
limited_fault : (k len : ℕ) (q : Req) (v : Flaw) → limited k len q ≡ fault v → (head_limit < head_length q) × (flaw TooLong len ≡ v)
limited_fault k len q v =
    cond_both (leb (head_length q) head_limit) _ _ (λ f. f ≡ fault v → (head_limit < head_length q) × (flaw TooLong len ≡ v))
    (λ _ e. cc)
    (λ h e. (leb-false (head_length q) head_limit h, cc))

module _ (names : List Text) (s : Text) (v : Flaw) (j : Judged) (a : Placed names (take window s) j) where
  abbrev m : Text
  m = a.method

  abbrev t : Text
  t = a.target

  abbrev h : Text
  h = headed m t a.lines []

  abbrev head : Head
  head = head_of m t a.lines a.server

  abbrev tail : Text
  tail = a.rest ++ drop window s

  joined : s ≡ h ++ tail
  joined = headed_all s m t a.lines a.rest a.text

  behind : drop (length h) s ≡ tail
  behind = ap (drop (length h)) joined ∙ drop_at h tail (length h) refl

  -- in the target, or in the length of the canonical head
  target_fault : (body : Text) (r : Result Unit Flaw) → AllCame names s m t a.fields (length h) a.server body → check_target t ≡ r → on_target head h body r ≡ fault v → FirstFault names s v
  target_fault body (Err w) came c e =
      let is : flaw w.fault (length m + 1 + w.place) ≡ v = cc in
      subst (FirstFault names s) is (in_target a.server came ((targets_refused t w a.ask.0.1).0 c))
  target_fault body (Ok u) came c e =
      let fs = AsFields a.fields in
      let few : length fs ≤ field_limit = simp length-map a.few in
      let l = limited_fault a.server (length h) (meant m t fs body) v (sym (fields_judged m t a.lines a.server fs body (lines_spelled a.placed) few) ∙ e) in
      let p = target_read t a.ask.0.1 c in
      let is = (target_checks t p.0 p.1).1 in
      subst (FirstFault names s) l.1 (in_canonical a.server p.0 came p.1 (subst (λ u. head_limit < head_length (record { method = m; target = u; fields = kept_of fs; body = body })) is l.0))

  whole_fault : (n : ℕ) → on_due head (h ++ tail) a.due ≡ whole (fault v) n → FirstFault names s v
  whole_fault n e =
      let b = body_read m (AsFields a.fields) head h tail a.due (fault v) n refl a.due_good e in
      let came : AllCame names s m t a.fields (length h) a.server b.body = record { good = placed_good names s j a; after = b.after; rest = b.rest; spelled = b.spelled; short = b.short; text = behind ∙ b.joined } in
      target_fault b.body (check_target t) came refl (sym (target_judged m t a.lines a.server b.body) ∙ b.is)

  -- in the chunks
  chunks_fault : (due : Due) → DueAs m (AsFields a.fields) (length h) due → (part_of due (drop (length h) s)).outcome ≡ Wrong v → FirstFault names s v
  chunks_fault due (dues.none b u d) w = absurd (counted_good 0 (drop (length h) s) v (ap (λ x. (part_of x (drop (length h) s)).outcome) (sym d) ∙ w))
  chunks_fault due (dues.sized f n b o x y l d) w = absurd (counted_good n (drop (length h) s) v (ap (λ x. (part_of x (drop (length h) s)).outcome) (sym d) ∙ w))
  chunks_fault due (dues.chunked f b o x y d) w =
      let g = only_sent Unframing a.fields f o in
      in_chunks a.server g.0 (placed_good names s j a) b g.1 (subst (λ f. SizeSpelled f Chunked) (sym g.2) (x, y)) ((chunks_refused most_bytes (length h) (drop (length h) s) v).0 (ap (λ x. (part_of x (drop (length h) s)).outcome) (sym d) ∙ w))

  behind_fault : finding_of (on_due j.head s j.due) ≡ fault v → FirstFault names s v
  behind_fault e =
      let there : finding_of (on_due head s a.due) ≡ fault v = ap (λ i. finding_of (on_due i.head s i.due)) (sym a.is) ∙ e in
      let p = part_of a.due (drop (length h) s) in
      elim (part_fault head s p p.outcome v there) [
        | inl (n, w) ↦ whole_fault n (ap (λ u. on_due head u a.due) (sym joined) ∙ w)
        | inr w ↦ chunks_fault a.due a.due_good w
      ]

in_window : (s : Text) → length (take window s) ≤ window
in_window s = rw length-take (omega arith)

-- in the head
head_fault : (names : List Text) (s : Text) (v : Flaw) → LineFault (take window s) v ⊎ HeadFault names (take window s) v → FirstFault names s v
head_fault names s v (inl f) = in_lines f
head_fault names s v (inr f) = in_head f

fault_first : (names : List Text) (s : Text) (v : Flaw) (r : Result (Option Judged) Flaw) → judged names (take window s) ≡ r → finding_of (on_head s r) ≡ fault v → FirstFault names s v
fault_first names s v (Err w) g e = let is : w ≡ v = cc in head_fault names s v ((refused names (take window s) v (in_window s)).0 (g ∙ ap Err is))
fault_first names s v (Ok None) g e = cc
fault_first names s v (Ok (Some j)) g e = behind_fault names s v j (head_placed names (take window s) j g) e

-- THE FIRST IS WHAT IS FOUND

-- all of a request has come, and so it is judged
abbrev Came : List Text → Text → Text → Text → List Sent → ℕ → ℕ → Text → Type 0
Came names s m t fs len k body = (p : Passed names s m t fs len k) × (finding_of (outcome names s) ≡ on_target (head_of m t p.lines k) (headed m t p.lines []) body (check_target t))

came_found : (names : List Text) (s m t : Text) (fs : List Sent) (len k : ℕ) (body : Text) → AllCame names s m t fs len k body → Came names s m t fs len k body
came_found names s m t fs len k body c =
    let p = good_passed names s m t fs len k c.good in
    let head = head_of m t p.lines k in
    let h = headed m t p.lines [] in
    let b = body_spelled m (AsFields fs) head h c.after c.rest body refl c.spelled c.short in
    let all : s ≡ h ++ (c.after ++ c.rest) = p.text ∙ ap (λ u. h ++ u) (sym p.behind ∙ c.text) in
    let passes = p.passes b.0 (subst (λ n. DueAs m (AsFields fs) n b.0) p.long b.1) in
    (p, ap (λ r. finding_of (on_head s r)) passes ∙ ap (λ u. finding_of (on_due head u b.0)) all ∙ ap finding_of b.2 ∙ target_judged m t p.lines k body)

first_found : (names : List Text) (s : Text) (v : Flaw) → FirstFault names s v → finding_of (outcome names s) ≡ fault v
first_found names s v (in_lines f) = ap (λ r. finding_of (on_head s r)) ((refused names (take window s) v (in_window s)).1 (inl f))
first_found names s v (in_head f) = ap (λ r. finding_of (on_head s r)) ((refused names (take window s) v (in_window s)).1 (inr f))
first_found names s v (in_chunks {m} {t} {fs} {len} k f g b o z c) =
    let p = good_passed names s m t fs len k g in
    let head = head_of m t p.lines k in
    let start = fresh most_bytes len in
    ap (λ r. finding_of (on_head s r)) (p.passes (Chunks start) (dues.chunked (field_of f) b (only_field Unframing fs f o) z.0 z.1 refl))
    ∙ ap (λ n. finding_of (on_part head s (part_of (Chunks start) (drop n s)))) p.long
    ∙ ap (λ x. finding_of (on_ran head s (part_of (Chunks start) (drop len s)) x)) ((chunks_refused most_bytes len (drop len s) v).1 c)
first_found names s v (in_target {m} {t} {body} {fs} {len} {v = w} k came f) =
    let c = came_found names s m t fs len k body came in
    c.1 ∙ ap (on_target (head_of m t c.0.lines k) (headed m t c.0.lines []) body) (fault_found t w f)
first_found names s v (in_canonical {m} {t} {body} {fs} {len} k p came f long) =
    let c = came_found names s m t fs len k body came in
    let h = headed m t c.0.lines [] in
    let q = meant m t (AsFields fs) body in
    let checks = target_checks t p f in
    let over : head_limit < head_length q = subst (λ u. head_limit < head_length (record { method = m; target = u; fields = kept_of (AsFields fs); body = body })) (sym checks.1) long in
    c.1 ∙ ap (on_target (head_of m t c.0.lines k) h body) checks.0 ∙ fields_judged m t c.0.lines k (AsFields fs) body c.0.good c.0.few
    ∙ cond-false (leb (head_length q) head_limit) _ _ (lt-leb (head_length q) head_limit over) ∙ ap (λ n. fault (flaw TooLong n)) c.0.long

-- the law
pub fault_is_first : FaultIsFirst
fault_is_first names s v = (fault_first names s v (judged names (take window s)) refl, first_found names s v)
