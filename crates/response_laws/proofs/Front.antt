-- A head that was found is found in bytes of its own, whatever follows them; and what cannot be a head stays so.
use Rattle.std.proofs.Common.{◌≡◌, ℕ, zero, suc, ◌+◌, ◌<◌, ◌≤◌, Bool, true, false, cond, eqb, leb, ltb, List, [], ◌∷◌, ◌++◌, length, take, Some, None, Ok, Err, Option, Result, sym, refl, ap, ◌∙◌, subst, append_assoc, append-nil, length-append, T, eqb-true, arith}
use Rattle.std.proofs.lemmas.List.{nil_from_length, take-append-le}
use Rattle.std.proofs.lemmas.Bool.{cond_both, cond-false, ltb-true, ltb-false, leb-true}
use Rattle.text.specs.Bytes.{Text, all, clean}
use Rattle.text.specs.Cuts.{LineCut, whole, short, stray, cut_line}
use Rattle.text_laws.specs.Laws.{Strays, lone_lf, lone_cr}
use Rattle.text_laws.proofs.Lines.{whole_line, stray_line}
use Rattle.message.specs.Sent.{Sent, Found, ended, more, wrong, check_line, check_field, sent_at, with_fields, on_line, on_cut, line_then, fields_from, fields_in}
use Rattle.message.specs.Bodies.{due_by, unplaced, room_of}
use Rattle.message.specs.Chunked.{most_bytes, fresh}
use Rattle.message.specs.Faults.{flaw}
use Rattle.message.specs.Framing.{framed}
use Rattle.message.specs.declared.body.Due.{Due}
use Rattle.message.specs.declared.body.Due.TheVariants.{Length, Chunks}
use Rattle.message.specs.declared.fault.Fault.TheVariants.{BodyTooLong}
use Rattle.message.specs.declared.framing.Said.{Said}
use Rattle.message.specs.declared.framing.Size.{Size}
use Rattle.message.specs.declared.framing.Size.TheVariants.{Length as SaidLength, Chunked}
use Rattle.message.specs.declared.fault.Flaw.{Flaw}
use Rattle.request.specs.Canonical.{field_limit}
use Rattle.request.specs.Heads.{window}
use Rattle.request_laws.proofs.WholeHead.{fields_begin}
use Rattle.response.specs.Heads.{readable, said_due, due_of, judged_as, unended_at, on_fields, on_status, on_first, judged}
use Rattle.response.specs.Status.{status_of, has_body}
use Rattle.response.specs.declared.head.Judged.{Judged}
use Rattle.response.specs.declared.head.Unreadable.{Unreadable}
use Rattle.response.specs.declared.status.Status.{Status}

-- more bytes behind a line that has ended, and behind a stray byte
strays_more : (q t : Text) → Strays q → Strays (q ++ t)
strays_more q t lone_lf = lone_lf
strays_more q t (lone_cr f) = lone_cr f

whole_more : (s t l r : Text) → cut_line s ≡ whole l r → cut_line (s ++ t) ≡ whole l (r ++ t)
whole_more s t l r e =
    let f = (whole_line s l r).0 e in
    (whole_line (s ++ t) l (r ++ t)).1 (f.0, ap (λ u. u ++ t) f.1 ∙ append_assoc l (13 ∷ 10 ∷ r) t)

stray_more : (s t : Text) (n : ℕ) → cut_line s ≡ stray n → (cut_line (s ++ t) ≡ stray n) × (n ≤ length s) × (take n (s ++ t) ≡ take n s)
stray_more s t n e =
    let f = (stray_line s n).0 e in
    let less : n ≤ length s = omega (arith, f.3, ap length f.4, length-append f.0 f.1) in
    ((stray_line (s ++ t) n).1 (f.0, f.1 ++ t, f.2, f.3, ap (λ u. u ++ t) f.4 ∙ append_assoc f.0 f.1 t, strays_more f.1 t f.5), less, take-append-le n s t less)

-- a line, its end, and what follows
line_cut : (l rest : Text) → T (clean l) → cut_line (l ++ (13 ∷ 10 ∷ rest)) ≡ whole l rest
line_cut l rest h = (whole_line (l ++ (13 ∷ 10 ∷ rest)) l rest).1 (h, refl)

-- fields that were found stand in a front of the text, and are found there whatever follows
pub record FieldsFront (k at : ℕ) (t : Text) (fs : List Sent) (end : ℕ) : Type 0 where
  pub front : Text
  pub rest : Text
  pub joined : t ≡ front ++ rest
  pub long : at + length front ≡ end
  pub found : (u : Text) → fields_from k at (front ++ u) ≡ ended fs end

with_ended : (fs : List Sent) (x : Found) (gs : List Sent) (end : ℕ) → with_fields fs x ≡ ended gs end → (hs : List Sent) × (x ≡ ended hs end) × (gs ≡ fs ++ hs)
with_ended fs (ended hs n) gs end h = (hs, cc, cc)
with_ended fs more gs end h = cc
with_ended fs (wrong w) gs end h = cc

no_bytes : (l : Text) → eqb (length l) 0 ≡ true → l ≡ []
no_bytes l h = nil_from_length l (eqb-true (length l) 0 h)

abbrev FrontsOf : ℕ → Type 0
FrontsOf k = (at : ℕ) (t : Text) (fs : List Sent) (end : ℕ) → fields_from k at t ≡ ended fs end → FieldsFront k at t fs end

empty_front : (k at : ℕ) (t rest : Text) (fs : List Sent) (end : ℕ) → t ≡ 13 ∷ 10 ∷ rest → ended [] (at + 2) ≡ ended fs end → FieldsFront k at t fs end
unfolding all
empty_front k at t rest fs end e h = record {
  front = 13 ∷ 10 ∷ [];
  rest = rest;
  joined = e;
  long = cc;
  found = λ u. ap (on_cut k at (13 ∷ 10 ∷ u) (line_then k at)) (line_cut [] u tt) ∙ h;
}

line_front : (k at : ℕ) (t l rest : Text) (fs : List Sent) (end : ℕ) → FrontsOf k → T (clean l) → t ≡ l ++ (13 ∷ 10 ∷ rest) → eqb (length l) 0 ≡ false →
    (r : Result ℕ Flaw) → check_field at l true ≡ r → on_line r (λ n. with_fields (sent_at at n l ∷ []) (fields_from k (at + (length l + 2)) rest)) ≡ ended fs end → FieldsFront (suc k) at t fs end
unfolding line_then
line_front k at t l rest fs end ih good e some (Err w) c h = cc
line_front k at t l rest fs end ih good e some (Ok n) c h =
    let first = sent_at at n l in
    let next = with_ended (first ∷ []) (fields_from k (at + (length l + 2)) rest) fs end h in
    let f = ih (at + (length l + 2)) rest next.0 end next.1 in
    record {
      front = l ++ (13 ∷ 10 ∷ f.front);
      rest = f.rest;
      joined = e ∙ ap (λ u. l ++ (13 ∷ 10 ∷ u)) f.joined ∙ sym (append_assoc l (13 ∷ 10 ∷ f.front) f.rest);
      long = omega (arith, f.long, length-append l (13 ∷ 10 ∷ f.front));
      found =
          λ u.
          ap (λ s. fields_from (suc k) at s) (append_assoc l (13 ∷ 10 ∷ f.front) u)
          ∙ ap (on_cut (suc k) at (l ++ (13 ∷ 10 ∷ (f.front ++ u))) (line_then (suc k) at)) (line_cut l (f.front ++ u) good)
          ∙ cond-false (eqb (length l) 0) (ended [] (at + 2)) (line_then (suc k) at l (f.front ++ u)) some
          ∙ ap (λ r. on_line r (λ n. with_fields (sent_at at n l ∷ []) (fields_from k (at + (length l + 2)) (f.front ++ u)))) c
          ∙ ap (with_fields (first ∷ [])) (f.found u)
          ∙ ap (λ gs. ended gs end) (sym next.2);
    }

stray_ended : {P : Type 0} (r : Result ℕ Flaw) (fs : List Sent) (end : ℕ) → on_line r (λ colon. more) ≡ ended fs end → P
stray_ended (Ok n) fs end h = cc
stray_ended (Err w) fs end h = cc

line_if : (k at : ℕ) (t l rest : Text) (fs : List Sent) (end : ℕ) → ((j : ℕ) → suc j ≡ k → FrontsOf j) → T (clean l) → t ≡ l ++ (13 ∷ 10 ∷ rest) → eqb (length l) 0 ≡ false → line_then k at l rest ≡ ended fs end → FieldsFront k at t fs end
unfolding line_then
line_if zero at t l rest fs end ih good e some h = cc
line_if (suc k) at t l rest fs end ih good e some h = line_front k at t l rest fs end (ih k refl) good e some (check_field at l true) refl h

cut_front : (k at : ℕ) (t : Text) (fs : List Sent) (end : ℕ) → ((j : ℕ) → suc j ≡ k → FrontsOf j) → (c : LineCut) → cut_line t ≡ c → on_cut k at t (line_then k at) c ≡ ended fs end → FieldsFront k at t fs end
cut_front k at t fs end ih short e h = cc
cut_front k at t fs end ih (stray n) e h = stray_ended (check_line k at (take n t) false) fs end h
cut_front k at t fs end ih (whole l rest) e h =
    let w = (whole_line t l rest).0 e in
    cond_both (eqb (length l) 0) (ended [] (at + 2)) (line_then k at l rest) (λ x. x ≡ ended fs end → FieldsFront k at t fs end)
    (λ z g. empty_front k at t rest fs end (w.1 ∙ ap (λ u. u ++ (13 ∷ 10 ∷ rest)) (no_bytes l z)) g)
    (λ z g. line_if k at t l rest fs end ih w.0 w.1 z g) h

pub fields_front : (k : ℕ) → FrontsOf k
fields_front zero at t fs end h = cut_front zero at t fs end (λ j z. absurd (omega arith)) (cut_line t) refl h
fields_front (suc k) at t fs end h = cut_front (suc k) at t fs end (λ j z. subst FrontsOf (omega arith) (fields_front k)) (cut_line t) refl h

-- what is wrong with field lines stays wrong, whatever follows
abbrev WrongOf : ℕ → Type 0
WrongOf k = (at : ℕ) (t : Text) (w : Flaw) → fields_from k at t ≡ wrong w → (u : Text) → fields_from k at (t ++ u) ≡ wrong w

with_wrong : (fs : List Sent) (x : Found) (w : Flaw) → with_fields fs x ≡ wrong w → x ≡ wrong w
with_wrong fs (ended hs n) w h = cc
with_wrong fs more w h = cc
with_wrong fs (wrong v) w h = cc

stray_wrong : (k at : ℕ) (t u : Text) (n : ℕ) (w : Flaw) → cut_line t ≡ stray n → on_line (check_line k at (take n t) false) (λ colon. more) ≡ wrong w → fields_from k at (t ++ u) ≡ wrong w
stray_wrong k at t u n w e h =
    let s = stray_more t u n e in
    ap (on_cut k at (t ++ u) (line_then k at)) s.0 ∙ ap (λ l. on_line (check_line k at l false) (λ colon. more)) s.2 ∙ h

line_wrong : (k at : ℕ) (l rest u : Text) (w : Flaw) → WrongOf k → (r : Result ℕ Flaw) → on_line r (λ n. with_fields (sent_at at n l ∷ []) (fields_from k (at + (length l + 2)) rest)) ≡ wrong w →
    on_line r (λ n. with_fields (sent_at at n l ∷ []) (fields_from k (at + (length l + 2)) (rest ++ u))) ≡ wrong w
line_wrong k at l rest u w ih (Err v) h = h
line_wrong k at l rest u w ih (Ok n) h = ap (with_fields (sent_at at n l ∷ [])) (ih (at + (length l + 2)) rest w (with_wrong (sent_at at n l ∷ []) (fields_from k (at + (length l + 2)) rest) w h) u)

then_wrong : (k at : ℕ) (l rest u : Text) (w : Flaw) → ((j : ℕ) → suc j ≡ k → WrongOf j) → line_then k at l rest ≡ wrong w → line_then k at l (rest ++ u) ≡ wrong w
unfolding line_then
then_wrong zero at l rest u w ih h = h
then_wrong (suc k) at l rest u w ih h = line_wrong k at l rest u w (ih k refl) (check_field at l true) h

cut_wrong : (k at : ℕ) (t u : Text) (w : Flaw) → ((j : ℕ) → suc j ≡ k → WrongOf j) → (c : LineCut) → cut_line t ≡ c → on_cut k at t (line_then k at) c ≡ wrong w → fields_from k at (t ++ u) ≡ wrong w
cut_wrong k at t u w ih short e h = cc
cut_wrong k at t u w ih (stray n) e h = stray_wrong k at t u n w e h
cut_wrong k at t u w ih (whole l rest) e h =
    ap (on_cut k at (t ++ u) (line_then k at)) (whole_more t u l rest e)
    ∙ cond_both (eqb (length l) 0) (ended [] (at + 2)) (line_then k at l rest) (λ x. x ≡ wrong w → cond (eqb (length l) 0) (ended [] (at + 2)) (line_then k at l (rest ++ u)) ≡ wrong w)
    (λ z g. cc)
    (λ z g. cond-false (eqb (length l) 0) (ended [] (at + 2)) (line_then k at l (rest ++ u)) z ∙ then_wrong k at l rest u w ih g) h

pub fields_wrong : (k : ℕ) → WrongOf k
fields_wrong zero at t w h u = cut_wrong zero at t u w (λ j z. absurd (omega arith)) (cut_line t) refl h
fields_wrong (suc k) at t w h u = cut_wrong (suc k) at t u w (λ j z. subst WrongOf (omega arith) (fields_wrong k)) (cut_line t) refl h

-- a head that was found stands in a front of the text, and is found there whatever follows
pub record HeadFront (m w : Text) (j : Judged) : Type 0 where
  pub front : Text
  pub rest : Text
  pub joined : w ≡ front ++ rest
  pub long : length front ≡ j.head.len
  pub found : (u : Text) → judged m (front ++ u) ≡ Ok (Some j)
  pub line_in : j.head.line + 2 ≤ j.head.len
  pub room : room_of j.due ≤ most_bytes
  pub unplaced_due : unplaced j.due ≡ j.due

unended_some : {P : Type 0} (n : ℕ) (j : Judged) → unended_at n ≡ Ok (Some j) → P
unended_some {P} n j h = cond_both (ltb n window) (Ok None) (Err record {}) (λ (x : Result (Option Judged) Unreadable). x ≡ Ok (Some j) → P) (λ z g. cc) (λ z g. cc) h

-- what a head is by, where its body is known
readable_some : (r : Result Due Unreadable) (status : Status) (b : Bool) (line len : ℕ) (j : Judged) → readable r (λ due. Ok (Some (judged_as status b line len due))) ≡ Ok (Some j) →
    (due : Due) × (r ≡ Ok due) × (j ≡ judged_as status b line len due)
readable_some (Ok due) status b line len j h = (due, refl, cc)
readable_some (Err u) status b line len j h = cc

-- at its start a body has room for as many bytes as a body may have, and no place is counted in it
abbrev Starts : Due → Type 0
Starts due = (room_of due ≤ most_bytes) × (unplaced due ≡ due)

size_starts : (n at : ℕ) (due : Due) → cond (leb n most_bytes) (Ok (Length n)) (Err (flaw BodyTooLong at)) ≡ Ok due → Starts due
size_starts n at due h =
    cond_both (leb n most_bytes) (Ok (Length n)) (Err (flaw BodyTooLong at)) (λ (x : Result Due Flaw). x ≡ Ok due → Starts due)
    (λ e g. let is : Length n ≡ due = cc in subst Starts is (leb-true n most_bytes e, refl)) (λ e g. cc) h

said_starts : (s : Size) (at : ℕ) (due : Due) → due_by s at 0 ≡ Ok due → Starts due
said_starts Chunked at due h = let is : Chunks (fresh most_bytes 0) ≡ due = cc in subst Starts is (omega arith, refl)
said_starts (SaidLength n) at due h = size_starts n at due h

flat_starts : (r : Result Due Flaw) (due : Due) → ((d : Due) → r ≡ Ok d → Starts d) → readable r (λ d. Ok d) ≡ Ok due → Starts due
flat_starts (Ok d) due f h = let is : d ≡ due = cc in subst Starts is (f d refl)
flat_starts (Err w) due f h = cc

option_starts : (o : Option Said) (due : Due) → said_due o ≡ Ok due → Starts due
option_starts None due h = cc
option_starts (Some said) due h = flat_starts (due_by said.size said.value_at 0) due (λ d e. said_starts said.size said.value_at d e) h

framed_starts : (r : Result (Option Said) Flaw) (due : Due) → readable r said_due ≡ Ok due → Starts due
framed_starts (Ok o) due h = option_starts o due h
framed_starts (Err w) due h = cc

due_starts : (b : Bool) (fs : List Sent) (due : Due) → due_of b fs ≡ Ok due → Starts due
due_starts true fs due h = framed_starts (framed None fs) due h
due_starts false fs due h = let is : Length 0 ≡ due = cc in subst Starts is (omega arith, refl)

-- a head in which the fields were found
module _ (m l rest : Text) (status : Status) (good : T (clean l)) (known : status_of l ≡ Some status) where
  abbrev after_fields : ℕ → Found → Result (Option Judged) Unreadable
  after_fields n f = on_fields m status (length l) n f

  judged_by : (u : Text) → judged m (l ++ (13 ∷ 10 ∷ u)) ≡ after_fields (length (l ++ (13 ∷ 10 ∷ u))) (fields_from field_limit (length l + 2) u)
  judged_by u =
      let w = l ++ (13 ∷ 10 ∷ u) in
      ap (on_first m w) (line_cut l u good) ∙ ap (on_status m w (length l)) known ∙ ap (after_fields (length w)) (fields_begin l u)

  head_ended : (fs : List Sent) (end : ℕ) (j : Judged) → fields_from field_limit (length l + 2) rest ≡ ended fs end → after_fields (length (l ++ (13 ∷ 10 ∷ rest))) (ended fs end) ≡ Ok (Some j) → HeadFront m (l ++ (13 ∷ 10 ∷ rest)) j
  head_ended fs end j e h =
      let f = fields_front field_limit (length l + 2) rest fs end e in
      let k = readable_some (due_of (has_body status m) fs) status (has_body status m) (length l) end j h in
      record {
        front = l ++ (13 ∷ 10 ∷ f.front);
        rest = f.rest;
        joined = ap (λ u. l ++ (13 ∷ 10 ∷ u)) f.joined ∙ sym (append_assoc l (13 ∷ 10 ∷ f.front) f.rest);
        long = omega (arith, f.long, length-append l (13 ∷ 10 ∷ f.front), ap (λ (x : Judged). x.head.len) k.2);
        line_in = omega (arith, f.long, ap (λ (x : Judged). x.head.len) k.2, ap (λ (x : Judged). x.head.line) k.2);
        room = omega (arith, (due_starts (has_body status m) fs k.0 k.1).0, ap (λ (x : Judged). room_of x.due) k.2);
        unplaced_due = subst (λ d. unplaced d ≡ d) (sym (ap (λ (x : Judged). x.due) k.2)) (due_starts (has_body status m) fs k.0 k.1).1;
        found = λ u. ap (judged m) (append_assoc l (13 ∷ 10 ∷ f.front) u) ∙ judged_by (f.front ++ u) ∙ ap (after_fields (length (l ++ (13 ∷ 10 ∷ (f.front ++ u))))) (f.found u) ∙ h;
      }

  head_by : (f : Found) (j : Judged) → fields_from field_limit (length l + 2) rest ≡ f → after_fields (length (l ++ (13 ∷ 10 ∷ rest))) f ≡ Ok (Some j) → HeadFront m (l ++ (13 ∷ 10 ∷ rest)) j
  head_by (ended fs end) j e h = head_ended fs end j e h
  head_by more j e h = unended_some (length (l ++ (13 ∷ 10 ∷ rest))) j h
  head_by (wrong w) j e h = cc

status_front : (m l rest : Text) (o : Option Status) (j : Judged) → T (clean l) → status_of l ≡ o → judged m (l ++ (13 ∷ 10 ∷ rest)) ≡ Ok (Some j) → HeadFront m (l ++ (13 ∷ 10 ∷ rest)) j
status_front m l rest None j good known h =
    let w = l ++ (13 ∷ 10 ∷ rest) in
    let no : judged m w ≡ Err record {} = ap (on_first m w) (line_cut l rest good) ∙ ap (on_status m w (length l)) known in
    cc
status_front m l rest (Some status) j good known h =
    head_by m l rest status good known (fields_from field_limit (length l + 2) rest) j refl (sym (judged_by m l rest status good known rest) ∙ h)

cut_head : (m w : Text) (c : LineCut) (j : Judged) → cut_line w ≡ c → judged m w ≡ Ok (Some j) → HeadFront m w j
cut_head m w short j e h = unended_some (length w) j (sym (ap (on_first m w) e) ∙ h)
cut_head m w (stray n) j e h = let no : judged m w ≡ Err record {} = ap (on_first m w) e in cc
cut_head m w (whole l rest) j e h =
    let f = (whole_line w l rest).0 e in
    subst (λ x. HeadFront m x j) (sym f.1) (status_front m l rest (status_of l) j f.0 refl (ap (judged m) (sym f.1) ∙ h))

pub head_front : (m w : Text) (j : Judged) → judged m w ≡ Ok (Some j) → HeadFront m w j
head_front m w j h = cut_head m w (cut_line w) j refl h

-- What cannot be a head cannot be one with more bytes, as far as the window goes.
unended_err : (n : ℕ) → unended_at n ≡ Err record {} → window ≤ n
unended_err n h = cond_both (ltb n window) (Ok None) (Err record {}) (λ (x : Result (Option Judged) Unreadable). x ≡ Err record {} → window ≤ n) (λ z g. cc) (λ z g. ltb-false n window z) h

-- behind a full window nothing can come
full : (w u : Text) → length (w ++ u) ≤ window → window ≤ length w → w ++ u ≡ w
full w u room e = let sum = length-append w u in ap (λ v. w ++ v) (nil_from_length u (omega arith)) ∙ append-nil w

module _ (m l rest u : Text) (status : Status) (good : T (clean l)) (known : status_of l ≡ Some status) (room : length ((l ++ (13 ∷ 10 ∷ rest)) ++ u) ≤ window) where
  abbrev behind : Text
  behind = l ++ (13 ∷ 10 ∷ rest)

  moved : behind ++ u ≡ l ++ (13 ∷ 10 ∷ (rest ++ u))
  moved = append_assoc l (13 ∷ 10 ∷ rest) u

  err_by : (f : Found) → fields_from field_limit (length l + 2) rest ≡ f → after_fields m l rest status good known (length behind) f ≡ Err record {} → judged m (behind ++ u) ≡ Err record {}
  err_by (ended fs end) e h =
      let f = fields_front field_limit (length l + 2) rest fs end e in
      let more_come : rest ++ u ≡ f.front ++ (f.rest ++ u) = ap (λ x. x ++ u) f.joined ∙ append_assoc f.front f.rest u in
      ap (judged m) moved ∙ judged_by m l rest status good known (rest ++ u)
      ∙ ap (after_fields m l rest status good known (length (l ++ (13 ∷ 10 ∷ (rest ++ u))))) (ap (fields_from field_limit (length l + 2)) more_come ∙ f.found (f.rest ++ u)) ∙ h
  err_by more e h =
      let all : behind ++ u ≡ behind = full behind u room (unended_err (length behind) h) in
      ap (judged m) all ∙ judged_by m l rest status good known rest ∙ ap (after_fields m l rest status good known (length behind)) e ∙ h
  err_by (wrong w) e h =
      ap (judged m) moved ∙ judged_by m l rest status good known (rest ++ u) ∙ ap (after_fields m l rest status good known (length (l ++ (13 ∷ 10 ∷ (rest ++ u))))) (fields_wrong field_limit (length l + 2) rest w e u)

status_err : (m l rest u : Text) (o : Option Status) → T (clean l) → status_of l ≡ o → length ((l ++ (13 ∷ 10 ∷ rest)) ++ u) ≤ window → judged m (l ++ (13 ∷ 10 ∷ rest)) ≡ Err record {} → judged m ((l ++ (13 ∷ 10 ∷ rest)) ++ u) ≡ Err record {}
status_err m l rest u None good known room h =
    ap (judged m) (append_assoc l (13 ∷ 10 ∷ rest) u) ∙ ap (on_first m (l ++ (13 ∷ 10 ∷ (rest ++ u)))) (line_cut l (rest ++ u) good) ∙ ap (on_status m (l ++ (13 ∷ 10 ∷ (rest ++ u))) (length l)) known
status_err m l rest u (Some status) good known room h =
    err_by m l rest u status good known room (fields_from field_limit (length l + 2) rest) refl (sym (judged_by m l rest status good known rest) ∙ h)

cut_err : (m w u : Text) (c : LineCut) → cut_line w ≡ c → length (w ++ u) ≤ window → judged m w ≡ Err record {} → judged m (w ++ u) ≡ Err record {}
cut_err m w u short e room h = ap (judged m) (full w u room (unended_err (length w) (sym (ap (on_first m w) e) ∙ h))) ∙ h
cut_err m w u (stray n) e room h = ap (on_first m (w ++ u)) (stray_more w u n e).0
cut_err m w u (whole l rest) e room h =
    let f = (whole_line w l rest).0 e in
    subst (λ x. judged m (x ++ u) ≡ Err record {}) (sym f.1) (status_err m l rest u (status_of l) f.0 refl (subst (λ x. length (x ++ u) ≤ window) f.1 room) (ap (judged m) (sym f.1) ∙ h))

pub head_err : (m w u : Text) → length (w ++ u) ≤ window → judged m w ≡ Err record {} → judged m (w ++ u) ≡ Err record {}
head_err m w u room h = cut_err m w u (cut_line w) refl room h

-- of a head that has not ended less has come than the window has
unended_none : (n : ℕ) → unended_at n ≡ Ok None → n < window
unended_none n h = cond_both (ltb n window) (Ok None) (Err record {}) (λ (x : Result (Option Judged) Unreadable). x ≡ Ok None → n < window) (λ z g. ltb-true n window z) (λ z g. cc) h

readable_none : {P : Type 0} (r : Result Due Unreadable) (status : Status) (b : Bool) (line len : ℕ) → readable r (λ due. Ok (Some (judged_as status b line len due))) ≡ Ok None → P
readable_none (Ok due) status b line len h = cc
readable_none (Err u) status b line len h = cc

fields_none : (m : Text) (status : Status) (line n : ℕ) (f : Found) → on_fields m status line n f ≡ Ok None → n < window
fields_none m status line n (ended fs end) h = readable_none (due_of (has_body status m) fs) status (has_body status m) line end h
fields_none m status line n more h = unended_none n h
fields_none m status line n (wrong w) h = cc

status_none : (m w : Text) (line : ℕ) (o : Option Status) → on_status m w line o ≡ Ok None → length w < window
status_none m w line None h = cc
status_none m w line (Some status) h = fields_none m status line (length w) (fields_in field_limit w (line + 2)) h

first_none : (m w : Text) (c : LineCut) → on_first m w c ≡ Ok None → length w < window
first_none m w short h = unended_none (length w) h
first_none m w (stray n) h = cc
first_none m w (whole l rest) h = status_none m w (length l) (status_of l) h

pub unended_room : (m w : Text) → judged m w ≡ Ok None → length w < window
unended_room m w h = first_none m w (cut_line w) h
