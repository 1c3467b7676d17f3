-- A head that is spelled as the grammar says is found; and what is found of one.
use Rattle.std.proofs.Common.{◌≡◌, ℕ, ◌+◌, ◌-◌, ◌≤◌, ltb, List, [], ◌∷◌, ◌++◌, map, length, take, drop, Some, None, Ok, Option, Result, sym, refl, ap, ◌∙◌, append_assoc, arith}
use Rattle.std.proofs.lemmas.Bool.{cond_both}
use Rattle.std.proofs.lemmas.List.{take-append-drop, length-append, length-map, take_all}
use Rattle.text.specs.Bytes.{Text}
use Rattle.text.specs.Cuts.{LineCut, whole, short, stray, cut_line}
use Rattle.text_laws.proofs.Lines.{whole_line}
use Rattle.message.specs.Fields.{Field}
use Rattle.message.specs.Hops.{field_of}
use Rattle.message.specs.Sent.{Sent, Found, ended, more, wrong, fields_from, fields_in}
use Rattle.message.specs.declared.body.Due.{Due}
use Rattle.request.specs.Canonical.{field_limit}
use Rattle.request.specs.Heads.{window}
use Rattle.request_laws.specs.Lines.{LinesSpelled}
use Rattle.request_laws.proofs.Leads.{take_joined}
use Rattle.request_laws.proofs.LineFaults.{fields_read}
use Rattle.request_laws.proofs.Lines.{fields_spelled}
use Rattle.request_laws.proofs.WholeHead.{fields_begin}
use Rattle.response.specs.Heads.{due_of, unended_at, judged_as, on_fields, on_status, on_first, judged}
use Rattle.response.specs.Status.{status_of, has_body}
use Rattle.response.specs.declared.head.Head.{Head}
use Rattle.response.specs.declared.head.Judged.{Judged}
use Rattle.response.specs.declared.head.Unreadable.{Unreadable}
use Rattle.response.specs.declared.status.Status.{Status}
use Rattle.response_laws.specs.Grammar.{StatusSpelled}
use Rattle.response_laws.proofs.Dues.{DueAs, readable_ok, readable_so, due_read, due_spelled}
use Rattle.response_laws.proofs.StatusLines.{status_read, status_clean}

-- a head, and what stands behind it
abbrev pub headed : Text → Text → Text → Text
headed l lines rest = l ++ (13 ∷ 10 ∷ (lines ++ (13 ∷ 10 ∷ rest)))

pub headed_on : (l lines rest tail : Text) → headed l lines rest ++ tail ≡ headed l lines (rest ++ tail)
headed_on l lines rest tail = append_assoc l (13 ∷ 10 ∷ (lines ++ (13 ∷ 10 ∷ rest))) tail ∙ ap (λ u. l ++ (13 ∷ 10 ∷ u)) (append_assoc lines (13 ∷ 10 ∷ rest) tail)

pub headed_long : (l lines rest : Text) → length (headed l lines rest) ≡ length l + 2 + (length lines + 2) + length rest
headed_long l lines rest =
    let a = length-append l (13 ∷ 10 ∷ (lines ++ (13 ∷ 10 ∷ rest))) in
    let b = length-append lines (13 ∷ 10 ∷ rest) in
    a ∙ omega (arith, b)

-- where it stands in the window, it stands in front of all that has come
pub headed_all : (s l lines rest : Text) → take window s ≡ headed l lines rest → s ≡ headed l lines [] ++ (rest ++ drop window s)
headed_all s l lines rest e =
    sym (take-append-drop window s) ∙ ap (λ u. u ++ drop window s) e ∙ headed_on l lines rest (drop window s) ∙ sym (headed_on l lines [] (rest ++ drop window s))

-- and where it is short enough, it stands in the window
pub headed_in : (l lines tail : Text) (n : ℕ) → length (headed l lines []) ≤ n →
    take n (headed l lines tail) ≡ headed l lines (take (n - length (headed l lines [])) tail)
headed_in l lines tail n h =
    let w = headed l lines [] in
    ap (take n) (sym (headed_on l lines [] tail)) ∙ take_joined n w tail ∙ ap (λ u. u ++ take (n - length w) tail) (take_all n w h) ∙ headed_on l lines [] (take (n - length w) tail)

-- how long it is, and where its parts stand
abbrev pub head_of : Text → Status → Text → Text → Head
head_of m s l lines = record { status = s; bodied = has_body s m; line = length l; len = length (headed l lines []) }

-- the bytes w begin with a head as the grammar has it, and this is what was found of it
pub record HeadIs (m w : Text) (j : Judged) : Type 0 where
  pub line : Text
  pub status : Status
  pub fields : List Field
  pub lines : Text
  pub rest : Text
  pub due : Due
  pub status_good : StatusSpelled line status
  pub lines_good : LinesSpelled lines fields
  pub few : length fields ≤ field_limit
  pub due_good : DueAs m status fields due
  pub text : w ≡ headed line lines rest
  pub is : j ≡ record { head = head_of m status line lines; due = due }

unended_none : (n : ℕ) (j : Judged) {C : Type 0} → unended_at n ≡ Ok (Some j) → C
unended_none n j {C} = cond_both (ltb n window) _ _ (λ r. r ≡ Ok (Some j) → C) (λ h e. cc) (λ h e. cc)

-- fields that were found, and what is due behind them
fields_tell : (m w l rest : Text) (s : Status) (j : Judged) (gs : List Sent) (len : ℕ) → StatusSpelled l s → w ≡ l ++ (13 ∷ 10 ∷ rest) →
    fields_from field_limit (length l + 2) rest ≡ ended gs len →
    on_fields m s (length l) (length w) (ended gs len) ≡ Ok (Some j) → HeadIs m w j
fields_tell m w l rest s j gs len good text found e =
    let h = fields_read field_limit (length l + 2) rest gs len found in
    let lines = h.0 in
    let long : len ≡ length (headed l lines []) = h.5 ∙ omega (arith, headed_long l lines []) in
    readable_ok (due_of (has_body s m) gs) (λ due. Ok (Some (judged_as s (has_body s m) (length l) len due))) (Some j)
    (λ due d k. record {
      line = l;
      status = s;
      fields = map field_of gs;
      lines = lines;
      rest = h.1;
      due = due;
      status_good = good;
      lines_good = h.3;
      few = simp length-map h.4;
      due_good = due_read m s gs due (has_body s m) refl d;
      text = text ∙ ap (λ u. l ++ (13 ∷ 10 ∷ u)) h.2;
      is = cc;
    }) e

found_tell : (m w l rest : Text) (s : Status) (j : Judged) (f : Found) → StatusSpelled l s → w ≡ l ++ (13 ∷ 10 ∷ rest) →
    fields_from field_limit (length l + 2) rest ≡ f → on_fields m s (length l) (length w) f ≡ Ok (Some j) → HeadIs m w j
found_tell m w l rest s j (ended gs len) good text found e = fields_tell m w l rest s j gs len good text found e
found_tell m w l rest s j more good text found e = unended_none (length w) j e
found_tell m w l rest s j (wrong v) good text found e = cc

status_tell : (m w l rest : Text) (j : Judged) (o : Option Status) → status_of l ≡ o → w ≡ l ++ (13 ∷ 10 ∷ rest) →
    on_status m w (length l) o ≡ Ok (Some j) → HeadIs m w j
status_tell m w l rest j None o text e = cc
status_tell m w l rest j (Some s) o text e =
    let found : fields_in field_limit w (length l + 2) ≡ fields_from field_limit (length l + 2) rest = ap (λ u. fields_in field_limit u (length l + 2)) text ∙ fields_begin l rest in
    found_tell m w l rest s j (fields_in field_limit w (length l + 2)) ((status_read l s).0 o) text (sym found) e

cut_tell : (m w : Text) (j : Judged) (c : LineCut) → cut_line w ≡ c → on_first m w c ≡ Ok (Some j) → HeadIs m w j
cut_tell m w j short f e = unended_none (length w) j e
cut_tell m w j (stray n) f e = cc
cut_tell m w j (whole l rest) f e = status_tell m w l rest j (status_of l) refl ((whole_line w l rest).0 f).1 e

-- a head that is found is as the grammar has it
pub head_read : (m w : Text) (j : Judged) → judged m w ≡ Ok (Some j) → HeadIs m w j
head_read m w j e = cut_tell m w j (cut_line w) refl e

-- the fields of a head are found in it
pub fields_there : (l lines rest : Text) (fs : List Field) → LinesSpelled lines fs → length fs ≤ field_limit →
    (gs : List Sent) × (fields_in field_limit (headed l lines rest) (length l + 2) ≡ ended gs (length (headed l lines []))) × (map field_of gs ≡ fs)
fields_there l lines rest fs good few =
    let h = fields_spelled field_limit (length l + 2) lines rest fs good few in
    let long : length l + 2 + (length lines + 2) ≡ length (headed l lines []) = omega (arith, headed_long l lines []) in
    (h.0, fields_begin l (lines ++ (13 ∷ 10 ∷ rest)) ∙ h.1 ∙ ap (ended h.0) long, h.2)

-- a head that the grammar has is found
pub head_spelled : (m l lines rest : Text) (s : Status) (fs : List Field) (due : Due) → StatusSpelled l s → LinesSpelled lines fs →
    length fs ≤ field_limit → DueAs m s fs due →
    judged m (headed l lines rest) ≡ Ok (Some (record { head = head_of m s l lines; due = due }))
head_spelled m l lines rest s fs due status good few d =
    let w = headed l lines rest in
    let f = fields_there l lines rest fs good few in
    let last : Due → Result (Option Judged) Unreadable = λ due. Ok (Some (judged_as s (has_body s m) (length l) (length (headed l lines [])) due)) in
    ap (on_first m w) ((whole_line w l (lines ++ (13 ∷ 10 ∷ rest))).1 (status_clean l s status, refl))
    ∙ ap (on_status m w (length l)) ((status_read l s).1 status)
    ∙ ap (on_fields m s (length l) (length w)) f.1
    ∙ readable_so last (due_spelled m s f.0 due (rw f.2 d))
