-- A head that is spelled as the grammar says is let pass; and what is found of one that is.
use Rattle.std.proofs.Common.{◌≡◌, ℕ, ◌+◌, ◌-◌, ◌≤◌, not, T, eqb, leb, List, [], ◌∷◌, ◌++◌, map, length, take, drop, Some, None, Ok, Option, Result, sym, refl, ap, ◌∙◌, append_assoc, arith}
use Rattle.std.proofs.lemmas.List.{take-append-drop, length-append, take_at, drop_at, drop-drop}
use Rattle.std.proofs.lemmas.Bool.{cond-true, le-leb}
use Rattle.text.specs.Bytes.{Text, all, clean, upper}
use Rattle.text.specs.Cuts.{whole, cut_line}
use Rattle.text.proofs.Passing.{and_r, all_append, clean_by}
use Rattle.text_laws.proofs.Lines.{whole_line}
use Rattle.message.specs.Faults.{onward}
use Rattle.message.specs.Fields.{Field}
use Rattle.message.specs.Framing.{framed}
use Rattle.message.specs.Hops.{field_of}
use Rattle.message.specs.Sent.{Sent, ended, fields_from, fields_in}
use Rattle.message.specs.declared.body.Due.{Due}
use Rattle.message.specs.declared.fault.Flaw.{Flaw}
use Rattle.request.specs.Canonical.{carries_body, field_limit, canonical_method, begins_with_slash, first_line, version}
use Rattle.request.specs.Heads.{window, due_of, judged_fields, judged_as, on_fields, on_first, judged}
use Rattle.request.specs.Hosts.{server_of}
use Rattle.request.specs.declared.first.First.{First}
use Rattle.request.specs.declared.head.Head.{Head}
use Rattle.request.specs.declared.head.Judged.{Judged}
use Rattle.request_laws.specs.Lines.{LinesSpelled, HostSpelled}
use Rattle.request_laws.proofs.Onward.{onward_ok, onward_so}
use Rattle.request_laws.proofs.First.{first_spelled}
use Rattle.request_laws.proofs.Lines.{fields_spelled}
use Rattle.request_laws.proofs.Dues.{DueAs, due_read, due_spelled}
use Rattle.request_laws.proofs.HostFaults.{host_read}
use Rattle.request_laws.proofs.Hosts.{host_spelled}

-- a head, and what stands behind it
abbrev pub headed : Text → Text → Text → Text → Text
headed m t lines rest = first_line m t ++ (13 ∷ 10 ∷ (lines ++ (13 ∷ 10 ∷ rest)))

pub headed_on : (m t lines rest tail : Text) → headed m t lines rest ++ tail ≡ headed m t lines (rest ++ tail)
headed_on m t lines rest tail =
    append_assoc (first_line m t) (13 ∷ 10 ∷ (lines ++ (13 ∷ 10 ∷ rest))) tail ∙ ap (λ u. first_line m t ++ (13 ∷ 10 ∷ u)) (append_assoc lines (13 ∷ 10 ∷ rest) tail)

-- where it stands in the window, it stands in front of all that has come
pub headed_all : (s m t lines rest : Text) → take window s ≡ headed m t lines rest → s ≡ headed m t lines [] ++ (rest ++ drop window s)
headed_all s m t lines rest e =
    sym (take-append-drop window s) ∙ ap (λ u. u ++ drop window s) e ∙ headed_on m t lines rest (drop window s) ∙ sym (headed_on m t lines [] (rest ++ drop window s))

-- how long it is, and where its parts stand
abbrev pub head_of : Text → Text → Text → ℕ → Head
head_of m t lines k = record { len = length (headed m t lines []); method = length m; target = length t; fields = length (first_line m t) + 2; server = k }

-- what is found of fields that went well is good
pub record Told (names : List Text) (m : Text) (fs : List Sent) (len : ℕ) (found : ℕ × Due) : Type 0 where
  pub server : ℕ
  pub due : Due
  pub host : HostSpelled names (map field_of fs) server
  pub due_good : DueAs m (map field_of fs) len due
  pub is : found ≡ (server, due)

pub fields_tell : (names : List Text) (m : Text) (fs : List Sent) (len : ℕ) (found : ℕ × Due) → judged_fields names m fs len ≡ Ok found → Told names m fs len found
fields_tell names m fs len found =
    onward_ok (server_of names (len - 2) fs) _ found (λ k host next.
    onward_ok (framed None fs) _ found (λ said framing due.
    onward_ok (due_of (carries_body m) said len) _ found (λ d due-is pair.
    record { server = k; due = d; host = host_read names fs len k host; due_good = due_read m fs len d (carries_body m) said refl framing due-is; is = cc }) due) next)

-- the fields are looked for behind the first line
pub fields_begin : (l rest : Text) → fields_in field_limit (l ++ (13 ∷ 10 ∷ rest)) (length l + 2) ≡ fields_from field_limit (length l + 2) rest
fields_begin l rest =
    let w = l ++ (13 ∷ 10 ∷ rest) in
    let long : length l + 2 ≤ length w = simp length-append (omega arith) in
    let behind : drop (length l + 2) w ≡ rest = sym (drop-drop 2 (length l) w) ∙ ap (drop 2) (drop_at l (13 ∷ 10 ∷ rest) (length l) refl) in
    cond-true (leb (length l + 2) (length w)) _ _ (le-leb (length l + 2) (length w) long) ∙ ap (fields_from field_limit (length l + 2)) behind

pub headed_long : (m t lines : Text) → length (headed m t lines []) ≡ length (first_line m t) + 2 + (length lines + 2)
headed_long m t lines =
    let a = length-append (first_line m t) (13 ∷ 10 ∷ (lines ++ (13 ∷ 10 ∷ []))) in
    let b = length-append lines (13 ∷ 10 ∷ []) in
    a ∙ omega (arith, b)

-- the numbers of a head by other names
pub judged_same : (first : First) (at len k : ℕ) (due : Due) (m t to end : ℕ) → m ≡ first.method → t ≡ first.target → at ≡ to → len ≡ end →
    judged_as first at len (k, due) ≡ record { head = record { len = end; method = m; target = t; fields = to; server = k }; due = due }
judged_same first at len k due m t to end a b c d = cc

-- a good first line has no CR and no LF
pub first_clean : (m t : Text) → T (canonical_method m) → T (clean t) → T (clean (first_line m t))
unfolding all
first_clean m t h g = all_append _ m (32 ∷ (t ++ (32 ∷ version))) (clean_by upper refl refl m (and_r _ (all upper m) h)) (all_append _ t (32 ∷ version) g tt)

-- the fields of a head are found in it
pub fields_there : (m t lines rest : Text) (fs : List Field) → LinesSpelled lines fs → length fs ≤ field_limit →
    (gs : List Sent) × (fields_in field_limit (headed m t lines rest) (length (first_line m t) + 2) ≡ ended gs (length (headed m t lines []))) × (map field_of gs ≡ fs)
fields_there m t lines rest fs good few =
    let l = first_line m t in
    let h = fields_spelled field_limit (length l + 2) lines rest fs good few in
    (h.0, fields_begin l (lines ++ (13 ∷ 10 ∷ rest)) ∙ h.1 ∙ ap (ended h.0) (sym (headed_long m t lines)), h.2)

-- what good fields say is good
told_good : (names : List Text) (m : Text) (fs : List Field) (gs : List Sent) (len k : ℕ) (due : Due) → map field_of gs ≡ fs → HostSpelled names fs k → DueAs m fs len due → judged_fields names m gs len ≡ Ok (k, due)
told_good names m fs gs len k due e host d =
    let s = due_spelled m gs len due (rw e d) in
    let server = host_spelled names (len - 2) gs k (rw e host) in
    onward_so (λ k. onward (framed None gs) (λ said. onward (due_of (carries_body m) said len) (λ due. Ok (k, due)))) server
    ∙ onward_so (λ said. onward (due_of (carries_body m) said len) (λ due. Ok (k, due))) s.1 ∙ onward_so (λ due. Ok (k, due)) s.2

-- a head that the grammar has is let pass
pub head_spelled : (names : List Text) (m t lines rest : Text) (fs : List Field) (k : ℕ) (due : Due) → T (canonical_method m) → T (begins_with_slash t) → T (all (λ c. not (eqb c 32)) t) → T (clean t) →
    LinesSpelled lines fs → length fs ≤ field_limit → HostSpelled names fs k → DueAs m fs (length (headed m t lines [])) due →
    judged names (headed m t lines rest) ≡ Ok (Some (record { head = head_of m t lines k; due = due }))
head_spelled names m t lines rest fs k due method slash spaceless clear good few host d =
    let l = first_line m t in
    let w = headed m t lines rest in
    let len = length (headed m t lines []) in
    let first : First = record { method = length m; target = length t } in
    let cut : cut_line w ≡ whole l (lines ++ (13 ∷ 10 ∷ rest)) = (whole_line w l (lines ++ (13 ∷ 10 ∷ rest))).1 (first_clean m t method clear, refl) in
    let f = fields_there m t lines rest fs good few in
    let gs = f.0 in
    let last : (ℕ × Due) → Result (Option Judged) Flaw = λ p. Ok (Some (judged_as first (length l + 2) len p)) in
    ap (on_first names w) cut
    ∙ onward_so (λ first. on_fields names l (length w) first (fields_in field_limit w (length l + 2))) (first_spelled m t method slash spaceless)
    ∙ ap (on_fields names l (length w) first) f.1
    ∙ ap (λ u. onward (judged_fields names u gs len) last) (take_at m (32 ∷ (t ++ (32 ∷ version))) (length m) refl)
    ∙ onward_so last (told_good names m fs gs len k due f.2 host d)
