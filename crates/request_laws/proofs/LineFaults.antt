-- What is found in field lines is what the grammar says: all of them, that more is wanted, or the first that is wrong.
use Rattle.std.proofs.Common.{◌≡◌, ℕ, zero, suc, ◌+◌, ◌-◌, ◌≤◌, Bool, true, false, cond, T, eqb, ◌⊎◌, List, [], ◌∷◌, ◌++◌, length, take, drop, Ok, Err, Result, sym, refl, ap, ◌∙◌, subst, ap₂, inl, inr, append_assoc, append-nil, add-zero, arith}
use native.Mathlib.Nat.{sub-zero}
use Rattle.std.specs.List.{prefix_len}
use Rattle.std.proofs.lemmas.List.{length-append, nil_from_length, take_at}
use Rattle.std.proofs.lemmas.Bool.{cond_both, eqb-true, eqb-false}
use Rattle.text.specs.Bytes.{Text, all, clean, blank, nonempty}
use Rattle.text.specs.Cuts.{LineCut, whole, short, stray, cut_line}
use Rattle.text_laws.specs.Laws.{Strays}
use Rattle.text_laws.proofs.Lines.{whole_line, short_line, stray_line}
use Rattle.message.specs.Hops.{field_of}
use Rattle.message.specs.Sent.{Sent, Found, ended, more, wrong, with_fields, on_line, on_cut, check_field, check_line, sent_at, line_then, fields_from}
use Rattle.message.specs.declared.fault.Flaw.{Flaw}
use Rattle.message.proofs.Reading.{with_none, with_more, line_wrong}
use Rattle.request_laws.specs.Faults.{LineEnds, crlf, stray as strayEnd, Unended, LinesPlaced, none, line, AsFields, FieldLineIn}
use Rattle.request_laws.specs.HeadLaws.{HeadSpelled, FieldsRead}
use Rattle.request_laws.specs.Lines as lines
use Rattle.request_laws.specs.Lines.{FieldSpelled, LinesSpelled}
use Rattle.request_laws.proofs.Leads.{nonempty_by}
use Rattle.request_laws.proofs.Fields.{field_read, field_spelled, field_stray, field_colon}
use Rattle.request_laws.proofs.Lines.{cut_first, line_first, field_first, fields_spelled}

-- A text t at the place at is good lines, and then rest at the place to.
pub record Through (at : ℕ) (t : Text) (fs : List Sent) (to : ℕ) (rest : Text) : Type 0 where
  pub lines : Text
  pub placed : LinesPlaced at lines fs
  pub text : t ≡ lines ++ rest
  pub place : to ≡ at + length lines

-- what is found where at most k lines are allowed, by the grammar
abbrev pub Reads : ℕ → ℕ → Text → Found → Type 0
Reads k at t (ended fs end) = (to : ℕ) × (rest : Text) × Through at t fs to (13 ∷ 10 ∷ rest) × (length fs ≤ k) × (end ≡ to + 2)
Reads k at t more = (fs : List Sent) × (to : ℕ) × (rest : Text) × Through at t fs to rest × (length fs ≤ k) × Unended rest
Reads k at t (wrong v) =
    (fs : List Sent) × (to : ℕ) × (rest l : Text) × (e : Bool) × Through at t fs to rest × (length fs ≤ k) × FieldLineIn rest l e × (check_line (k - length fs) to l e ≡ Err v)

-- no line yet
at_once : (at : ℕ) (t : Text) → Through at t [] at t
at_once at t = record { lines = []; placed = none; text = refl; place = sym (add-zero at) }

-- one more line in front
one_line : (at n to : ℕ) (l t rest : Text) (fs : List Sent) → check_field at l true ≡ Ok n → Through (at + (length l + 2)) t fs to rest → Through at (l ++ (13 ∷ 10 ∷ t)) (sent_at at n l ∷ fs) to rest
one_line at n to l t rest fs e h =
    let name : length (take n l) ≡ n = field_colon at l n e in
    let value : at + n + 1 + prefix_len blank (drop (n + 1) l) ≡ at + (length (take n l) + 1 + prefix_len blank (drop (length (take n l) + 1) l)) = rw name (omega arith) in
    record {
      lines = l ++ (13 ∷ 10 ∷ h.lines);
      placed = line l h.lines (field_read at l n e) refl value h.placed;
      text = ap (λ u. l ++ (13 ∷ 10 ∷ u)) h.text ∙ sym (append_assoc l (13 ∷ 10 ∷ h.lines) rest);
      place = simp length-append (omega (arith, h.place));
    }

more_reads : (k at n : ℕ) (l t : Text) (x : Found) → check_field at l true ≡ Ok n → Reads k (at + (length l + 2)) t x → Reads (suc k) at (l ++ (13 ∷ 10 ∷ t)) (with_fields (sent_at at n l ∷ []) x)
more_reads k at n l t (ended fs end) e h = (h.0, h.1, one_line at n h.0 l t (13 ∷ 10 ∷ h.1) fs e h.2, omega (arith, h.3), h.4)
more_reads k at n l t more e h = (sent_at at n l ∷ h.0, h.1, h.2, one_line at n h.1 l t h.2 h.0 e h.3, omega (arith, h.4), h.5)
more_reads k at n l t (wrong v) e h =
    let left : suc k - suc (length h.0) ≡ k - length h.0 = omega arith in
    (sent_at at n l ∷ h.0, h.1, h.2, h.3, h.4, one_line at n h.1 l t h.2 h.0 e h.5, omega (arith, h.6), h.7, ap (λ j. check_line j h.1 h.3 h.4) left ∙ h.8)

-- a line that is wrong at once
wrong_once : (k at : ℕ) (t l : Text) (e : Bool) (v : Flaw) → FieldLineIn t l e → check_line k at l e ≡ Err v → Reads k at t (wrong v)
wrong_once k at t l e v i c = ([], at, t, l, e, at_once at t, omega arith, i, ap (λ j. check_line j at l e) (sub-zero k) ∙ c)

on_stray : (k at : ℕ) (t l s : Text) (r : Result ℕ Flaw) → T (clean l) → t ≡ l ++ s → Strays s → check_line k at l false ≡ r → Reads k at t (on_line r (λ _. more))
on_stray k at t l s (Ok n) h j x e = absurd (field_stray k at l n e)
on_stray k at t l s (Err v) h j x e = wrong_once k at t l false v (record { behind = s; ends = strayEnd x; tidy = h; text = j }, inr refl) e

on_cut_so : (k at : ℕ) (t : Text) (go : Text → Text → Found) (c : LineCut) → cut_line t ≡ c →
    ((l rest : Text) → T (clean l) → T (nonempty l) → Reads k at (l ++ (13 ∷ 10 ∷ rest)) (go l rest)) → Reads k at t (on_cut k at t go c)
on_cut_so k at t go short e f = ([], at, t, at_once at t, omega arith, (short_line t).0 e)
on_cut_so k at t go (stray n) e f =
    let h = (stray_line t n).0 e in
    let is : take n t ≡ h.0 = ap (take n) h.4 ∙ take_at h.0 h.1 n h.3 in
    on_stray k at t h.0 h.1 (check_line k at (take n t) false) h.2 h.4 h.5 (ap (λ u. check_line k at u false) (sym is))
on_cut_so k at t go (whole l rest) e f =
    let h = (whole_line t l rest).0 e in
    subst (λ u. Reads k at u (cond (eqb (length l) 0) (ended [] (at + 2)) (go l rest))) (sym h.1)
    (cond_both (eqb (length l) 0) (ended [] (at + 2)) (go l rest) (Reads k at (l ++ (13 ∷ 10 ∷ rest)))
    (λ z. (at, rest, subst (λ u. Through at (u ++ (13 ∷ 10 ∷ rest)) [] at (13 ∷ 10 ∷ rest)) (sym (nil_from_length l (eqb-true (length l) 0 z))) (at_once at (13 ∷ 10 ∷ rest)), omega arith, refl))
    (λ z. let no = eqb-false (length l) 0 z in f l rest h.0 (nonempty_by l (omega (arith, no)))))

-- a line that CR LF ends
whole_in_so : (l rest : Text) → T (clean l) → T (nonempty l) → FieldLineIn (l ++ (13 ∷ 10 ∷ rest)) l true
whole_in_so l rest h n = (record { behind = 13 ∷ 10 ∷ rest; ends = crlf; tidy = h; text = refl }, inl n)

on_first_so : (k at : ℕ) (l rest : Text) → T (clean l) → T (nonempty l) → ((to : ℕ) (t : Text) → Reads k to t (fields_from k to t)) → (r : Result ℕ Flaw) → check_field at l true ≡ r →
    Reads (suc k) at (l ++ (13 ∷ 10 ∷ rest)) (on_line r (λ n. with_fields (sent_at at n l ∷ []) (fields_from k (at + (length l + 2)) rest)))
on_first_so k at l rest h i go (Ok n) e = more_reads k at n l rest (fields_from k (at + (length l + 2)) rest) e (go (at + (length l + 2)) rest)
on_first_so k at l rest h i go (Err v) e = wrong_once (suc k) at (l ++ (13 ∷ 10 ∷ rest)) l true v (whole_in_so l rest h i) (unfold check_line in e)

-- what is found is so
pub reads : (k at : ℕ) (t : Text) → Reads k at t (fields_from k at t)
unfolding line_then
reads zero at t = on_cut_so zero at t (line_then zero at) (cut_line t) refl (λ l rest h i. wrong_once zero at (l ++ (13 ∷ 10 ∷ rest)) l true _ (whole_in_so l rest h i) (unfold check_line in refl))
reads (suc k) at t = on_cut_so (suc k) at t (line_then (suc k) at) (cut_line t) refl (λ l rest h i. on_first_so k at l rest h i (reads k) (check_field at l true) refl)

-- field lines are spelled, whatever their places
pub lines_spelled : {at : ℕ} {t : Text} {fs : List Sent} → LinesPlaced at t fs → LinesSpelled t (AsFields fs)
lines_spelled none = lines.none
lines_spelled (line l t s here value next) = lines.line l t s (lines_spelled next)

-- so the fields that are found are those of the lines
pub fields_read : (k at : ℕ) (t : Text) (fs : List Sent) (end : ℕ) → fields_from k at t ≡ ended fs end → HeadSpelled k at t fs end
fields_read k at t fs end e =
    let r = subst (Reads k at t) e (reads k at t) in
    (r.2.lines, r.1, r.2.text, lines_spelled r.2.placed, r.3, omega (arith, r.4, r.2.place))

-- a field that has the places of its line is the one that is found in it
is_sent : (at : ℕ) (l : Text) (f : Sent) → FieldSpelled l (field_of f) → f.at ≡ at → f.value_at ≡ at + (length f.name + 1 + prefix_len blank (drop (length f.name + 1) l)) → sent_at at (length f.name) l ≡ f
is_sent at l f s here value =
    let n = length f.name in
    let is = (field_spelled at l (field_of f) s).1 in
    let name : take n l ≡ f.name = ap (λ g. g.name) is in
    let trims = ap (λ g. g.value) is in
    let there : at + n + 1 + prefix_len blank (drop (n + 1) l) ≡ f.value_at = omega arith in
    ap₂ (λ x y. record { name = x; value = y; at = at; value_at = at + n + 1 + prefix_len blank (drop (n + 1) l) }) name trims
    ∙ ap₂ (λ x y. record { name = f.name; value = f.value; at = x; value_at = y }) (sym here) there

-- one line, and what is found behind it
one_found : (k at : ℕ) (l t : Text) (f : Sent) → FieldSpelled l (field_of f) → sent_at at (length f.name) l ≡ f → fields_from (suc k) at (l ++ (13 ∷ 10 ∷ t)) ≡ with_fields (f ∷ []) (fields_from k (at + (length l + 2)) t)
one_found k at l t f s is = field_first k at l t (field_of f) s ∙ ap (λ g. with_fields (g ∷ []) (fields_from k (at + (length l + 2)) t)) is

-- good lines are found, and then what stands behind them
lines_found : (k at : ℕ) (lines rest : Text) (fs : List Sent) → LinesPlaced at lines fs → length fs ≤ k → fields_from k at (lines ++ rest) ≡ with_fields fs (fields_from (k - length fs) (at + length lines) rest)
lines_found k at lines rest fs none h = ap₂ (λ j to. fields_from j to rest) (sym (sub-zero k)) (sym (add-zero at)) ∙ sym (with_none (fields_from (k - 0) (at + 0) rest))
lines_found zero at lines rest fs (line l t s here value next) h = absurd (omega arith)
lines_found (suc k) at lines rest fs (line l t {f} {fs = gs} s here value next) h =
    let left : k - length gs ≡ suc k - suc (length gs) = omega arith in
    let to : at + (length l + 2) + length t ≡ at + length (l ++ (13 ∷ 10 ∷ t)) = simp length-append (omega arith) in
    ap (fields_from (suc k) at) (append_assoc l (13 ∷ 10 ∷ t) rest) ∙ one_found k at l (t ++ rest) f s (is_sent at l f s here value)
    ∙ ap (with_fields (f ∷ [])) (lines_found k (at + (length l + 2)) t rest gs next (omega arith)) ∙ with_more (f ∷ []) gs (fields_from (k - length gs) (at + (length l + 2) + length t) rest)
    ∙ ap₂ (λ j p. with_fields (f ∷ gs) (fields_from j p rest)) left to

through_found : (k at : ℕ) (t : Text) (fs : List Sent) (to : ℕ) (rest : Text) → Through at t fs to rest → length fs ≤ k → fields_from k at t ≡ with_fields fs (fields_from (k - length fs) to rest)
through_found k at t fs to rest h few =
    ap (fields_from k at) h.text ∙ lines_found k at h.lines rest fs h.placed few ∙ ap (λ p. with_fields fs (fields_from (k - length fs) p rest)) (sym h.place)

-- a stray byte is where the cut is made
pub cut_stray : (t l s : Text) → T (clean l) → Strays s → t ≡ l ++ s → (cut_line t ≡ stray (length l)) × (take (length l) t ≡ l)
cut_stray t l s h x e = ((stray_line t (length l)).1 (l, s, h, refl, e, x), ap (take (length l)) e ∙ take_at l s (length l) refl)

-- a line that is wrong is found so
wrong_found : (k at : ℕ) (t l behind : Text) (e : Bool) (v : Flaw) → LineEnds e behind → T (clean l) → t ≡ l ++ behind → T (nonempty l) ⊎ (e ≡ false) → check_line k at l e ≡ Err v → fields_from k at t ≡ wrong v
wrong_found k at t l behind e v (crlf {rest}) h j (inl n) c = ap (fields_from k at) j ∙ line_first k at l rest h n ∙ line_wrong k at l rest v (sym c)
wrong_found k at t l behind e v (crlf {rest}) h j (inr n) c = cc
wrong_found k at t l behind e v (strayEnd x) h j n c =
    let s = cut_stray t l behind h x j in
    ap (on_cut k at t (line_then k at)) s.0 ∙ ap (λ u. on_line (check_line k at u false) (λ _. more)) s.1 ∙ ap (λ r. on_line r (λ _. more)) c

-- what is so is found
pub reads_found : (k at : ℕ) (t : Text) (x : Found) → Reads k at t x → fields_from k at t ≡ x
reads_found k at t (ended fs end) h =
    through_found k at t fs h.0 (13 ∷ 10 ∷ h.1) h.2 h.3 ∙ ap (with_fields fs) (cut_first (k - length fs) h.0 [] h.1 (unfold all in tt)) ∙ ap₂ ended (append-nil fs) (sym h.4)
reads_found k at t more h =
    let j = k - length h.0 in
    through_found k at t h.0 h.1 h.2 h.3 h.4 ∙ ap (λ c. with_fields h.0 (on_cut j h.1 h.2 (line_then j h.1) c)) ((short_line h.2).1 h.5)
reads_found k at t (wrong v) h =
    let i = h.7.0 in
    through_found k at t h.0 h.1 h.2 h.5 h.6 ∙ ap (with_fields h.0) (wrong_found (k - length h.0) h.1 h.2 h.3 i.behind h.4 v i.ends i.tidy i.text h.7.1 h.8)

-- the law of field lines
pub fields : FieldsRead
fields = (fields_read, fields_spelled)
