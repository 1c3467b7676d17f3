-- A head, as far as it has come, is refused exactly where a line or the whole of it breaks the grammar.
use Rattle.std.proofs.Common.{◌≡◌, ℕ, suc, ◌+◌, ◌-◌, ◌<◌, ◌≤◌, Bool, true, false, T, ltb, ◌⊎◌, List, ◌∷◌, ◌++◌, length, take, drop, Some, None, Ok, Err, Option, Result, sym, refl, ap, ◌∙◌, subst, inl, inr, ⊎_elim, arith}
use Rattle.std.proofs.lemmas.List.{take_at}
use Rattle.std.proofs.lemmas.Result.{MatchResult-at_err}
use Rattle.std.proofs.lemmas.Bool.{cond_both, cases_lt, ltb-false, le-ltb}
use Rattle.text.specs.Bytes.{Text, all, clean}
use Rattle.text.specs.Cuts.{LineCut, whole, short, stray, cut_line}
use Rattle.text_laws.proofs.Lines.{whole_line, short_line, stray_line}
use Rattle.message.specs.Faults.{flaw, onward}
use Rattle.message.specs.Sent.{Sent, Found, ended, more, wrong, check_field, check_line, fields_from, fields_in}
use Rattle.message.specs.declared.fault.Fault.TheVariants.{FirstLine, TooLong}
use Rattle.message.specs.declared.fault.Flaw.{Flaw}
use Rattle.message_laws.specs.Breaks.{Breaks}
use Rattle.request.specs.Canonical.{field_limit, first_line, version}
use Rattle.request.specs.First.{check_first}
use Rattle.request.specs.Heads.{window, judged_fields, unended_at, judged_as, on_fields, on_first, judged}
use Rattle.request.specs.declared.first.First.{First}
use Rattle.request.specs.declared.head.Judged.{Judged}
use Rattle.request_laws.specs.FaultLaws.{HeadsRefused}
use Rattle.request_laws.specs.Faults.{LineEnds, crlf, stray as strayEnd, LineIn, Unended, GoodAsk, GoodFirst, Front, FieldLineIn, LineFault, first, too_many, long_name, malformed, first_unended, unended, HeadIn, HeadFault, host, framing, body}
use Rattle.request_laws.proofs.First.{first_read, first_spelled}
use Rattle.request_laws.proofs.FirstBreaks.{first_breaks, first_refused}
use Rattle.request_laws.proofs.FieldBreaks.{FieldWrong, field_breaks, long_refused, field_refused}
use Rattle.request_laws.proofs.LineFaults.{Through, Reads, reads, reads_found, cut_stray}
use Rattle.request_laws.proofs.HeadFaults.{Refuses, head_refuses, host_judged, framing_judged, body_judged}
use Rattle.request_laws.proofs.Leads.{all_front, all_behind}
use Rattle.request_laws.proofs.Onward.{onward_both}
use Rattle.request_laws.proofs.WholeHead.{first_clean, fields_begin}

-- THE LINES OF A HEAD

-- what a good first line is found to be
abbrev asked : Text → Text → First
asked m t = record { method = length m; target = length t }

target_clean : (m t : Text) → T (clean (first_line m t)) → T (clean t)
unfolding all
target_clean m t h = all_front _ t (32 ∷ version) (all_behind _ m (32 ∷ (t ++ (32 ∷ version))) h)

-- where a line more is allowed
line_allowed : (n at : ℕ) (l : Text) (e : Bool) → n < field_limit → check_line (field_limit - n) at l e ≡ check_field at l e
unfolding check_line
line_allowed n at l e h = let left : field_limit - n ≡ suc (field_limit - 1 - n) = omega arith in ap (λ k. check_line k at l e) left

none_allowed : (n at : ℕ) (l : Text) (e : Bool) → n ≡ field_limit → check_line (field_limit - n) at l e ≡ Err (flaw TooLong at)
unfolding check_line
none_allowed n at l e h = let left : field_limit - n ≡ 0 = omega arith in ap (λ k. check_line k at l e) left

-- WHAT IS REFUSED BREAKS THE GRAMMAR

module _ (names : List Text) (w : Text) (few : length w ≤ window) where
  abbrev Faulty : Flaw → Type 0
  Faulty v = LineFault w v ⊎ HeadFault names w v

  -- a head that has not ended
  unended_refuses : (length w ≡ window → LineFault w (flaw TooLong window)) → Refuses Faulty (unended_at (length w))
  unended_refuses fault = cond_both (ltb (length w) window) _ _ (Refuses Faulty) (λ _. tt) (λ e. let full = ltb-false (length w) window e in inl (fault (omega arith)))

  -- a first line
  first_refuses : (l : Text) (e : Bool) → LineIn w l e → (v : Flaw) → check_first l e ≡ Err v → Faulty v
  first_refuses l e line v c = let b = first_breaks l e v c in rw b.1 (inl (first l e b.0 line b.2))

  module _ (m t behind : Text) (ask : GoodAsk m t) (tidy : T (clean t)) (text : w ≡ first_line m t ++ (13 ∷ 10 ∷ behind)) where
    -- good lines behind a good first one
    good_front : (fs : List Sent) (to : ℕ) (rest : Text) → Through (length (first_line m t) + 2) behind fs to rest → length fs ≤ field_limit → Front w m t fs to rest
    good_front fs to rest h fits =
        record { ask = (ask, tidy); lines = h.lines; placed = h.placed; few = fits; text = text ∙ ap (λ u. first_line m t ++ (13 ∷ 10 ∷ u)) h.text; place = h.place }

    line_refuses : (fs : List Sent) (to : ℕ) (rest l : Text) (e : Bool) (v : Flaw) → Front w m t fs to rest → FieldLineIn rest l e → length fs < field_limit → FieldWrong to l e v → Faulty v
    line_refuses fs to rest l e v good line room (inl k) = rw k.1 (inl (long_name l e good room line k.0))
    line_refuses fs to rest l e v good line room (inr k) = rw k.1 (inl (malformed l e k.0 good room line k.2 k.3))

    too_many_refuses : (fs : List Sent) (to : ℕ) (rest l : Text) (e : Bool) (v : Flaw) → Front w m t fs to rest → FieldLineIn rest l e → length fs ≡ field_limit → check_line (field_limit - length fs) to l e ≡ Err v → Faulty v
    too_many_refuses fs to rest l e v good line full c =
        let fault = none_allowed (length fs) to l e full in
        let is : flaw TooLong to ≡ v = cc in
        subst Faulty is (inl (too_many l e good full line))

    found_refuses : (x : Found) → Reads field_limit (length (first_line m t) + 2) behind x → Refuses Faulty (on_fields names (first_line m t) (length w) (asked m t) x)
    found_refuses more h = unended_refuses (λ full. unended (good_front h.0 h.1 h.2 h.3 h.4) full h.5)
    found_refuses (wrong v) h =
        let fs = h.0 in
        let good = good_front fs h.1 h.2 h.5 h.6 in
        ⊎_elim (λ room. line_refuses fs h.1 h.2 h.3 h.4 v good h.7 room (field_breaks h.1 h.3 h.4 v (sym (line_allowed (length fs) h.1 h.3 h.4 room) ∙ h.8)))
        (λ over. too_many_refuses fs h.1 h.2 h.3 h.4 v good h.7 (let most = h.6 in omega arith) h.8) (cases_lt (length fs) field_limit)
    found_refuses (ended fs end) h =
        let go : _ → Result (Option Judged) Flaw = λ p. Ok (Some (judged_as (asked m t) (length (first_line m t) + 2) end p)) in
        let head : HeadIn w m t fs end = record { at = h.0; rest = h.1; front = good_front fs h.0 (13 ∷ 10 ∷ h.1) h.2 h.3; ends = h.4 } in
        let method : take (length m) (first_line m t) ≡ m = take_at m (32 ∷ (t ++ (32 ∷ version))) (length m) refl in
        subst (λ u. Refuses Faulty (onward (judged_fields names u fs end) go)) (sym method)
        (onward_both (Refuses Faulty) (judged_fields names m fs end) go (λ v e. inr (MatchResult-at_err (λ _. Unit {0}) (HeadFault names w) v e (head_refuses names w m t fs end head))) (λ _ _. tt))

    -- a good first line, and what is found behind it
    behind_refuses : Refuses Faulty (on_first names w (whole (first_line m t) behind))
    behind_refuses =
        let l = first_line m t in
        let read = first_spelled m t ask.0 ask.1 ask.2 in
        let begin : fields_in field_limit w (length l + 2) ≡ fields_from field_limit (length l + 2) behind = ap (λ u. fields_in field_limit u (length l + 2)) text ∙ fields_begin l behind in
        subst (λ r. Refuses Faulty (onward r (λ f. on_fields names l (length w) f (fields_in field_limit w (length l + 2))))) (sym read)
        (subst (λ x. Refuses Faulty (on_fields names l (length w) (asked m t) x)) (sym begin) (found_refuses (fields_from field_limit (length l + 2) behind) (reads field_limit (length l + 2) behind)))

  whole_refuses : (l rest : Text) → T (clean l) → w ≡ l ++ (13 ∷ 10 ∷ rest) → (r : Result First Flaw) → check_first l true ≡ r → Refuses Faulty (on_first names w (whole l rest))
  whole_refuses l rest tidy text (Err v) e =
      subst (λ r. Refuses Faulty (onward r (λ f. on_fields names l (length w) f (fields_in field_limit w (length l + 2))))) (sym e)
      (first_refuses l true (record { behind = 13 ∷ 10 ∷ rest; ends = crlf; tidy = tidy; text = text }) v e)
  whole_refuses l rest tidy text (Ok f) e =
      let s = first_read l f e in
      let m = take f.method l in
      let t = take f.target (drop (f.method + 1) l) in
      let clear : T (clean (first_line m t)) = subst (λ u. T (clean u)) s.text tidy in
      subst (λ u. Refuses Faulty (on_first names w (whole u rest))) (sym s.text) (behind_refuses m t rest s.parts (target_clean m t clear) (text ∙ ap (λ u. u ++ (13 ∷ 10 ∷ rest)) s.text))

  cut_refuses : (c : LineCut) → cut_line w ≡ c → Refuses Faulty (on_first names w c)
  cut_refuses short e = unended_refuses (λ full. first_unended full ((short_line w).0 e))
  cut_refuses (stray n) e =
      let h = (stray_line w n).0 e in
      let is : take n w ≡ h.0 = ap (take n) h.4 ∙ take_at h.0 h.1 n h.3 in
      let line : LineIn w (take n w) false = rw is (record { behind = h.1; ends = strayEnd h.5; tidy = h.2; text = h.4 }) in
      onward_both (Refuses Faulty) (check_first (take n w) false) (λ f. Ok None) (first_refuses (take n w) false line) (λ _ _. tt)
  cut_refuses (whole l rest) e = let h = (whole_line w l rest).0 e in whole_refuses l rest h.0 h.1 (check_first l true) refl

  pub judged_refuses : Refuses Faulty (judged names w)
  judged_refuses = cut_refuses (cut_line w) refl

-- WHAT BREAKS THE GRAMMAR IS REFUSED

-- a line that has ended or is stray, and is wrong
first_judged : (names : List Text) (w l behind : Text) (e : Bool) (p : ℕ) → LineEnds e behind → T (clean l) → w ≡ l ++ behind → Breaks GoodFirst l e p → judged names w ≡ Err (flaw FirstLine p)
first_judged names w l behind e p (crlf {rest}) tidy text b =
    ap (on_first names w) ((whole_line w l rest).1 (tidy, text)) ∙ ap (λ r. onward r (λ f. on_fields names l (length w) f (fields_in field_limit w (length l + 2)))) (first_refused l true p b)
first_judged names w l behind e p (strayEnd x) tidy text b =
    let go : First → Result (Option Judged) Flaw = λ f. Ok None in
    let s = cut_stray w l behind tidy x text in
    ap (on_first names w) s.0 ∙ ap (λ u. onward (check_first u false) go) s.1 ∙ ap (λ r. onward r go) (first_refused l false p b)

-- a head that does not end within the window
window_judged : (n : ℕ) → n ≡ window → unended_at n ≡ Err (flaw TooLong window)
window_judged n full = rw (le-ltb n window (omega arith))

module _ (names : List Text) (w m t : Text) (fs : List Sent) (at : ℕ) (rest : Text) (front : Front w m t fs at rest) where
  through : Through (length (first_line m t) + 2) (front.lines ++ rest) fs at rest
  through = record { lines = front.lines; placed = front.placed; text = refl; place = front.place }

  -- what is found behind good lines
  front_judged : (x : Found) → Reads field_limit (length (first_line m t) + 2) (front.lines ++ rest) x → judged names w ≡ on_fields names (first_line m t) (length w) (asked m t) x
  front_judged x h =
      let l = first_line m t in
      let behind = front.lines ++ rest in
      let ask = front.ask.0 in
      let tidy = first_clean m t ask.0 front.ask.1 in
      let fields : fields_in field_limit w (length l + 2) ≡ x = ap (λ u. fields_in field_limit u (length l + 2)) front.text ∙ fields_begin l behind ∙ reads_found field_limit (length l + 2) behind x h in
      ap (on_first names w) ((whole_line w l behind).1 (tidy, front.text))
      ∙ ap (λ r. onward r (λ f. on_fields names l (length w) f (fields_in field_limit w (length l + 2)))) (first_spelled m t ask.0 ask.1 ask.2)
      ∙ ap (on_fields names l (length w) (asked m t)) fields

  line_judged : (l : Text) (e : Bool) (v : Flaw) → FieldLineIn rest l e → check_line (field_limit - length fs) at l e ≡ Err v → judged names w ≡ Err v
  line_judged l e v line c = front_judged (wrong v) (fs, at, rest, l, e, through, front.few, line, c)

  unended_judged : length w ≡ window → Unended rest → judged names w ≡ Err (flaw TooLong window)
  unended_judged full h = front_judged more (fs, at, rest, through, front.few, h) ∙ window_judged (length w) full

lines_judged : (names : List Text) (w : Text) (v : Flaw) → LineFault w v → judged names w ≡ Err v
lines_judged names w v (first l e p line b) = first_judged names w l line.behind e p line.ends line.tidy line.text b
lines_judged names w v (too_many {m} {t} {fs} {at} {rest} l e front full line) = line_judged names w m t fs at rest front l e v line (none_allowed (length fs) at l e full)
lines_judged names w v (long_name {m} {t} {fs} {at} {rest} l e front room line long) =
    line_judged names w m t fs at rest front l e v line (line_allowed (length fs) at l e room ∙ long_refused at l e long)
lines_judged names w v (malformed {m} {t} {fs} {at} {rest} l e p front room line fits b) =
    line_judged names w m t fs at rest front l e v line (line_allowed (length fs) at l e room ∙ field_refused at l e p fits b)
lines_judged names w v (first_unended full h) = ap (on_first names w) ((short_line w).1 h) ∙ window_judged (length w) full
lines_judged names w v (unended {m} {t} {fs} {at} {rest} front full h) = unended_judged names w m t fs at rest front full h

-- a whole head, and what is found of it
whole_judged : (names : List Text) (w m t : Text) (fs : List Sent) (len : ℕ) (v : Flaw) → HeadIn w m t fs len → judged_fields names m fs len ≡ Err v → judged names w ≡ Err v
whole_judged names w m t fs len v head e =
    let go : _ → Result (Option Judged) Flaw = λ p. Ok (Some (judged_as (asked m t) (length (first_line m t) + 2) len p)) in
    let front = head.front in
    let behind = 13 ∷ 10 ∷ head.rest in
    let method : take (length m) (first_line m t) ≡ m = take_at m (32 ∷ (t ++ (32 ∷ version))) (length m) refl in
    front_judged names w m t fs head.at behind front (ended fs len) (head.at, head.rest, through names w m t fs head.at behind front, front.few, head.ends)
    ∙ ap (λ u. onward (judged_fields names u fs len) go) method ∙ ap (λ r. onward r go) e

head_judged : (names : List Text) (w : Text) (v : Flaw) → HeadFault names w v → judged names w ≡ Err v
head_judged names w v (host {m} {t} {fs} {len} head h) = whole_judged names w m t fs len v head (host_judged names m fs len v h)
head_judged names w v (framing {m} {t} {fs} {len} k head s h) = whole_judged names w m t fs len v head (framing_judged names m fs len k v s h)
head_judged names w v (body {m} {t} {fs} {len} k head s said h) = whole_judged names w m t fs len v head (body_judged names m fs len k v s h)

pub refused : HeadsRefused
refused names w v few = (
  λ e. MatchResult-at_err (λ _. Unit {0}) (λ x. LineFault w x ⊎ HeadFault names w x) v e (judged_refuses names w few),
  ⊎_elim (lines_judged names w v) (head_judged names w v),
)
