-- Reading field lines, one at a time.
use Rattle.std.proofs.Common.{◌≡◌, ℕ, Bool, zero, suc, ◌+◌, ◌-◌, ◌<◌, true, false, eqb, List, [], ◌∷◌, ◌++◌, length, take, set, Ok, Err, Result, sym, refl, ap, ◌∙◌, append_assoc, arith}
use Rattle.std.proofs.lemmas.List.{length-set, take_more_set, map_push}
use Rattle.std.proofs.lemmas.Bool.{cond-false}
use Rattle.text.specs.Bytes.{Text}
use Rattle.text.specs.Cuts.{whole, cut_line}
use Rattle.message.specs.Faults.{flaw, onward}
use Rattle.message.specs.declared.fault.Fault.TheVariants.{TooLong}
use Rattle.message.specs.Sent.{Sent, Found, ended, more, wrong, check_field, check_line, sent_at, read_line, with_fields, on_line, on_cut, line_then, fields_from, view_line, view_lines}
use Rattle.message.specs.declared.fault.Flaw.{Flaw}
use Rattle.message.specs.declared.sent.Line.{Line as HeldLine}

pub with_none : (f : Found) → with_fields [] f ≡ f
with_none (ended fs end) = refl
with_none more = refl
with_none (wrong w) = refl

pub with_more : (fs gs : List Sent) (f : Found) → with_fields fs (with_fields gs f) ≡ with_fields (fs ++ gs) f
with_more fs gs (ended hs end) = ap (λ l. ended l end) (sym (append_assoc fs gs hs))
with_more fs gs more = refl
with_more fs gs (wrong w) = refl

-- where no line more is allowed, and where one is
pub checked_none : (k at : ℕ) (l : Text) (e : Bool) → k ≡ 0 → check_line k at l e ≡ Err (flaw TooLong at)
unfolding check_line
checked_none zero at l e h = refl
checked_none (suc k) at l e h = absurd (omega arith)

pub checked_some : (k at : ℕ) (l : Text) (e : Bool) → 0 < k → check_line k at l e ≡ check_field at l e
unfolding check_line
checked_some zero at l e h = absurd (omega arith)
checked_some (suc k) at l e h = refl

-- a line that is not empty: the field in it and the others, or what is wrong with it
abbrev on_read : Result Sent Flaw → (Sent → Found) → Found
on_read (Ok x) go = go x
on_read (Err w) go = wrong w

read_on : (r : Result ℕ Flaw) (f : ℕ → Sent) (go : Sent → Found) → on_line r (λ n. go (f n)) ≡ on_read (onward r (λ n. Ok (f n))) go
read_on (Ok n) f go = refl
read_on (Err w) f go = refl

line_read : (k at : ℕ) (l rest : Text) (r : Result Sent Flaw) → r ≡ read_line k at l true → line_then k at l rest ≡ on_read r (λ x. with_fields (x ∷ []) (fields_from (k - 1) (at + (length l + 2)) rest))
unfolding check_line line_then
line_read zero at l rest r e = rw e refl
line_read (suc k) at l rest r e =
    let less : k ≡ suc k - 1 = omega arith in
    ap (λ m. on_line (check_field at l true) (λ n. with_fields (sent_at at n l ∷ []) (fields_from m (at + (length l + 2)) rest))) less
    ∙ read_on (check_field at l true) (λ n. sent_at at n l) (λ x. with_fields (x ∷ []) (fields_from (suc k - 1) (at + (length l + 2)) rest))
    ∙ ap (λ (q : Result Sent Flaw). on_read q (λ x. with_fields (x ∷ []) (fields_from (suc k - 1) (at + (length l + 2)) rest))) (sym e)

-- a bad one ends the reading
pub line_wrong : (k at : ℕ) (l rest : Text) (w : Flaw) → Err w ≡ check_line k at l true → line_then k at l rest ≡ wrong w
line_wrong k at l rest w bad = line_read k at l rest (Err w) (ap (λ r. onward r (λ n. Ok (sent_at at n l))) bad)

pub fields_read : (k at : ℕ) (t l rest : Text) (r : Result Sent Flaw) → whole l rest ≡ cut_line t → false ≡ eqb (length l) 0 → r ≡ read_line k at l true → fields_from k at t ≡ on_read r (λ x. with_fields (x ∷ []) (fields_from (k - 1) (at + (length l + 2)) rest))
fields_read k at t l rest r cut full e = ap (on_cut k at t (line_then k at)) (sym cut) ∙ cond-false (eqb (length l) 0) _ _ (sym full) ∙ line_read k at l rest r e

-- the field of a good line put into the table
pub put_line_so : (ls : List HeldLine) (i at to : ℕ) (t l rest : Text) (x : HeldLine) (all : Found) → i < length ls → whole l rest ≡ cut_line t → false ≡ eqb (length l) 0 → Ok (view_line x) ≡ read_line (length ls - i) at l true →
    to ≡ at + (length l + 2) →
    with_fields (view_lines (take i ls)) (fields_from (length ls - i) at t) ≡ all →
    with_fields (view_lines (take (i + 1) (set ls i x))) (fields_from (length (set ls i x) - (i + 1)) to rest) ≡ all
put_line_so ls i at to t l rest x all h cut full good on so =
    let put : view_lines (take (i + 1) (set ls i x)) ≡ view_lines (take i ls) ++ view_line x ∷ [] = ap view_lines (take_more_set ls i x h) ∙ map_push view_line (take i ls) x in
    let left : length (set ls i x) - (i + 1) ≡ length ls - i - 1 = simp length-set (omega arith) in
    rw (put, left, on)
    (sym (with_more (view_lines (take i ls)) (view_line x ∷ []) (fields_from (length ls - i - 1) (at + (length l + 2)) rest))
    ∙ ap (with_fields (view_lines (take i ls))) (sym (fields_read (length ls - i) at t l rest (Ok (view_line x)) cut full good))
    ∙ so)
