-- No two lists of canonical requests are written as the same bytes: the strict reader reads both.
use Rattle.std.proofs.Common.{◌≡◌, Bool, true, false, cond, List, [], ◌∷◌, ◌++◌, length, sym, refl, ap, ◌∙◌, arith}
use Rattle.std.proofs.lemmas.List.{append_cancel_right, length-append}
use Rattle.text.specs.Bytes.{Text}
use Rattle.message.specs.Fields.{Field}
use Rattle.request.specs.Canonical.{Req, canonical, all_canonical, carries_body, length_field, head_lines, write, writes, as_sent}
use Rattle.reader.specs.Reader.{Whole, read_one}
use Rattle.reader.specs.Strict.{strict}
use Rattle.reader.specs.Laws.{OneReading}
use Rattle.text.proofs.Passing.{and_l, and_r}
use Rattle.reader.proofs.Takes.{takes_one, many_bytes}
use Rattle.reader.proofs.Strictly.{strict_is_fair}

fields_back : (b : Bool) (l : Field) (fs gs : List Field) → cond b (fs ++ (l ∷ [])) fs ≡ cond b (gs ++ (l ∷ [])) gs → fs ≡ gs
fields_back true l fs gs e = append_cancel_right fs gs (l ∷ []) e
fields_back false l fs gs e = e

-- the length that is sent says nothing that the request does not
same_sent : (p q : Req) → as_sent p ≡ as_sent q → p ≡ q
same_sent p q e =
    let alike = ap (λ (x : Req). cond (carries_body x.method) (q.fields ++ (length_field x.body ∷ [])) q.fields) (sym e) in
    let fs : p.fields ≡ q.fields = fields_back (carries_body p.method) (length_field p.body) p.fields q.fields (ap (λ (x : Req). x.fields) e ∙ alike) in
    λ i. record { method = (e i).method; target = (e i).target; fields = fs i; body = (e i).body }

some_bytes : (q : Req) (qs : List Req) → [] ≡ writes (q ∷ qs) → ⊥
unfolding writes
some_bytes q qs e = omega (arith, ap length e, length-append (write q) (writes qs), many_bytes (head_lines q) q.body)

pub one_reading : OneReading
unfolding all_canonical writes
one_reading [] [] c d e = refl
one_reading [] (q ∷ qs) c d e = absurd (some_bytes q qs e)
one_reading (p ∷ ps) [] c d e = absurd (some_bytes p ps (sym e))
one_reading (p ∷ ps) (q ∷ qs) c d e =
    let read = λ (s : Text). read_one 1 strict s in
    let at_p : read (write p ++ writes ps) ≡ Whole (as_sent p) (writes ps) = takes_one strict strict_is_fair p (and_l (canonical p) (all_canonical ps) c) (writes ps) 0 in
    let at-q : read (write q ++ writes qs) ≡ Whole (as_sent q) (writes qs) = takes_one strict strict_is_fair q (and_l (canonical q) (all_canonical qs) d) (writes qs) 0 in
    let both : Whole (as_sent p) (writes ps) ≡ Whole (as_sent q) (writes qs) = sym at_p ∙ ap read e ∙ at-q in
    let first : as_sent p ≡ as_sent q = cc in
    let rest : writes ps ≡ writes qs = cc in
    let same : p ≡ q = same_sent p q first in
    let more : ps ≡ qs = one_reading ps qs (and_r (canonical p) (all_canonical ps) c) (and_r (canonical q) (all_canonical qs) d) rest in
    cc
