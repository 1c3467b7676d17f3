-- A fair reader takes one canonical request off the front, and waits where not all of it has come.
use Rattle.std.proofs.Common.{◌≡◌, ℕ, zero, suc, ◌+◌, ◌-◌, ◌<◌, ◌≤◌, cond, T, leb, List, [], ◌∷◌, ◌++◌, length, take, drop, sym, refl, ap, ◌∙◌, inl, inr, arith}
use Rattle.std.proofs.lemmas.List.{append_assoc, length-append, length-take-le, take_at, drop_at}
use Rattle.std.proofs.lemmas.Bool.{cases_lt, cond-false, le-leb, lt-leb}
use Rattle.text.specs.Bytes.{Text}
use Rattle.message.specs.Fields.{lines_of, field_lines}
use Rattle.request.specs.Canonical.{Req, fields_in_limits, sent_fields, head_lines, write}
use Rattle.reader.specs.Reader.{Reader, Fair, Many, Exactly, Got, More, Whole, on_head, read_one, with_ask, with_fields, body_of}
use Rattle.reader.specs.Laws.{TakesOne, Waits}
use Rattle.reader.proofs.Heads.{headed, take_ended, head_whole, head_part}
use Rattle.reader.proofs.Plain.{Parts, parts, by_body, plain_lines}

-- a head has more bytes than lines
pub many_bytes : (ls : List Text) (s : Text) → length ls < length (headed ls s)
unfolding lines_of
many_bytes [] s = omega arith
many_bytes (l ∷ ls) s = omega (arith, many_bytes ls s, length-append (lines_of (l ∷ ls)) (13 ∷ 10 ∷ s), length-append l (13 ∷ 10 ∷ lines_of ls), length-append (lines_of ls) (13 ∷ 10 ∷ s))

-- what a reader makes of a canonical request's body once it has read the head
abbrev bodied : Req → Text → Got
bodied q s = cond (leb (length q.body) (length s)) (Whole record { method = q.method; target = q.target; fields = sent_fields q; body = take (length q.body) s } (drop (length q.body) s)) More

module _ (r : Reader) (f : Fair r) (q : Req) (p : Parts q) where
  fields_read : r.fields (field_lines (sent_fields q)) ≡ Many (sent_fields q)
  fields_read =
      by_body (λ fs. T (fields_in_limits fs) → r.fields (field_lines fs) ≡ Many fs) q (λ b l. f.length_last q.fields q.body p.fields p.host l p.short)
      (λ b. f.plain_fields q.fields p.fields p.host) p.limits

  size_read : r.size q.method (sent_fields q) ≡ Exactly (length q.body)
  size_read =
      by_body (λ fs. T (fields_in_limits fs) → r.size q.method fs ≡ Exactly (length q.body)) q
      (λ b l. f.size_given q.method q.fields q.body p.method b p.fields p.host l p.short)
      (λ b l. f.size_none q.method q.fields p.method b p.fields p.host l ∙ ap Exactly (sym (p.none b))) p.limits

  head_read : (k : ℕ) (s : Text) → read_one (suc k) r (headed (head_lines q) s) ≡ bodied q s
  unfolding read_one
  head_read k s =
      let ls = head_lines q in
      ap (on_head r (λ t. read_one k r t)) (head_whole r f (suc (length (headed ls s))) ls s (plain_lines q p) p.head (omega (arith, many_bytes ls s)))
      ∙ ap (with_ask r (field_lines (sent_fields q)) s) (f.plain_ask q.method q.target p.method p.target p.first)
      ∙ ap (with_fields r q.method q.target s) fields_read
      ∙ ap (body_of r q.method q.target (sent_fields q) s) size_read

pub takes_one : TakesOne
takes_one r f q c rest k =
    let b = q.body in
    let n = length b in
    let fits : length q.body ≤ length (q.body ++ rest) = omega (arith, length-append q.body rest) in
    ap (read_one (suc k) r) (append_assoc (lines_of (head_lines q)) (13 ∷ 10 ∷ b) rest) ∙ head_read r f q (parts q c) k (b ++ rest) ∙
    rw (le-leb n (length (b ++ rest)) fits, take_at b rest n refl, drop_at b rest n refl)

pub waits : Waits
unfolding read_one
waits r f q c n zero h = refl
waits r f q c n (suc k) h =
    let ls = head_lines q in
    let p = parts q c in
    elim (cases_lt n (length (lines_of (head_lines q)) + 2)) [
      | inl a ↦ ap (on_head r (λ t. read_one k r t)) (head_part r f (suc (length (take n (write q)))) ls q.body n (plain_lines q p) p.head a)
      | inr a ↦
          let m : ℕ = n - (length (lines_of (head_lines q)) + 2) in
          let less : n - (length (lines_of (head_lines q)) + 2) < length q.body = omega (arith, length-append (lines_of (head_lines q)) (13 ∷ 10 ∷ q.body)) in
          let cut : length (take m q.body) < length q.body = omega (arith, length-take-le m q.body (omega arith)) in
          ap (read_one (suc k) r) (take_ended (lines_of ls) q.body n a) ∙ head_read r f q p k (take m q.body) ∙ cond-false (leb (length q.body) (length (take m q.body))) _ _ (lt-leb _ _ cut)
    ]
