-- The parts of a canonical request are within the limits, and every line of it is plain: not empty, and without CR and LF.
use Rattle.std.proofs.Common.{◌≡◌, ◌+◌, ◌<◌, ◌≤◌, Bool, true, false, not, ◌||◌, T, leb, List, [], ◌∷◌, ◌++◌, length, refl, arith, le→leb, ltb→lt, leb→le}
use Rattle.std.specs.List.{AllByRecursion}
use Rattle.std.proofs.lemmas.Bool.Decides.{nat_tests}
use Rattle.std.proofs.ByRecursion.{All-push}
use Rattle.std.proofs.lemmas.Bool.{cond_both}
use Rattle.std.proofs.lemmas.List.{length-append}
use Rattle.text.specs.Bytes.{Text, all, clean, nonempty, upper, visible, digit, value_byte}
use Rattle.message.specs.Fields.{Field, canonical_field, canonical_fields, canonical_value, value_tail, lower_name_byte, field_lines, lines_of}
use Rattle.request.specs.Canonical.{Req, canonical, carries_body, head_limit, field_limit, body_limit, canonical_method, canonical_target, one_host, fields_in_limits, sent_fields, length_field, head_lines, first_line, version}
use Rattle.text.specs.Numerals.{decimal}
use Rattle.message.proofs.Canonical.{tail_bytes, visible_value}
use Rattle.reader.proofs.Heads.{Lines}
use Rattle.text.proofs.Passing.{and_i, and_l, and_r, not_end, all_weaker, all_append, clean_by, so}
use Rattle.text.proofs.Numbers.{decimal_digits}

-- what a canonical request is, part by part
pub record Parts (q : Req) : Type 0 where
  pub method : T (canonical_method q.method)
  pub target : T (canonical_target q.target)
  pub fields : T (canonical_fields q.fields)
  pub host : T (one_host q.fields)
  pub head : length (lines_of (head_lines q)) ≤ head_limit
  pub first : length (first_line q.method q.target) ≤ head_limit
  pub limits : T (fields_in_limits (sent_fields q))
  pub short : length q.body < body_limit
  pub none : T (not (carries_body q.method)) → length q.body ≡ 0

or_none : (a : Bool) (t : Text) → T (a || not (nonempty t)) → T (not a) → length t ≡ 0
unfolding nonempty
or_none true t h n = absurd n
or_none false [] h n = refl
or_none false (c ∷ t) h n = absurd h

pub parts : (q : Req) → T (canonical q) → Parts q
unfolding lines_of
parts q h =
    let fs = sent_fields q in
    let head = leb→le (length (lines_of (head_lines q)) + 2) head_limit (search (and_l, and_r) depth 8) in
    let long = length-append (first_line q.method q.target) (13 ∷ 10 ∷ lines_of (field_lines (sent_fields q))) in
    record {
      method = search (and_l, and_r) depth 8;
      target = search (and_l, and_r) depth 8;
      fields = search (and_l, and_r) depth 8;
      host = search (and_l, and_r) depth 8;
      head = omega arith;
      first = omega arith;
      limits = and_i (leb (length fs) field_limit) (leb (length (lines_of (field_lines fs))) head_limit) (search (and_l, and_r) depth 8) (le→leb (length (lines_of (field_lines fs))) head_limit (omega arith));
      short = ltb→lt (length q.body) body_limit (search (and_l, and_r) depth 8);
      none = or_none (carries_body q.method) q.body (search (and_l, and_r) depth 8);
    }

-- a field whose line is read alike by everybody: one in canonical form, or the length
pub record Plain (f : Field) : Type 0 where
  pub some : T (nonempty f.name)
  pub name : T (all lower_name_byte f.name)
  pub value : T (canonical_value f.value)

pub canonical_plain : (fs : List Field) → T (canonical_fields fs) → AllByRecursion Plain fs
unfolding canonical_fields
canonical_plain [] h = tt
canonical_plain (f ∷ fs) h =
    (record { some = search (and_l, and_r); name = search (and_l, and_r); value = search (and_l, and_r) }, canonical_plain fs (and_r (canonical_field f) (canonical_fields fs) h))

-- a length is a value in canonical form
pub length_plain : (body : Text) → Plain (length_field body)
unfolding all nonempty
length_plain body = record {
  some = tt;
  name = tt;
  value = visible_value (decimal (length body)) (all_weaker digit visible (λ c h. so (digit c) (visible c) (λ e. grind (arith, nat_tests)) h) (decimal (length body)) (decimal_digits (length body)));
}

-- the fields as they are sent, in either case
pub by_body : (P : List Field → Type 0) (q : Req) → (T (carries_body q.method) → P (q.fields ++ (length_field q.body ∷ []))) → (T (not (carries_body q.method)) → P q.fields) → P (sent_fields q)
by_body P q f g = cond_both (carries_body q.method) (q.fields ++ (length_field q.body ∷ [])) q.fields P (λ e. f (rw e tt)) (λ e. g (rw e tt))

sent_plain : (q : Req) → T (canonical_fields q.fields) → AllByRecursion Plain (sent_fields q)
sent_plain q h =
    by_body (AllByRecursion Plain) q (λ b. All-push Plain q.fields (length_field q.body) (canonical_plain q.fields h) (length_plain q.body)) (λ b. canonical_plain q.fields h)

-- a value has visible bytes and spaces
pub value_bytes : (t : Text) → T (canonical_value t) → T (all value_byte t)
unfolding all canonical_value
value_bytes [] h = tt
value_bytes (c ∷ t) h = tail_bytes (c ∷ t) (and_r (visible c) (value_tail (c ∷ t)) h)

-- lines with some bytes and no end inside
some_append : (s t : Text) → T (nonempty s) → T (nonempty (s ++ t))
unfolding nonempty
some_append [] t h = absurd h
some_append (c ∷ s) t h = tt

field_lines_so : (fs : List Field) → AllByRecursion Plain fs → Lines (field_lines fs)
unfolding field_lines all
field_lines_so [] h = tt
field_lines_so (f ∷ fs) h =
    let p = h.0 in
    let name = clean_by lower_name_byte refl refl f.name p.name in
    let value = clean_by value_byte refl refl f.value (value_bytes f.value p.value) in
    ((some_append f.name (58 ∷ 32 ∷ f.value) p.some, all_append not_end f.name (58 ∷ 32 ∷ f.value) name value), field_lines_so fs h.1)

pub plain_lines : (q : Req) → Parts q → Lines (head_lines q)
unfolding all
plain_lines q p =
    let method = clean_by upper refl refl q.method (search (and_l, and_r)) in
    let target = clean_by visible refl refl q.target (search (and_l, and_r)) in
    let last : T (clean (q.target ++ (32 ∷ version))) = all_append not_end q.target (32 ∷ version) target tt in
    ((some_append q.method (32 ∷ q.target ++ (32 ∷ version)) (search (and_l, and_r)), all_append not_end q.method (32 ∷ q.target ++ (32 ∷ version)) method last), field_lines_so (sent_fields q) (sent_plain q p.fields))
