-- The copy that a client gets of a response is itself spelled, and means the same.
use Rattle.std.proofs.Common.{◌≡◌, ℕ, ◌+◌, ◌<◌, ◌≤◌, T, List, [], ◌∷◌, ◌++◌, length, Some, None, Option, sym, refl, ap, ◌∙◌, append_assoc, arith}
use Rattle.std.specs.List.{AllByRecursion}
use Rattle.std.proofs.ByRecursion.{All-push}
use Rattle.std.proofs.lemmas.List.{length-append, length_push}
use Rattle.text.specs.Bytes.{Text}
use Rattle.text.specs.declared.numeral.Base.TheVariants.{Decimal}
use Rattle.text_laws.proofs.Digits.{read_back}
use Rattle.message.specs.Fields.{Field, canonical_fields, field_lines, lines_of}
use Rattle.message.specs.Hops.{kept_of}
use Rattle.message.proofs.Hopping.{fewer}
use Rattle.request.specs.Canonical.{body_limit, field_limit, length_field}
use Rattle.request.specs.Heads.{window}
use Rattle.request_laws.proofs.Fits.{Fit, lines_fit, fit_lines, all_fit, length_fit}
use Rattle.request_laws.proofs.KeptAgain.{kept_canonical, kept_again, kept_again_length, canonical_unframing, fewer_by_length, fewer_by_encoding}
use Rattle.request_laws.proofs.SentAgain.{length_named}
use Rattle.response.specs.Copies.{with_length, body_bytes, copy}
use Rattle.response.specs.Status.{has_body}
use Rattle.response.specs.declared.status.Status.{Status}
use Rattle.connection.specs.Model.{Response}
use Rattle.response_laws.specs.Grammar.{BodySpelled, none, sized, chunked, Spelled}
use Rattle.response_laws.specs.Laws.{CopyAgain}
use Rattle.response_laws.proofs.Responses.{spelled_read}

-- the fields of a copy are fields as lines may hold them, and what is kept of them is kept again
sent_fit : (fs : List Field) (body : Option Text) → T (canonical_fields fs) → AllByRecursion Fit (with_length fs body)
sent_fit fs None h = all_fit fs h
sent_fit fs (Some b) h = All-push Fit fs (length_field b) (all_fit fs h) (length_fit b)

sent_kept : (fs : List Field) (body : Option Text) → T (canonical_fields fs) → kept_of (with_length fs body) ≡ fs
sent_kept fs None h = kept_again fs h
sent_kept fs (Some b) h = kept_again_length fs b h

-- they are no more than those as they came: where a length is sent, a field that said how long the body is was dropped
sent_few : (m : Text) (s : Status) (fs : List Field) (after : Text) (body : Option Text) (k : ℕ) → BodySpelled m s fs after body → length fs ≤ k →
    length (with_length (kept_of fs) body) ≤ k
sent_few m s fs after body k (none h) few = omega (arith, fewer fs fs)
sent_few m s fs after body k (sized {b = t} f h o n e) few = omega (arith, fewer_by_length fs f o n, length_push (kept_of fs) (length_field t))
sent_few m s fs after body k (chunked {b = t} f h o n e c) few = omega (arith, fewer_by_encoding fs f o n, length_push (kept_of fs) (length_field t))

-- the length that is sent says how long the body is
sized_again : (m : Text) (s : Status) (fs : List Field) (b : Text) → T (has_body s m) → T (canonical_fields fs) → length b < body_limit →
    BodySpelled m s (fs ++ (length_field b ∷ [])) b (Some b)
sized_again m s fs b c h short =
    let small : length b < 1000000 = omega arith in
    sized (length_field b) c (record { before = fs; behind = []; others = (canonical_unframing fs h, tt); joined = refl }) (length_named b) (read_back Decimal (length b) small)

body_again : (m : Text) (s : Status) (fs ks : List Field) (after : Text) (body : Option Text) → BodySpelled m s fs after body → T (canonical_fields ks) →
    length (body_bytes body) < body_limit → BodySpelled m s (with_length ks body) (body_bytes body) body
body_again m s fs ks after body (none c) h short = none c
body_again m s fs ks after body (sized {b = t} f c o n e) h short = sized_again m s ks t c h short
body_again m s fs ks after body (chunked {b = t} f c o n e k) h short = sized_again m s ks t c h short

-- the bytes of a head: its first line, and the others
head_bytes : (l : Text) (fs : List Field) → lines_of (l ∷ field_lines fs) ≡ l ++ (13 ∷ 10 ∷ lines_of (field_lines fs))
unfolding lines_of
head_bytes l fs = refl

head_long : (l : Text) (fs : List Field) → length (lines_of (l ∷ field_lines fs)) ≡ length l + 2 + length (lines_of (field_lines fs))
head_long l fs = ap length (head_bytes l fs) ∙ length-append l (13 ∷ 10 ∷ lines_of (field_lines fs)) ∙ omega arith

copy_spelled : (m t : Text) (a : Response) (s : Spelled m t a) →
    length (lines_of (s.line ∷ field_lines (with_length (kept_of s.fields) s.body))) + 2 ≤ window → Spelled m a.text a
copy_spelled m t a s short =
    let l = s.line in
    let kept = kept_of s.fields in
    let fs = with_length kept s.body in
    let lines = lines_of (field_lines fs) in
    let body = s.body in
    let canon : T (canonical_fields kept) = kept_canonical s.fields s.fields (lines_fit s.lines s.fields s.lines_good) in
    record {
      line = l;
      status = s.status;
      fields = fs;
      lines = lines;
      after = body_bytes body;
      body = body;
      status_good = s.status_good;
      lines_good = fit_lines fs (sent_fit kept body canon);
      few = sent_few m s.status s.fields s.after body field_limit s.body_good s.few;
      short = omega (arith, short, head_long l fs);
      body_good = body_again m s.status s.fields kept s.after body s.body_good canon s.body_short;
      body_short = s.body_short;
      last = s.last;
      copied = s.copied ∙ ap (λ ks. copy (record { line = l; fields = ks; body = body })) (sym (sent_kept kept body canon));
      text = s.copied ∙ ap (λ u. u ++ (13 ∷ 10 ∷ body_bytes body)) (head_bytes l fs) ∙ append_assoc l (13 ∷ 10 ∷ lines) (13 ∷ 10 ∷ body_bytes body);
    }

pub copy_again : CopyAgain
copy_again m t a s short rest = spelled_read m a.text a rest (copy_spelled m t a s short)
