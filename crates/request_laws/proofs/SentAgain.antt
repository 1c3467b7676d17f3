-- The fields that are sent on for what a text means: they are few, say how long the body is, and name the same server.
use Rattle.std.proofs.Common.{◌≡◌, ℕ, ◌+◌, ◌<◌, ◌≤◌, true, false, not, ◌||◌, T, eqb, List, [], ◌∷◌, ◌++◌, length, sym, refl, ap, ◌∙◌, subst, append_assoc, arith}
use Rattle.std.specs.List.{AllByRecursion}
use Rattle.std.proofs.ByRecursion.{All-push}
use Rattle.std.proofs.lemmas.List.{length_push}
use Rattle.std.proofs.lemmas.Bool.{cond_both}
use Rattle.std.proofs.lemmas.Bool.Decides.{nat_tests}
use Rattle.text.specs.Bytes.{Text, lower, lowered, host_byte, blank, all, same, same_no_case, nonempty}
use Rattle.text.specs.Trims.{squeezed}
use Rattle.text.specs.declared.numeral.Base.TheVariants.{Decimal}
use Rattle.text.proofs.Folding.{squeezed_bare}
use Rattle.text.proofs.Passing.{is_true, is_false, and_i, and_l, and_r}
use Rattle.text_laws.proofs.Digits.{read_back}
use Rattle.message.specs.Fields.{Field, content_length, canonical_fields}
use Rattle.message.specs.Hops.{canonical_of, kept_of}
use Rattle.message.proofs.Hopping.{fewer}
use Rattle.request.specs.Canonical.{Req, carries_body, body_limit, length_field, sent_fields}
use Rattle.request_laws.specs.Lines.{Hostless, HostSpelled, host_names}
use Rattle.request_laws.specs.Grammar.{BodySpelled, none, sized, chunked}
use Rattle.request_laws.proofs.Fits.{Fit, all_fit, length_fit}
use Rattle.request_laws.proofs.KeptAgain.{kept_again, kept_again_length, canonical_unframing, fewer_by_length, fewer_by_encoding, kept_host, kept_named}

-- the fields as they are sent, in either case
pub by_body : (P : List Field → Type 0) (q : Req) → (T (carries_body q.method) → P (q.fields ++ (length_field q.body ∷ []))) → (T (not (carries_body q.method)) → P q.fields) → P (sent_fields q)
by_body P q f g = cond_both (carries_body q.method) (q.fields ++ (length_field q.body ∷ [])) q.fields P (λ e. f (rw e tt)) (λ e. g (rw e tt))

pub sent_fit : (q : Req) → T (canonical_fields q.fields) → AllByRecursion Fit (sent_fields q)
sent_fit q h = by_body (AllByRecursion Fit) q (λ b. All-push Fit q.fields (length_field q.body) (all_fit q.fields h) (length_fit q.body)) (λ b. all_fit q.fields h)

pub sent_kept : (q : Req) → T (canonical_fields q.fields) → kept_of (sent_fields q) ≡ q.fields
sent_kept q h = by_body (λ fs. kept_of fs ≡ q.fields) q (λ b. kept_again_length q.fields q.body h) (λ b. kept_again q.fields h)

-- a body is carried exactly where its length is sent
pub length_named : (b : Text) → T (same_no_case (length_field b).name content_length)
unfolding lowered same
length_named b = tt

sized_again : (m : Text) (fs : List Field) (b : Text) → T (carries_body m) → T (canonical_fields fs) → length b < body_limit → BodySpelled m (fs ++ (length_field b ∷ [])) b b
sized_again m fs b c h short =
    let small : length b < 1000000 = omega arith in
    sized (length_field b) c (record { before = fs; behind = []; others = (canonical_unframing fs h, tt); joined = refl }) (length_named b) (read_back Decimal (length b) small)

no_body : (m : Text) (fs : List Field) (after body : Text) → T (not (carries_body m)) → BodySpelled m fs after body → body ≡ []
no_body m fs after body b (none c u) = refl
no_body m fs after body b (sized f c o n e) = absurd (rw (is_true (carries_body m) c) at b)
no_body m fs after body b (chunked f c o n e k) = absurd (rw (is_true (carries_body m) c) at b)

pub body_again : (q : Req) (fs : List Field) (after : Text) → T (canonical_fields q.fields) → length q.body < body_limit → BodySpelled q.method fs after q.body → BodySpelled q.method (sent_fields q) q.body q.body
body_again q fs after h short s =
    by_body (λ gs. BodySpelled q.method gs q.body q.body) q (λ b. sized_again q.method q.fields q.body b h short)
    (λ b. subst (λ t. BodySpelled q.method q.fields t t) (sym (no_body q.method fs after q.body b s)) (none b (canonical_unframing q.fields h)))

pub body_none : (m : Text) (fs : List Field) (after body : Text) → BodySpelled m fs after body → T (carries_body m || not (nonempty body))
unfolding nonempty
body_none m fs after body (none c u) = rw (is_false (carries_body m) c) tt
body_none m fs after body (sized f c o n e) = rw (is_true (carries_body m) c) tt
body_none m fs after body (chunked f c o n e k) = rw (is_true (carries_body m) c) tt

-- and with it the fields are no more than those as sent
count : (m : Text) (fs : List Field) (after body : Text) → BodySpelled m fs after body → T (carries_body m) → length (kept_of fs) + 1 ≤ length fs
count m fs after body (none c u) b = absurd (rw (is_true (carries_body m) b) at c)
count m fs after body (sized f c o n e) b = fewer_by_length fs f o n
count m fs after body (chunked f c o n e k) b = fewer_by_encoding fs f o n

pub sent_few : (q : Req) (fs : List Field) (after : Text) (k : ℕ) → q.fields ≡ kept_of fs → BodySpelled q.method fs after q.body → length fs ≤ k → length (sent_fields q) ≤ k
sent_few q fs after k e s few =
    let same = ap length e in
    by_body (λ gs. length gs ≤ k) q (λ b. omega (arith, same, count q.method fs after q.body s b, length_push q.fields (length_field q.body))) (λ b. omega (arith, same, fewer fs fs))

-- a server's name has no blanks, and so neither has a text that is the same but for case
byte_bare : (c d : ℕ) → host_byte c ≡ true → eqb (lower c) (lower d) ≡ true → not (blank d) ≡ true
byte_bare c d h e = grind (arith, nat_tests)

host_bare : (n v : Text) → T (all host_byte n) → T (same_no_case n v) → T (all (λ c. not (blank c)) v)
unfolding all same lowered
host_bare [] [] h e = tt
host_bare [] (d ∷ v) h e = absurd e
host_bare (c ∷ n) [] h e = absurd e
host_bare (c ∷ n) (d ∷ v) h e =
    let first = is_true (eqb (lower c) (lower d)) (and_l (eqb (lower c) (lower d)) (same_no_case n v) e) in
    and_i (not (blank d)) (all (λ c. not (blank c)) v) (rw (byte_bare c d (is_true (host_byte c) (and_l (host_byte c) (all host_byte n) h)) first) tt)
    (host_bare n v (and_r (host_byte c) (all host_byte n) h) (and_r (eqb (lower c) (lower d)) (same_no_case n v) e))

host_name : (before : List Text) (n : Text) (behind : List Text) → T (host_names (before ++ (n ∷ behind))) → T (all host_byte n)
unfolding host_names
host_name [] n behind h = and_l (all host_byte n) (host_names behind) h
host_name (m ∷ ms) n behind h = host_name ms n behind (and_r (all host_byte m) (host_names (ms ++ (n ∷ behind))) h)

-- the one host is kept with the value that it has
kept_server : (names : List Text) (fs : List Field) (k : ℕ) → T (host_names names) → HostSpelled names fs k → HostSpelled names (kept_of fs) k
kept_server names fs k h s =
    let v = s.host.value in
    let good = host_name s.earlier s.name s.later (rw s.joined at h) in
    let is : squeezed v ≡ v = squeezed_bare false v (host_bare s.name v good s.same) in
    record {
      host = canonical_of s.host;
      only = kept_host fs s.host s.only s.named;
      named = kept_named s.host s.named;
      earlier = s.earlier;
      name = s.name;
      later = s.later;
      others = subst (λ u. AllByRecursion (λ n. T (not (same_no_case n u))) s.earlier) (sym is) s.others;
      same = subst (λ u. T (same_no_case s.name u)) (sym is) s.same;
      joined = s.joined;
      count = s.count;
    }

-- a length behind the fields is no host
length_hostless : (b : Text) → Hostless (length_field b)
unfolding lowered same
length_hostless b = tt

push_server : (names : List Text) (fs : List Field) (b : Text) (k : ℕ) → HostSpelled names fs k → HostSpelled names (fs ++ (length_field b ∷ [])) k
push_server names fs b k s =
    let o = s.only in
    record {
      host = s.host;
      only = record {
        before = o.before;
        behind = o.behind ++ (length_field b ∷ []);
        others = (o.others.0, All-push Hostless o.behind (length_field b) o.others.1 (length_hostless b));
        joined = ap (λ gs. gs ++ (length_field b ∷ [])) o.joined ∙ append_assoc o.before (s.host ∷ o.behind) (length_field b ∷ []);
      };
      named = s.named;
      earlier = s.earlier;
      name = s.name;
      later = s.later;
      others = s.others;
      same = s.same;
      joined = s.joined;
      count = s.count;
    }

pub server_again : (names : List Text) (q : Req) (fs : List Field) (k : ℕ) → T (host_names names) → q.fields ≡ kept_of fs → HostSpelled names fs k → HostSpelled names (sent_fields q) k
server_again names q fs k h e s =
    let kept : HostSpelled names q.fields k = rw e (kept_server names fs k h s) in
    by_body (λ gs. HostSpelled names gs k) q (λ b. push_server names q.fields q.body k kept) (λ b. kept)
