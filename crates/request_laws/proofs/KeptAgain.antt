-- Fields that are kept of those as sent: they are canonical, fewer, have the one host, and are kept again as they are.
use Rattle.std.proofs.Common.{◌≡◌, ◌+◌, ◌≤◌, Bool, true, false, cond, not, ◌&&◌, T, ◌⊎◌, List, [], ◌∷◌, ◌++◌, length, drop, codes, refl, ap, ◌∙◌, inl, inr, append-nil, arith}
use Rattle.std.specs.List.{AllByRecursion}
use Rattle.std.proofs.ByRecursion.{All-push}
use Rattle.std.proofs.lemmas.List.{length-append}
use Rattle.std.proofs.lemmas.Bool.{cond-true, cond-false, cond_both, or_parts, or_from, and_right}
use Rattle.text.specs.Bytes.{Text, lowered, same, same_no_case, among, all as eachByte}
use Rattle.text.proofs.Folding.{lowered_lowered}
use Rattle.text.proofs.Passing.{is_true, is_false, and_i, and_l, and_r, same_is}
use Rattle.message.specs.Fields.{Field, content_length, transfer_encoding, dropped, lower_name_byte, canonical_field, canonical_fields}
use Rattle.message.specs.Hops.{hop_by_hop, named_by, is_dropped, canonical_of, kept_among, kept_of}
use Rattle.message.proofs.Hopping.{fewer}
use Rattle.message.proofs.Settled.{lowered_name, settled}
use Rattle.request.specs.Canonical.{count_named, one_host, length_field}
use Rattle.request_laws.specs.Lines.{Named, Unframing, Hostless, Only}
use Rattle.request_laws.proofs.Fits.{Fit, canonical_of_so, each_canonical}

-- one field more is kept or not
kept_in : (all : List Field) (f : Field) (fs : List Field) → is_dropped all f.name ≡ false → kept_among all (f ∷ fs) ≡ canonical_of f ∷ kept_among all fs
unfolding kept_among
kept_in all f fs e = cond-false (is_dropped all f.name) (kept_among all fs) (canonical_of f ∷ kept_among all fs) e

kept_out : (all : List Field) (f : Field) (fs : List Field) → is_dropped all f.name ≡ true → kept_among all (f ∷ fs) ≡ kept_among all fs
unfolding kept_among
kept_out all f fs e = cond-true (is_dropped all f.name) (kept_among all fs) (canonical_of f ∷ kept_among all fs) e

kept_none : (all : List Field) → kept_among all [] ≡ []
unfolding kept_among
kept_none all = refl

one_joined : (b : Bool) (f : Field) (fs gs : List Field) → cond b (fs ++ gs) (f ∷ (fs ++ gs)) ≡ cond b fs (f ∷ fs) ++ gs
one_joined true f fs gs = refl
one_joined false f fs gs = refl

kept_joined : (all fs gs : List Field) → kept_among all (fs ++ gs) ≡ kept_among all fs ++ kept_among all gs
unfolding kept_among
kept_joined all [] gs = refl
kept_joined all (f ∷ fs) gs =
    ap (λ (ks : List Field). cond (is_dropped all f.name) ks (canonical_of f ∷ ks)) (kept_joined all fs gs) ∙ one_joined (is_dropped all f.name) (canonical_of f) (kept_among all fs) (kept_among all gs)

-- what holds of each that is kept, in canonical form
pub kept_all : (P : Field → Type 0) (Q : Field → Type 0) (all : List Field) → ((f : Field) → is_dropped all f.name ≡ false → P f → Q (canonical_of f)) → (fs : List Field) → AllByRecursion P fs → AllByRecursion Q (kept_among all fs)
unfolding kept_among
kept_all P Q all go [] h = tt
kept_all P Q all go (f ∷ fs) h =
    let more = kept_all P Q all go fs h.1 in
    cond_both (is_dropped all f.name) (kept_among all fs) (canonical_of f ∷ kept_among all fs) (AllByRecursion Q) (λ e. more) (λ e. (go f e h.0, more))

-- names that are not dropped are none of the nine
not_hop : (all : List Field) (name : Text) → is_dropped all name ≡ false → among (lowered name) dropped ≡ false
not_hop all name e = (or_parts (hop_by_hop name) (not (same_no_case name (codes "host")) && named_by name all) e).0

all_canonical_so : (fs : List Field) → AllByRecursion (λ f. T (canonical_field f)) fs → T (canonical_fields fs)
unfolding canonical_fields
all_canonical_so [] h = tt
all_canonical_so (f ∷ fs) h = and_i (canonical_field f) (canonical_fields fs) h.0 (all_canonical_so fs h.1)

pub kept_canonical : (all fs : List Field) → AllByRecursion Fit fs → T (canonical_fields (kept_among all fs))
kept_canonical all fs h = all_canonical_so (kept_among all fs) (kept_all Fit (λ f. T (canonical_field f)) all (λ f e k. canonical_of_so f k (not_hop all f.name e)) fs h)

-- what a name is not that is none of the nine
record Sound (name : Text) : Type 0 where
  size : same_no_case name content_length ≡ false
  encoding : same_no_case name transfer_encoding ≡ false
  connection : same_no_case name (codes "connection") ≡ false

sound : (name : Text) → among (lowered name) dropped ≡ false → Sound name
unfolding among lowered
sound name e =
    let n = lowered name in
    let a = or_parts (same n content_length) (among n (drop 1 dropped)) e in
    let b = or_parts (same n transfer_encoding) (among n (drop 2 dropped)) a.1 in
    let c = or_parts (same n (codes "connection")) (among n (drop 3 dropped)) b.1 in
    record { size = a.0; encoding = b.0; connection = c.0 }

canonical_name : (f : Field) → T (canonical_field f) → among (lowered f.name) dropped ≡ false
canonical_name f h =
    let lower : T (eachByte lower_name_byte f.name) = search (and_l, and_r) depth 8 in
    let out : T (not (among f.name dropped)) = search (and_l, and_r) depth 8 in
    rw (lowered_name f.name lower) (is_false (among f.name dropped) out)

-- canonical fields say nothing of the body
pub canonical_unframing : (fs : List Field) → T (canonical_fields fs) → AllByRecursion Unframing fs
canonical_unframing fs h = each_canonical Unframing (λ f k. let s = sound f.name (canonical_name f k) in rw (s.size, s.encoding) tt) fs h

-- and none of them is a `connection`, so that none names another
abbrev Unnaming : Field → Type 0
Unnaming f = same_no_case f.name (codes "connection") ≡ false

canonical_unnaming : (fs : List Field) → T (canonical_fields fs) → AllByRecursion Unnaming fs
canonical_unnaming fs h = each_canonical Unnaming (λ f k. (sound f.name (canonical_name f k)).connection) fs h

unnamed : (name : Text) (fs : List Field) → AllByRecursion Unnaming fs → named_by name fs ≡ false
unnamed name [] h = refl
unnamed name (f ∷ fs) h = rw h.0 (unnamed name fs h.1)

-- among fields of which none names another, canonical ones are kept as they are
kept_same : (all : List Field) → AllByRecursion Unnaming all → (fs : List Field) → T (canonical_fields fs) → kept_among all fs ≡ fs
unfolding canonical_fields
kept_same all u [] h = unfold kept_among in refl
kept_same all u (f ∷ fs) h =
    let c = and_l (canonical_field f) (canonical_fields fs) h in
    let stays : is_dropped all f.name ≡ false = or_from (hop_by_hop f.name) (not (same_no_case f.name (codes "host")) && named_by f.name all) (canonical_name f c) (and_right (not (same_no_case f.name (codes "host"))) (named_by f.name all) (unnamed f.name all u)) in
    kept_in all f fs stays ∙ ap (λ (g : Field). g ∷ kept_among all fs) (settled f c) ∙ ap (λ gs. f ∷ gs) (kept_same all u fs (and_r (canonical_field f) (canonical_fields fs) h))

pub kept_again : (fs : List Field) → T (canonical_fields fs) → kept_of fs ≡ fs
kept_again fs h = kept_same fs (canonical_unnaming fs h) fs h

-- with a length behind them, which is dropped
length_out : (all : List Field) (body : Text) → is_dropped all (length_field body).name ≡ true
unfolding among lowered same
length_out all body = refl

length_unnaming : (body : Text) → Unnaming (length_field body)
unfolding lowered same
length_unnaming body = refl

pub kept_again_length : (fs : List Field) (body : Text) → T (canonical_fields fs) → kept_of (fs ++ (length_field body ∷ [])) ≡ fs
kept_again_length fs body h =
    let f = length_field body in
    let all = fs ++ (f ∷ []) in
    let u = All-push Unnaming fs f (canonical_unnaming fs h) (length_unnaming body) in
    kept_joined all fs (f ∷ []) ∙ ap (λ gs. gs ++ kept_among all (f ∷ [])) (kept_same all u fs h)
    ∙ ap (λ gs. fs ++ gs) (kept_out all f [] (length_out all body) ∙ kept_none all)
    ∙ append-nil fs

-- a field that frames the body is dropped, so that one fewer is kept
framing_out : (all : List Field) (name : Text) → (lowered name ≡ content_length) ⊎ (lowered name ≡ transfer_encoding) → is_dropped all name ≡ true
unfolding among same
framing_out all name (inl e) = rw e
framing_out all name (inr e) = rw e

only_fewer : (fs : List Field) (f : Field) → Only Unframing fs f → is_dropped fs f.name ≡ true → length (kept_of fs) + 1 ≤ length fs
only_fewer fs f o out =
    let b = o.before in
    let r = o.behind in
    let joined = o.joined in
    let kept : kept_of fs ≡ kept_among fs b ++ kept_among fs r = ap (kept_among fs) joined ∙ kept_joined fs b (f ∷ r) ∙ ap (λ gs. kept_among fs b ++ gs) (kept_out fs f r out) in
    let long : length (kept_of fs) ≡ length (kept_among fs b) + length (kept_among fs r) = ap length kept ∙ length-append (kept_among fs b) (kept_among fs r) in
    let all : length fs ≡ length b + length (f ∷ r) = ap length joined ∙ length-append b (f ∷ r) in
    omega (arith, long, all, fewer fs b, fewer fs r)

named_so : (name f : Text) → lowered name ≡ name → T (same_no_case f name) → lowered f ≡ name
named_so name f e h = same_is (lowered f) (lowered name) (is_true (same (lowered f) (lowered name)) h) ∙ e

pub fewer_by_length : (fs : List Field) (f : Field) → Only Unframing fs f → Named content_length f → length (kept_of fs) + 1 ≤ length fs
fewer_by_length fs f o h = only_fewer fs f o (framing_out fs f.name (inl (named_so content_length f.name (unfold lowered in refl) h)))

pub fewer_by_encoding : (fs : List Field) (f : Field) → Only Unframing fs f → Named transfer_encoding f → length (kept_of fs) + 1 ≤ length fs
fewer_by_encoding fs f o h = only_fewer fs f o (framing_out fs f.name (inr (named_so transfer_encoding f.name (unfold lowered in refl) h)))

-- the one host is kept, and no other field becomes one
hostless_kept : (f : Field) → Hostless f → Hostless (canonical_of f)
hostless_kept f h = rw (lowered_lowered f.name) h

host_in : (all : List Field) (name : Text) → T (same_no_case name (codes "host")) → is_dropped all name ≡ false
unfolding among same
host_in all name h =
    let e : lowered name ≡ codes "host" = named_so (codes "host") name (unfold lowered in refl) h in
    let b = is_true (same_no_case name (codes "host")) h in
    or_from (hop_by_hop name) (not (same_no_case name (codes "host")) && named_by name all) (rw e refl) (rw b refl)

host_joined : (fs : List Field) (f : Field) (o : Only Hostless fs f) → Named (codes "host") f → kept_of fs ≡ kept_among fs o.before ++ (canonical_of f ∷ kept_among fs o.behind)
host_joined fs f o h = ap (kept_among fs) o.joined ∙ kept_joined fs o.before (f ∷ o.behind) ∙ ap (λ gs. kept_among fs o.before ++ gs) (kept_in fs f o.behind (host_in fs f.name h))

pub kept_host : (fs : List Field) (f : Field) → Only Hostless fs f → Named (codes "host") f → Only Hostless (kept_of fs) (canonical_of f)
kept_host fs f o h =
    record {
      before = kept_among fs o.before;
      behind = kept_among fs o.behind;
      others = (kept_all Hostless Hostless fs (λ g e k. hostless_kept g k) o.before o.others.0, kept_all Hostless Hostless fs (λ g e k. hostless_kept g k) o.behind o.others.1);
      joined = host_joined fs f o h;
    }

pub kept_named : (f : Field) → Named (codes "host") f → Named (codes "host") (canonical_of f)
kept_named f h = rw (lowered_lowered f.name) h

-- counted, it is one
abbrev Other : Field → Type 0
Other f = same f.name (codes "host") ≡ false

other_kept : (f : Field) → Hostless f → Other (canonical_of f)
unfolding lowered
other_kept f h = is_false (same_no_case f.name (codes "host")) h

count_none : (fs : List Field) → AllByRecursion Other fs → count_named (codes "host") fs ≡ 0
unfolding count_named
count_none [] h = refl
count_none (f ∷ fs) h = rw h.0 (count_none fs h.1)

count_one : (fs gs : List Field) (f : Field) → AllByRecursion Other fs → AllByRecursion Other gs → same f.name (codes "host") ≡ true → count_named (codes "host") (fs ++ (f ∷ gs)) ≡ 1
unfolding count_named
count_one [] gs f h k e = rw (e, count_none gs k)
count_one (g ∷ fs) gs f h k e = rw h.0 (count_one fs gs f h.1 k e)

pub kept_one_host : (fs : List Field) (f : Field) → Only Hostless fs f → Named (codes "host") f → T (one_host (kept_of fs))
unfolding lowered
kept_one_host fs f o h =
    let others = kept_all Hostless Other fs (λ g e k. other_kept g k) in
    let one = ap (count_named (codes "host")) (host_joined fs f o h) ∙ count_one (kept_among fs o.before) (kept_among fs o.behind) (canonical_of f) (others o.before o.others.0) (others o.behind o.others.1) (is_true (same_no_case f.name (codes "host")) h) in
    rw one tt
