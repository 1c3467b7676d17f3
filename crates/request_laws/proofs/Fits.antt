-- Fields as lines may hold them, and what canonical form makes of them.
use Rattle.std.proofs.Common.{◌≡◌, ℕ, ◌≤◌, Bool, true, false, not, ◌&&◌, ◌||◌, T, eqb, List, [], ◌∷◌, ◌++◌, length, sym, refl, ap, append-nil, arith, le→leb, leb→le}
use Rattle.std.specs.List.{AllByRecursion}
use Rattle.std.proofs.lemmas.Bool.Decides.{nat_tests}
use Rattle.text.specs.Bytes.{Text, lower, lowered, digit, name_byte, visible, blank, value_byte, all, among, nonempty}
use Rattle.text.specs.Numerals.{decimal}
use Rattle.text.specs.Trims.{squeezed, squeezed_after}
use Rattle.text.proofs.Folding.{length_lowered}
use Rattle.text.proofs.Numbers.{decimal_digits}
use Rattle.text.proofs.Passing.{is_true, is_false, and_i, and_l, and_r, so, all_weaker}
use Rattle.text_laws.specs.Laws.{blank_first, blank_last}
use Rattle.message.specs.Fields.{Field, dropped, name_limit, lower_name_byte, value_tail, canonical_value, canonical_field, canonical_fields, line_of, field_lines, lines_of}
use Rattle.message.specs.Hops.{canonical_of}
use Rattle.message.proofs.Canonical.{name_byte_so, tail_bytes, visible_value}
use Rattle.request.specs.Canonical.{length_field}
use Rattle.request_laws.specs.Lines.{FieldSpelled, LinesSpelled, none, line}
use Rattle.request_laws.proofs.Leads.{all_front, all_behind}

-- a field as a line may hold it
pub record Fit (f : Field) : Type 0 where
  pub some : T (nonempty f.name)
  pub short : length f.name ≤ name_limit
  pub name : T (all name_byte f.name)
  pub value : T (all value_byte f.value)
  pub bare : T (not (blank_first f.value)) × T (not (blank_last f.value))

-- fields of spelled lines are such fields
field_fit : (l : Text) (f : Field) → FieldSpelled l f → Fit f
field_fit l f s =
    let t = s.trims in
    let bytes : T (all value_byte (t.front ++ (f.value ++ t.back))) = rw t.joined at s.bytes in
    record { some = s.named.0; short = s.named.1; name = s.named.2; value = all_front value_byte f.value t.back (all_behind value_byte t.front (f.value ++ t.back) bytes); bare = t.bare }

pub lines_fit : (t : Text) (fs : List Field) → LinesSpelled t fs → AllByRecursion Fit fs
lines_fit t fs none = tt
lines_fit t fs (line l u {f} {fs = gs} s more) = (field_fit l f s, lines_fit u gs more)

-- and the lines that are written for such fields are spelled
fit_field : (f : Field) → Fit f → FieldSpelled (line_of f) f
unfolding all
fit_field f h =
    record {
      behind = 32 ∷ f.value;
      named = (h.some, h.short, h.name);
      bytes = h.value;
      trims = record { front = 32 ∷ []; back = []; blanks = (tt, tt); bare = h.bare; joined = ap (λ v. 32 ∷ v) (sym (append-nil f.value)) };
      text = refl;
    }

pub fit_lines : (fs : List Field) → AllByRecursion Fit fs → LinesSpelled (lines_of (field_lines fs)) fs
unfolding lines_of field_lines
fit_lines [] h = none
fit_lines (f ∷ fs) h = line (line_of f) (lines_of (field_lines fs)) (fit_field f h.0) (fit_lines fs h.1)

-- a name in lower case
lower_name : (c : ℕ) → T (name_byte c) → T (lower_name_byte (lower c))
lower_name c h = so (name_byte c) (lower_name_byte (lower c)) (λ e. grind (arith, nat_tests)) h

names_lowered : (t : Text) → T (all name_byte t) → T (all lower_name_byte (lowered t))
unfolding all lowered
names_lowered [] h = tt
names_lowered (c ∷ t) h = and_i (lower_name_byte (lower c)) (all lower_name_byte (lowered t)) (lower_name c (and_l (name_byte c) (all name_byte t) h)) (names_lowered t (and_r (name_byte c) (all name_byte t) h))

some_lowered : (t : Text) → T (nonempty t) → T (nonempty (lowered t))
unfolding nonempty lowered
some_lowered [] h = h
some_lowered (c ∷ t) h = tt

-- a value with single spaces: what may follow a space
unfoldable begins : Text → Bool
begins [] = false
begins (c ∷ t) = visible c && value_tail (c ∷ t)

seen : (c : ℕ) → T (value_byte c) → blank c ≡ false → T (visible c)
seen c h e = so (value_byte c) (visible c) (λ f. grind (arith, nat_tests)) h

after_space : (t : Text) → T (begins t) → T (value_tail (32 ∷ t))
unfolding begins value_tail
after_space [] h = absurd h
after_space (c ∷ t) h = h

after_visible : (c : ℕ) (t : Text) → T (visible c) → T (value_tail t) → T (value_tail (c ∷ t))
unfolding value_tail
after_visible c [] v h = v
after_visible c (d ∷ t) v h = and_i (visible c || (eqb c 32 && visible d)) (value_tail (d ∷ t)) (rw (is_true (visible c) v) tt) h

begin_visible : (c : ℕ) (t : Text) → T (visible c) → T (value_tail t) → T (begins (c ∷ t))
unfolding begins
begin_visible c t v h = and_i (visible c) (value_tail (c ∷ t)) v (after_visible c t v h)

-- one byte more, in a run of blanks and outside
squeezed_one : (c : ℕ) (t : Text) (b : Bool) → blank c ≡ b → T (value_byte c) → T (begins (squeezed_after true t)) → T (value_tail (squeezed_after false t)) → T (begins (squeezed_after true (c ∷ t))) × T (value_tail (squeezed_after false (c ∷ t)))
unfolding squeezed_after
squeezed_one c t true e v g h = rw e (g, after_space (squeezed_after true t) g)
squeezed_one c t false e v g h =
    let s = squeezed_after false t in
    rw e (begin_visible c s (seen c v e) h, after_visible c s (seen c v e) h)

squeezed_tail : (c : ℕ) (t : Text) → T (all value_byte (c ∷ t)) → T (not (blank_last (c ∷ t))) → T (begins (squeezed_after true (c ∷ t))) × T (value_tail (squeezed_after false (c ∷ t)))
unfolding all blank_last squeezed_after value_tail
squeezed_tail c [] h last =
    let e = is_false (blank c) last in
    let v = seen c (and_l (value_byte c) true h) e in
    rw e (begin_visible c [] v tt, v)
squeezed_tail c (d ∷ t) h last =
    let more = squeezed_tail d t (and_r (value_byte c) (all value_byte (d ∷ t)) h) last in
    squeezed_one c (d ∷ t) (blank c) refl (and_l (value_byte c) (all value_byte (d ∷ t)) h) more.0 more.1

-- the squeezed value of a field that a line may hold
value_canonical : (t : Text) → T (all value_byte t) → T (not (blank_first t)) → T (not (blank_last t)) → T (canonical_value (squeezed t))
unfolding canonical_value squeezed_after blank_first all
value_canonical [] h first last = tt
value_canonical (c ∷ t) h first last =
    let e = is_false (blank c) first in
    let tail : T (value_tail (c ∷ squeezed_after false t)) = rw e at (squeezed_tail c t h last).1 in
    rw e (and_i (visible c) (value_tail (c ∷ squeezed_after false t)) (seen c (and_l (value_byte c) (all value_byte t) h) e) tail)

-- so that canonical form makes a canonical field of it, where its name is none of the dropped ones
pub canonical_of_so : (f : Field) → Fit f → among (lowered f.name) dropped ≡ false → T (canonical_field (canonical_of f))
canonical_of_so f h e =
    let n = lowered f.name in
    let short = le→leb (length n) name_limit (rw (length_lowered f.name) h.short) in
    let some = some_lowered f.name h.some in
    let name = names_lowered f.name h.name in
    let kept : T (not (among n dropped)) = rw e tt in
    let value = value_canonical f.value h.value h.bare.0 h.bare.1 in
    search and_i depth 6

-- a canonical value is bare at its ends
visible_bare : (c : ℕ) → T (visible c) → T (not (blank c))
visible_bare c h = so (visible c) (not (blank c)) (λ e. grind (arith, nat_tests)) h

tail_bare : (t : Text) → T (value_tail t) → T (not (blank_last t))
unfolding value_tail blank_last
tail_bare [] h = tt
tail_bare (c ∷ []) h = visible_bare c h
tail_bare (c ∷ d ∷ t) h = tail_bare (d ∷ t) (and_r (visible c || (eqb c 32 && visible d)) (value_tail (d ∷ t)) h)

value_fit : (t : Text) → T (canonical_value t) → T (all value_byte t) × T (not (blank_first t)) × T (not (blank_last t))
unfolding canonical_value
value_fit [] h = (unfold all in tt, unfold blank_first in tt, unfold blank_last in tt)
value_fit (c ∷ t) h =
    let tail = and_r (visible c) (value_tail (c ∷ t)) h in
    (tail_bytes (c ∷ t) tail, unfold blank_first in visible_bare c (and_l (visible c) (value_tail (c ∷ t)) h), tail_bare (c ∷ t) tail)

-- canonical fields, and the length, are fields as a line may hold them
canonical_fit : (f : Field) → T (canonical_field f) → Fit f
canonical_fit f h =
    let v = value_fit f.value (search (and_l, and_r) depth 8) in
    record {
      some = search (and_l, and_r) depth 8;
      short = leb→le (length f.name) name_limit (search (and_l, and_r) depth 8);
      name = all_weaker lower_name_byte name_byte name_byte_so f.name (search (and_l, and_r) depth 8);
      value = v.0;
      bare = (v.1, v.2);
    }

-- what holds of a canonical field holds of each of canonical fields
pub each_canonical : (P : Field → Type 0) → ((f : Field) → T (canonical_field f) → P f) → (fs : List Field) → T (canonical_fields fs) → AllByRecursion P fs
unfolding canonical_fields
each_canonical P go [] h = tt
each_canonical P go (f ∷ fs) h = (go f (and_l (canonical_field f) (canonical_fields fs) h), each_canonical P go fs (and_r (canonical_field f) (canonical_fields fs) h))

pub all_fit : (fs : List Field) → T (canonical_fields fs) → AllByRecursion Fit fs
all_fit fs h = each_canonical Fit canonical_fit fs h

pub length_fit : (body : Text) → Fit (length_field body)
unfolding all nonempty
length_fit body =
    let n = decimal (length body) in
    let v = value_fit n (visible_value n (all_weaker digit visible (λ c h. so (digit c) (visible c) (λ e. grind (arith, nat_tests)) h) n (decimal_digits (length body)))) in
    record { some = tt; short = omega arith; name = tt; value = v.0; bare = (v.1, v.2) }
