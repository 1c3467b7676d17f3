-- The strict reader is fair.
use Rattle.std.proofs.Common.{◌≡◌, ℕ, false, not, ◌&&◌, ◌||◌, T, eqb, List, [], ◌∷◌, ◌++◌, length, drop, Some, sym, refl, ap, ◌∙◌, arith}
use Rattle.std.specs.List.{AllByRecursion}
use Rattle.std.proofs.ByRecursion.{All-push}
use Rattle.std.proofs.lemmas.List.{append-nil}
use Rattle.std.proofs.lemmas.Bool.{cond-false, or_parts}
use Rattle.text.specs.Bytes.{Text, all, same, among, clean, nonempty, upper, visible, blank, name_byte, value_byte}
use Rattle.text.specs.Trims.{trimmed}
use Rattle.message.specs.Fields.{Field, canonical_field, canonical_fields, canonical_value, value_tail, lower_name_byte, line_of, field_lines, dropped, content_length, transfer_encoding}
use Rattle.request.specs.Canonical.{canonical_method, begins_with_slash, canonical_target, length_field, first_line, version}
use Rattle.reader.specs.Reader.{Cut, Short, Line, Many, One}
use Rattle.reader.specs.Strict.{before, split_line, ask_of, ask_from, read_ask, field_of, read_fields, values_of, exactly, read_size}
use Rattle.reader.specs.Laws.{StrictIsFair}
use Rattle.text.proofs.Passing.{is_true, is_false, and_l, and_r, not_end, differs, all_weaker}
use Rattle.text.specs.Marks.{cut_at}
use Rattle.text.proofs.Marking.{cut_at_so}
use Rattle.text.specs.declared.numeral.Base.TheVariants.{Decimal}
use Rattle.text_laws.proofs.Digits.{read_back}
use Rattle.text_laws.proofs.Ends.{trims}
use Rattle.text_laws.specs.Laws.{blank_first, blank_last}
use Rattle.message.proofs.Canonical.{name_byte_so}
use Rattle.message.proofs.Settled.{lowered_name}
use Rattle.reader.proofs.Plain.{Plain, canonical_plain, length_plain, value_bytes}

-- a byte that ends no line belongs to the line
split_step : (c : ℕ) (s : Text) → T (not_end c) → split_line (c ∷ s) ≡ before c (split_line s)
unfolding split_line
split_step c [] h = refl
split_step c (d ∷ s) h = rw (differs not_end 13 c refl h)

-- a clean text l goes before what is found behind it
split_past : (found : Text → Cut) → ((c : ℕ) (l : Text) → before c (found l) ≡ found (c ∷ l)) → (s : Text) → split_line s ≡ found [] → (l : Text) → T (clean l) → split_line (l ++ s) ≡ found l
unfolding all
split_past found more s e [] h = e
split_past found more s e (c ∷ l) h =
    split_step c (l ++ s) (and_l (not_end c) (clean l) h) ∙ ap (before c) (split_past found more s e l (and_r (not_end c) (clean l) h)) ∙ more c l

-- a target that begins with a slash has some bytes
slash_some : (t : Text) → T (begins_with_slash t) → T (nonempty t)
unfolding begins_with_slash nonempty
slash_some [] h = absurd h
slash_some (c ∷ t) h = tt

ask_read : (m t : Text) → T (canonical_method m) → T (canonical_target t) → read_ask (first_line m t) ≡ One m t
unfolding same
ask_read m t g h =
    let a : T (nonempty m) = search (and_l, and_r) in
    let b : T (all upper m) = search (and_l, and_r) in
    let c : T (nonempty t) = slash_some t (and_l (begins_with_slash t) (all visible t) h) in
    let d : T (all visible t) = search (and_l, and_r) in
    ap ask_of (cut_at_so 32 upper refl m (t ++ (32 ∷ version)) b) ∙ ap (ask_from m) (cut_at_so 32 visible refl t version d) ∙
    rw (is_true (nonempty m) a, is_true (all upper m) b, is_true (nonempty t) c, is_true (all visible t) d)

-- a canonical value is bare at its ends
not_blank : (c : ℕ) → T (visible c) → T (not (blank c))
not_blank c h = rw (differs visible 32 c refl h, differs visible 9 c refl h) tt

tail_bare : (t : Text) → T (value_tail t) → T (not (blank_last t))
unfolding value_tail blank_last
tail_bare [] h = tt
tail_bare (c ∷ []) h = not_blank c h
tail_bare (c ∷ d ∷ t) h = tail_bare (d ∷ t) (and_r (visible c || (eqb c 32 && visible d)) (value_tail (d ∷ t)) h)

value_bare : (v : Text) → T (canonical_value v) → T (not (blank_first v)) × T (not (blank_last v))
unfolding canonical_value blank_first
value_bare [] h = (tt, unfold blank_last in tt)
value_bare (c ∷ t) h = (not_blank c (and_l (visible c) (value_tail (c ∷ t)) h), tail_bare (c ∷ t) (and_r (visible c) (value_tail (c ∷ t)) h))

value_trimmed : (v : Text) → T (canonical_value v) → trimmed (32 ∷ v) ≡ v
unfolding all
value_trimmed v h = (trims (32 ∷ v) v).1 record { front = 32 ∷ []; back = []; blanks = (tt, tt); bare = value_bare v h; joined = ap (λ u. 32 ∷ u) (sym (append-nil v)) }

pub field_read : (f : Field) → Plain f → field_of (cut_at 58 (line_of f)) ≡ Some f
unfolding all
field_read f p =
    ap field_of (cut_at_so 58 lower_name_byte refl f.name (32 ∷ f.value) p.name) ∙
    rw (is_true (nonempty f.name) p.some, is_true (all name_byte f.name) (all_weaker lower_name_byte name_byte name_byte_so f.name p.name), is_true (all value_byte f.value) (value_bytes f.value p.value), lowered_name f.name p.name, value_trimmed f.value p.value)

pub fields_read : (fs : List Field) → AllByRecursion Plain fs → read_fields (field_lines fs) ≡ Many fs
unfolding read_fields field_lines
fields_read [] h = refl
fields_read (f ∷ fs) h = rw (field_read f h.0, fields_read fs h.1)

-- canonical fields have no length and no encoding
pub not_framing : (n : Text) → T (not (among n dropped)) → (same n content_length ≡ false) × (same n transfer_encoding ≡ false)
unfolding among
not_framing n h =
    let e = or_parts (same n content_length) (among n (drop 1 dropped)) (is_false (among n dropped) h) in
    (e.0, (or_parts (same n transfer_encoding) (among n (drop 2 dropped)) e.1).0)

pub values_past : (n : Text) → ((m : Text) → T (not (among m dropped)) → same m n ≡ false) → (fs gs : List Field) → T (canonical_fields fs) → values_of n (fs ++ gs) ≡ values_of n gs
unfolding canonical_fields values_of
values_past n e [] gs h = refl
values_past n e (f ∷ fs) gs h =
    cond-false (same f.name n) (f.value ∷ values_of n (fs ++ gs)) (values_of n (fs ++ gs)) (e f.name (search (and_l, and_r))) ∙ values_past n e fs gs (and_r (canonical_field f) (canonical_fields fs) h)

size_past : (m : Text) (fs gs : List Field) → T (canonical_fields fs) → read_size m (fs ++ gs) ≡ read_size m gs
size_past m fs gs h = rw (values_past transfer_encoding (λ n d. (not_framing n d).1) fs gs h, values_past content_length (λ n d. (not_framing n d).0) fs gs h)

pub strict_is_fair : StrictIsFair
unfolding split_line values_of same
strict_is_fair = record {
  whole_line = λ l rest h m. split_past (λ t. Line t rest) (λ c t. refl) (13 ∷ 10 ∷ rest) refl l h;
  part_line = λ l h m. ap split_line (sym (append-nil l)) ∙ split_past (λ t. Short) (λ c t. refl) [] refl l h;
  part_end = λ l h m. split_past (λ t. Short) (λ c t. refl) (13 ∷ []) refl l h;
  plain_ask = λ m t g h l. ask_read m t g h;
  plain_fields = λ fs h o l. fields_read fs (canonical_plain fs h);
  length_last = λ fs body h o l s. fields_read (fs ++ (length_field body ∷ [])) (All-push Plain fs (length_field body) (canonical_plain fs h) (length_plain body));
  size_given = λ m fs body a b h o l s. size_past m fs (length_field body ∷ []) h ∙ ap exactly (read_back Decimal (length body) (omega arith));
  size_none = λ m fs a b h o l. ap (read_size m) (sym (append-nil fs)) ∙ size_past m fs [] h;
}
