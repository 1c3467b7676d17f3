-- Fields whose names are changed, or whose lines are joined: those in canonical form are read as they are.
use Rattle.std.proofs.Common.{◌≡◌, ℕ, true, false, not, T, List, [], ◌∷◌, ◌++◌, Some, refl, sym, ap, ◌∙◌, append-nil}
use Rattle.std.specs.List.{AllByRecursion}
use Rattle.std.specs.Option.{option_map}
use Rattle.std.proofs.lemmas.Bool.{cond-false}
use Rattle.text.specs.Bytes.{Text, all, nonempty, blank}
use Rattle.text.specs.Marks.{cut_at}
use Rattle.text.specs.Trims.{trimmed, trimmed_back}
use Rattle.text.proofs.Passing.{and_l, and_r, differs}
use Rattle.text.proofs.Marking.{cut_at_so}
use Rattle.text_laws.specs.Laws.{blank_first, blank_last}
use Rattle.text_laws.proofs.Ends.{trims}
use Rattle.message.specs.Fields.{Field, lower_name_byte, line_of, field_lines}
use Rattle.reader.specs.Reader.{Many}
use Rattle.reader.specs.Strict.{field_of, one_more}
use Rattle.reader.proofs.Plain.{Plain}
use Rattle.reader.proofs.Strictly.{field_read}
use Rattle.forgiving.specs.Readers.{fields_by, hyphened, goes_on, joined_on, joined}

-- a name is one in lower case
abbrev pub Lower : Text → Type 0
Lower n = T (all lower_name_byte n)

-- what leaves such names as they are reads fields with them as they are
pub renamed_read : (rename : Text → Text) → ((n : Text) → Lower n → rename n ≡ n) → (fs : List Field) → AllByRecursion Plain fs → fields_by rename (field_lines fs) ≡ Many fs
unfolding fields_by field_lines
renamed_read rename same [] h = refl
renamed_read rename same (f ∷ fs) h =
    let cut : cut_at 58 (line_of f) ≡ Some (f.name, 32 ∷ f.value) = cut_at_so 58 lower_name_byte refl f.name (32 ∷ f.value) (h.0).name in
    let own : option_map (λ p. (rename p.0, p.1)) (cut_at 58 (line_of f)) ≡ cut_at 58 (line_of f) =
    ap (option_map (λ p. (rename p.0, p.1))) cut ∙ ap (λ n. Some (n, 32 ∷ f.value)) (same f.name (h.0).name) ∙ sym cut in
    ap (λ o. one_more (field_of o) (fields_by rename (field_lines fs))) own
    ∙ rw (field_read f h.0, renamed_read rename same fs h.1)

-- no byte of such a name is a blank
not_blank : (c : ℕ) → T (lower_name_byte c) → blank c ≡ false
not_blank c h = rw (differs lower_name_byte 32 c refl h, differs lower_name_byte 9 c refl h)

last_bare : (n : Text) → Lower n → blank_last n ≡ false
unfolding all blank_last
last_bare [] h = refl
last_bare (c ∷ []) h = not_blank c (and_l (lower_name_byte c) true h)
last_bare (c ∷ d ∷ n) h = last_bare (d ∷ n) (and_r (lower_name_byte c) (all lower_name_byte (d ∷ n)) h)

bare : (n : Text) → T (not (blank_first n)) → T (not (blank_last n)) → trimmed n ≡ n
unfolding all
bare n first last = (trims n n).1 record { front = []; back = []; blanks = (tt, tt); bare = (first, last); joined = sym (append-nil n) }

pub none_cut : (n : Text) → Lower n → trimmed_back n ≡ n
unfolding all blank_first
none_cut [] h = refl
none_cut (c ∷ n) h =
    let first : blank c ≡ false = not_blank c (and_l (lower_name_byte c) (all lower_name_byte n) h) in
    let front : trimmed (c ∷ n) ≡ trimmed_back (c ∷ n) = rw first refl in
    sym front ∙ bare (c ∷ n) (rw first tt) (rw (last_bare (c ∷ n) h) tt)

-- nor a low line
pub none_hyphened : (n : Text) → Lower n → hyphened n ≡ n
unfolding all
none_hyphened [] h = refl
none_hyphened (c ∷ n) h =
    rw (differs lower_name_byte 95 c refl (and_l (lower_name_byte c) (all lower_name_byte n) h)) (ap (λ t. c ∷ t) (none_hyphened n (and_r (lower_name_byte c) (all lower_name_byte n) h)))

-- no line of a field goes on with another
first_on : (n v : Text) → T (nonempty n) → Lower n → goes_on (n ++ (58 ∷ 32 ∷ v)) ≡ false
unfolding all nonempty
first_on [] v s h = absurd s
first_on (c ∷ n) v s h = not_blank c (and_l (lower_name_byte c) (all lower_name_byte n) h)

on_none : (l : Text) (fs : List Field) → AllByRecursion Plain fs → joined_on l (field_lines fs) ≡ l ∷ field_lines fs
unfolding joined_on field_lines
on_none l [] h = refl
on_none l (f ∷ fs) h = cond-false (goes_on (line_of f)) _ _ (first_on f.name f.value (h.0).some (h.0).name) ∙ ap (λ ls. l ∷ ls) (on_none (line_of f) fs h.1)

pub none_joined : (fs : List Field) → AllByRecursion Plain fs → joined (field_lines fs) ≡ field_lines fs
unfolding field_lines
none_joined [] h = refl
none_joined (f ∷ fs) h = on_none (line_of f) fs h.1
