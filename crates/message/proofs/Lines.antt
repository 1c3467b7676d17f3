-- Lines of fields, one more at the end.
use Rattle.std.proofs.Common.{◌≡◌, ℕ, ◌+◌, ◌<◌, List, [], ◌∷◌, ◌++◌, length, get_or, take, sym, refl, ap, ◌∙◌, append_assoc}
use Rattle.std.proofs.lemmas.List.{map_more}
use Rattle.text.specs.Bytes.{Text}
use Rattle.message.specs.Fields.{Field, line_of, field_lines, lines_of}
use Rattle.message.specs.Views.{fields_by, field_line, field_bytes}

pub field_lines_append : (fs gs : List Field) → field_lines (fs ++ gs) ≡ field_lines fs ++ field_lines gs
unfolding field_lines
field_lines_append [] gs = refl
field_lines_append (f ∷ fs) gs = ap (λ ls. line_of f ∷ ls) (field_lines_append fs gs)

pub lines_of_append : (ls ms : List Text) → lines_of (ls ++ ms) ≡ lines_of ls ++ lines_of ms
unfolding lines_of
lines_of_append [] ms = refl
lines_of_append (l ∷ ls) ms = ap (λ t. l ++ (13 ∷ 10 ∷ t)) (lines_of_append ls ms) ∙ sym (append_assoc l (13 ∷ 10 ∷ lines_of ls) (lines_of ms))

-- the bytes of fields, and of one more
pub field_bytes_push : (fs : List Field) (f : Field) → field_bytes (fs ++ (f ∷ [])) ≡ field_bytes fs ++ field_line f
unfolding field_lines
field_bytes_push fs f = ap lines_of (field_lines_append fs (f ∷ [])) ∙ lines_of_append (field_lines fs) (field_lines (f ∷ []))

-- the same at a step of a loop over what holds them, at its element x
pub field_bytes_more : {F : Type 0} (view : F → Field) (fs : List F) (i : ℕ) (x : F) → i < length fs → x ≡ get_or fs i x → field_bytes (fields_by view (take i fs)) ++ field_line (view x) ≡ field_bytes (fields_by view (take (i + 1) fs))
field_bytes_more view fs i x h is = ap (λ y. field_bytes (fields_by view (take i fs)) ++ field_line (view y)) is ∙ sym (ap field_bytes (map_more view fs i x h) ∙ field_bytes_push (fields_by view (take i fs)) (view (get_or fs i x)))

-- the line of a field from its parts
pub line_parts : (f : Field) → ((f.name ++ (58 ∷ 32 ∷ [])) ++ f.value) ++ (13 ∷ 10 ∷ []) ≡ field_line f
unfolding lines_of
line_parts f = simp append_assoc
