-- A request's bytes are those of its parts, one after the other.
use Rattle.std.proofs.Common.{◌≡◌, Bool, true, false, cond, List, [], ◌∷◌, ◌++◌, ◌+◌, length, sym, ap, ◌∙◌, append_assoc, append-nil, arith}
use Rattle.std.proofs.lemmas.List.{length-append}
use Rattle.message.specs.Fields.{Field, field_lines, lines_of}
use Rattle.message.specs.Views.{field_line, field_bytes}
use Rattle.message.proofs.Lines.{lines_of_append, field_bytes_push}
use Rattle.request.specs.Canonical.{Req, carries_body, first_line, length_field, sent_fields, head_lines, write}
use Rattle.request.specs.Writing.{head_length, first_bytes, length_bytes}

sent : (fs : List Field) (f : Field) (b : Bool) → field_bytes (cond b (fs ++ (f ∷ [])) fs) ≡ field_bytes fs ++ cond b (field_line f) []
sent fs f true = field_bytes_push fs f
sent fs f false = sym (append-nil (field_bytes fs))

-- the lines of a head
pub head_parts : (q : Req) → (first_bytes q ++ field_bytes q.fields) ++ length_bytes q ≡ lines_of (head_lines q)
head_parts q =
    append_assoc (first_bytes q) (field_bytes q.fields) (length_bytes q)
    ∙ ap (λ t. first_bytes q ++ t) (sym (sent q.fields (length_field q.body) (carries_body q.method)))
    ∙ sym (lines_of_append (first_line q.method q.target ∷ []) (field_lines (sent_fields q)))

pub write_parts : (q : Req) → (((first_bytes q ++ field_bytes q.fields) ++ length_bytes q) ++ (13 ∷ 10 ∷ [])) ++ q.body ≡ write q
write_parts q =
    append_assoc ((first_bytes q ++ field_bytes q.fields) ++ length_bytes q) (13 ∷ 10 ∷ []) q.body ∙ ap (λ t. t ++ (13 ∷ 10 ∷ q.body)) (head_parts q)

-- and how many they are
pub first_len : (q : Req) → length (first_bytes q) ≡ length q.method + length q.target + 12
unfolding lines_of
first_len q = simp length-append (omega arith)

pub head_len : (q : Req) → head_length q ≡ length (first_bytes q) + length (field_bytes q.fields) + length (length_bytes q) + 2
head_len q = ap (λ n. n + 2) (sym (ap length (head_parts q)) ∙ simp length-append)
