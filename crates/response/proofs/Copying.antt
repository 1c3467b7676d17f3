-- A copy's bytes are those of its parts, one after the other.
use Rattle.std.proofs.Common.{◌≡◌, ◌+◌, List, [], ◌∷◌, ◌++◌, Some, None, Option, length, sym, refl, ap, ◌∙◌, append_assoc, append-nil}
use Rattle.std.proofs.lemmas.List.{length-append}
use Rattle.text.specs.Bytes.{Text}
use Rattle.message.specs.Fields.{Field, field_lines, lines_of}
use Rattle.message.specs.Views.{field_bytes}
use Rattle.message.proofs.Lines.{lines_of_append, field_bytes_push}
use Rattle.request.specs.Canonical.{length_field}
use Rattle.response.specs.Copies.{Res, with_length, body_bytes, length_bytes, copy}

sent : (fs : List Field) (body : Option Text) → field_bytes (with_length fs body) ≡ field_bytes fs ++ length_bytes body
sent fs None = sym (append-nil (field_bytes fs))
sent fs (Some body) = field_bytes_push fs (length_field body)

one_line : (l : Text) → lines_of (l ∷ []) ≡ l ++ (13 ∷ 10 ∷ [])
unfolding lines_of
one_line l = refl

head_parts : (r : Res) → ((r.line ++ (13 ∷ 10 ∷ [])) ++ field_bytes r.fields) ++ length_bytes r.body ≡ lines_of (r.line ∷ field_lines (with_length r.fields r.body))
head_parts r =
    append_assoc (r.line ++ (13 ∷ 10 ∷ [])) (field_bytes r.fields) (length_bytes r.body)
    ∙ ap (λ t. (r.line ++ (13 ∷ 10 ∷ [])) ++ t) (sym (sent r.fields r.body))
    ∙ ap (λ t. t ++ field_bytes (with_length r.fields r.body)) (sym (one_line r.line))
    ∙ sym (lines_of_append (r.line ∷ []) (field_lines (with_length r.fields r.body)))

pub copy_parts : (r : Res) → ((((r.line ++ (13 ∷ 10 ∷ [])) ++ field_bytes r.fields) ++ length_bytes r.body) ++ (13 ∷ 10 ∷ [])) ++ body_bytes r.body ≡ copy r
copy_parts r =
    append_assoc (((r.line ++ (13 ∷ 10 ∷ [])) ++ field_bytes r.fields) ++ length_bytes r.body) (13 ∷ 10 ∷ []) (body_bytes r.body) ∙ ap (λ t. t ++ (13 ∷ 10 ∷ body_bytes r.body)) (head_parts r)

pub copy_len : (r : Res) → length (copy r) ≡ length r.line + 2 + length (field_bytes r.fields) + length (length_bytes r.body) + 2 + length (body_bytes r.body)
copy_len r = sym (ap length (copy_parts r)) ∙ simp length-append
