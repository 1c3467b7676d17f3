-- The lines of fields and of a request, part by part.
use Rattle.std.proofs.Common.{◌≡◌, Bool, true, cond, List, [], ◌∷◌, ◌++◌, sym, refl, ap, ◌∙◌, append_assoc, append-nil, flat_map}
use Rattle.std.proofs.lemmas.Grind.{flat_map-append}
use Rattle.text.specs.Bytes.{Text}
use Rattle.message.specs.Fields.{Field, line_of, field_lines}
use Rattle.message.specs.SentViews.{view_sent_field, view_sent_fields}
use Rattle.message.specs.declared.sent_field.SentField.{SentField as Held}
use Rattle.request.specs.Canonical.{Req, carries_body, first_line, length_field, head_lines}
use Rattle.report.specs.Report.{indented_line, indented, body_line, request_lines}

-- the lines of fields are those of each field
pub indented_fields : (fs : List Held) → flat_map (λ f. indented_line (line_of (view_sent_field f))) fs ≡ indented (field_lines (view_sent_fields fs))
unfolding field_lines
indented_fields [] = refl
indented_fields (f ∷ fs) = ap (λ t. indented_line (line_of (view_sent_field f)) ++ t) (indented_fields fs)

lines_push : (fs : List Field) (f : Field) → field_lines (fs ++ (f ∷ [])) ≡ field_lines fs ++ (line_of f ∷ [])
unfolding field_lines
lines_push [] f = refl
lines_push (g ∷ gs) f = ap (λ ls. line_of g ∷ ls) (lines_push gs f)

-- one line more
indented_push : (ls : List Text) (l : Text) → indented (ls ++ (l ∷ [])) ≡ indented ls ++ indented_line l
indented_push ls l = flat_map-append indented_line ls (l ∷ []) ∙ ap (λ t. indented ls ++ t) (append-nil (indented_line l))

-- the lines of a request with a body
pub with_body : (q : Req) → carries_body q.method ≡ true →
    ((indented_line (first_line q.method q.target) ++ indented (field_lines q.fields)) ++ indented_line (line_of (length_field q.body))) ++ body_line q.body ≡ request_lines q
with_body q some =
    let first = indented_line (first_line q.method q.target) in
    let fields = ap (λ (b : Bool). indented (field_lines (cond b (q.fields ++ (length_field q.body ∷ [])) q.fields))) some ∙ ap indented (lines_push q.fields (length_field q.body)) ∙ indented_push (field_lines q.fields) (line_of (length_field q.body)) in
    ap (λ t. t ++ body_line q.body) (append_assoc first (indented (field_lines q.fields)) (indented_line (line_of (length_field q.body))) ∙ ap (λ t. first ++ t) (sym fields))
    ∙ ap (λ (b : Bool). indented (head_lines q) ++ cond b (body_line q.body) []) (sym some)
