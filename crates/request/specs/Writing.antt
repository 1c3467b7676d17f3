-- What the code holds of a canonical request, as a value, and what writing one does to the output.
use Rattle.std.specs.Prelude.{◌≡◌, ℕ, ◌+◌, ◌<◌, ◌≤◌, cond, [], ◌∷◌, ◌++◌, length, drop, Ok, Err, Result}
use Rattle.text.specs.Bytes.{Text, capped}
use Rattle.message.specs.Fields.{Field, lines_of}
use Rattle.message.specs.Views.{view_field, fields_by, field_line}
use Rattle.message.specs.declared.field.Field.{Field as Held}
use Rattle.request.specs.Canonical.{Req, carries_body, first_line, length_field, head_lines}
use Rattle.request.specs.declared.canonical.Request.{Request}
use Rattle.request.specs.declared.canonical.Full.{Full}

-- a request by what each of its fields stands for
abbrev pub request_by : {F : Type 0} → (F → Field) → Request F → Req
request_by view q = record { method = q.method.now; target = q.target.now; fields = fields_by view q.fields.now; body = q.body.now }

-- one whose fields are held in canonical form
abbrev pub view_request : Request Held → Req
view_request q = request_by view_field q

-- how many bytes a canonical head has, its empty line included
abbrev pub head_length : Req → ℕ
head_length q = length (lines_of (head_lines q)) + 2

-- the bytes of the first line
abbrev pub first_bytes : Req → Text
first_bytes q = lines_of (first_line q.method q.target ∷ [])

-- the bytes of the length, where there is one
abbrev pub length_bytes : Req → Text
length_bytes q = cond (carries_body q.method) (field_line (length_field q.body)) []

-- All of ys at the front of an output that held xs, and every other byte as it was; or, where there is no room, how much is wanted (the largest
-- number of 64 bits where it is more than that), and the output as it was.
abbrev pub Written : Text → Text → Text → Result ℕ Full → Type 0
Written ys xs then (Ok n) = (n ≡ length ys) × (length ys ≤ length xs) × (then ≡ ys ++ drop (length ys) xs)
Written ys xs then (Err full) = (full.wanted ≡ capped (length ys)) × (length xs < length ys) × (then ≡ xs)
