-- A response as its client gets it, and its bytes.
use Rattle.std.specs.Prelude.{List, [], ◌∷◌, ◌++◌, Some, None, Option}
use Rattle.std.specs.Option.{option_map}
use Rattle.text.specs.Bytes.{Text}
use Rattle.message.specs.Fields.{Field, field_lines, lines_of}
use Rattle.message.specs.SentViews.{view_sent_fields}
use Rattle.message.specs.Views.{field_line}
use Rattle.request.specs.Canonical.{length_field}
use Rattle.response.specs.declared.copy.Response.{Response}

-- the first line, the fields in canonical form, and the body, or that none may follow
pub record Res : Type 0 where
  pub line : Text
  pub fields : List Field
  pub body : Option Text

-- the fields as they are sent: where a body may follow, its length is the last
abbrev pub with_length : List Field → Option Text → List Field
with_length fs None = fs
with_length fs (Some body) = fs ++ (length_field body ∷ [])

abbrev pub body_bytes : Option Text → Text
body_bytes None = []
body_bytes (Some body) = body

-- The copy of a response: the first line, the fields, an empty line, the body. RFC 9112, 2.1
abbrev pub copy : Res → Text
copy r = lines_of (r.line ∷ field_lines (with_length r.fields r.body)) ++ (13 ∷ 10 ∷ body_bytes r.body)

-- the bytes of the length, where there is one
abbrev pub length_bytes : Option Text → Text
length_bytes None = []
length_bytes (Some body) = field_line (length_field body)

-- what the code holds, as a value
abbrev pub view_response : Response → Res
view_response r = record { line = r.line.now; fields = view_sent_fields r.fields.now; body = option_map (λ b. b.now) r.body }
