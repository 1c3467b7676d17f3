-- A request that a reader has found, told as lines of text.
use Rattle.std.specs.Prelude.{Bool, cond, ◌||◌, [], ◌∷◌, ◌++◌}
use Rattle.text.specs.Bytes.{Text, nonempty}
use Rattle.message.specs.Fields.{field_lines}
use Rattle.request.specs.Canonical.{Req, carries_body, first_line}
use Rattle.report.specs.Report.{indented, body_line}

-- its body is told where its method carries one, or there is one
abbrev pub shows_body : Req → Bool
shows_body q = carries_body q.method || nonempty q.body

-- its first line, its fields and its body
abbrev pub found_lines : Req → Text
found_lines q = indented (first_line q.method q.target ∷ field_lines q.fields) ++ cond (shows_body q) (body_line q.body) []
