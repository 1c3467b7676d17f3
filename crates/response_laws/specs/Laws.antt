-- What the reading of servers' bytes means. Each is a type; a proof of the type is the theorem.
use Rattle.std.specs.Prelude.{◌≡◌, ◌+◌, ◌≤◌, ◌∷◌, ◌++◌, length}
use Rattle.text.specs.Bytes.{Text}
use Rattle.text_laws.specs.Laws.{Iff}
use Rattle.message.specs.Fields.{field_lines, lines_of}
use Rattle.message.specs.Hops.{kept_of}
use Rattle.request.specs.Heads.{window}
use Rattle.response.specs.Copies.{with_length}
use Rattle.connection.specs.Model.{Response, Steady, whole}
use Rattle.response_laws.specs.Ear.{ear}
use Rattle.response_laws.specs.Grammar.{Spelled}

-- What was found stays found when more comes, and was found in bytes of its own: what is asked of a way of reading responses on a shared connection.
abbrev pub SteadyEar : Type 0
SteadyEar = Steady ear

-- A whole response is found exactly where the grammar holds of the first bytes, and it takes exactly those.
abbrev pub ResponseIffSpelled : Type 0
ResponseIffSpelled = (m s : Text) (a : Response) (rest : Text) → Iff (ear m s ≡ whole a rest) ((t : Text) × (s ≡ t ++ rest) × Spelled m t a)

-- What the client gets, read again for the same method, is read whole, takes exactly its own bytes, and gives itself back. (Its head may be longer than the
-- one that was said: a space behind each colon, and a length. Where it is longer than a head may be, nothing is said here.)
abbrev pub CopyAgain : Type 0
CopyAgain =
    (m t : Text) (a : Response) (s : Spelled m t a) → length (lines_of (s.line ∷ field_lines (with_length (kept_of s.fields) s.body))) + 2 ≤ window → (rest : Text) → ear m (a.text ++ rest) ≡ whole a rest
