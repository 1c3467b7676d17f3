-- How the first line of a response is read. Each is a type; a proof of the type is the theorem.
use Rattle.std.specs.Prelude.{◌≡◌, Some}
use Rattle.text.specs.Bytes.{Text}
use Rattle.text_laws.specs.Laws.{Iff}
use Rattle.response.specs.Status.{status_of}
use Rattle.response.specs.declared.status.Status.{Status}
use Rattle.response_laws.specs.Grammar.{StatusSpelled}

-- A line says a status exactly where it is the version, three digits that are worth it, and a phrase, with a space between them.
abbrev pub StatusRead : Type 0
StatusRead = (l : Text) (s : Status) → Iff (status_of l ≡ Some s) (StatusSpelled l s)
