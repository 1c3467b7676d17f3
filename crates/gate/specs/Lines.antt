-- The lines that are printed.
use Rattle.std.specs.Prelude.{ℕ, ◌+◌, [], ◌∷◌, ◌++◌, codes}
use Rattle.text.specs.Bytes.{Text, capped}
use Rattle.text.specs.Numerals.{decimal}
use Rattle.report.specs.Report.{hexadecimal}
use Rattle.gate.specs.declared.line.Line.{Line}
use Rattle.gate.specs.declared.line.Line.TheVariants.{ToServer, ToClient, EndClient, DownServer}

-- words, and a number counted from 1
abbrev pub numbered : Text → ℕ → Text
numbered words n = words ++ decimal (capped (n + 1))

abbrev pub line_of : Line → Text
line_of (ToServer n bytes) = numbered (codes "to server ") n ++ (32 ∷ (hexadecimal bytes.now ++ (10 ∷ [])))
line_of (ToClient n bytes) = numbered (codes "to client ") n ++ (32 ∷ (hexadecimal bytes.now ++ (10 ∷ [])))
line_of (EndClient n) = numbered (codes "end client ") n ++ (10 ∷ [])
line_of (DownServer n) = numbered (codes "down server ") n ++ (10 ∷ [])
