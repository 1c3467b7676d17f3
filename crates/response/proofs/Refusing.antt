-- The first line of a refusal fits where it is made.
use Rattle.std.proofs.Common.{◌≡◌, ℕ, ◌≤◌, length, take, drop, ap, ◌∙◌, arith, lit≤}
use Rattle.std.proofs.lemmas.List.{take_at}
use Rattle.text.specs.Bytes.{Text, Wrote}
use Rattle.text.specs.Numerals.{numeral, digits}
use Rattle.text.proofs.Places.{placed_fits}
use Rattle.message.specs.declared.fault.Fault.{Fault}
use Rattle.message.specs.declared.fault.Fault.TheVariants.{FirstLine, TooLong, FieldLine, Host, Framing, BodyUnfit, BodyTooLong, Chunk, PathByte, PathPart, QueryByte, Denied, Busy, Down}
use Rattle.response.specs.Refusals.{refusal_line}

short : (f : Fault) → length (refusal_line f) ≤ 16
unfolding numeral digits
short FirstLine = lit≤ tt
short TooLong = lit≤ tt
short FieldLine = lit≤ tt
short Host = lit≤ tt
short Framing = lit≤ tt
short BodyUnfit = lit≤ tt
short BodyTooLong = lit≤ tt
short Chunk = lit≤ tt
short PathByte = lit≤ tt
short PathPart = lit≤ tt
short QueryByte = lit≤ tt
short Denied = lit≤ tt
short Busy = lit≤ tt
short Down = lit≤ tt

-- what was written of it is all of it
pub line_written : (f : Fault) (xs then : Text) (n : ℕ) → length xs ≡ 16 → Wrote (refusal_line f) xs then n → take n then ≡ refusal_line f
line_written f xs then n size w =
    let fits : length (refusal_line f) ≤ length xs = omega (arith, short f) in
    ap (take n) (w.holds ∙ placed_fits (refusal_line f) xs fits) ∙ take_at (refusal_line f) (drop (length (refusal_line f)) xs) n (omega (arith, w.count))
