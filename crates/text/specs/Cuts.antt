-- How a line is cut off the front of a text: at its first CR or LF.
use Rattle.std.specs.Prelude.{◌≡◌, ℕ, ◌+◌, ◌<◌, cond, not, length, take, drop, ◌==◌, nat_le, slice_index}
use Rattle.std.specs.List.{prefix_len}
use Rattle.text.specs.Bytes.{Text, line_end}
use Rattle.text.specs.declared.line.Cut.{Cut}
use Rattle.text.specs.declared.line.Cut.TheVariants.{Line, Short, Stray}

-- CR LF ends a line; where neither has come, or only a last CR, the text is short of a line; any other CR or LF is stray, and where it stands is said
pub data LineCut : Type 0 where
  whole : (line rest : Text) → LineCut
  short : LineCut
  stray : ℕ → LineCut

-- what the code holds, as values
abbrev pub view_cut : Cut → LineCut
view_cut (Line l r) = whole l.now r.now
view_cut Short = short
view_cut (Stray at) = stray at

-- how many bytes stand before the first CR or LF
abbrev pub before_end : Text → ℕ
before_end t = prefix_len (λ c. not (line_end c)) t

-- cut at a CR or LF that stands at n
abbrev pub cut_end : ℕ → Text → LineCut
cut_end n t =
    cond (nat_le (length t) n) short
    (cond (slice_index t n == 10) (stray n)
    (cond (nat_le (length t) (n + 1)) short
    (cond (slice_index t (n + 1) == 10) (whole (take n t) (drop (n + 2) t)) (stray n))))

abbrev pub cut_line : Text → LineCut
cut_line t = cut_end (before_end t) t

-- how long the parts of a cut are, for callers' sums
abbrev pub CutLong : ℕ → Cut → Type 0
CutLong n (Line l r) = length l.now + (2 + length r.now) ≡ n
CutLong n Short = Unit {0}
CutLong n (Stray at) = at < n
