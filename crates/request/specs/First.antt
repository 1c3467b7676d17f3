-- The first line of a request, read from the left. RFC 9112, 3: request-line = method SP request-target SP HTTP-version.
use Rattle.std.specs.Prelude.{ℕ, ◌+◌, ◌<◌, min, Bool, cond, not, ◌||◌, [], ◌∷◌, length, drop, Ok, Err, Result, ◌==◌, nat_le, nat_lt, slice_index}
use Rattle.std.specs.List.{prefix_len}
use Rattle.text.specs.Bytes.{Text, upper}
use Rattle.text.specs.Marks.{before}
use Rattle.message.specs.Faults.{flaw}
use Rattle.message.specs.declared.fault.Fault.TheVariants.{FirstLine}
use Rattle.message.specs.declared.fault.Flaw.{Flaw}
use Rattle.request.specs.Canonical.{version}
use Rattle.request.specs.declared.first.First.{First}

-- in how many bytes two texts agree, from the front
unfoldable pub agree : Text → Text → ℕ
agree [] ws = 0
agree (c ∷ cs) [] = 0
agree (c ∷ cs) (w ∷ ws) = cond (c == w) (1 + agree cs ws) 0

abbrev pub not_first : ℕ → Result First Flaw
not_first place = Err (flaw FirstLine place)

-- A line l whose first m bytes are letters A to Z, whose next t bytes after one more are no space, and behind another one more g bytes are as in the
-- version. Wrong is the first byte that does not go on as it should: 1 to 16 letters, a space, a slash, a space behind the target, the version, and
-- then the end of the line, which must be CR LF and no stray byte
abbrev pub first_at : Text → Bool → ℕ → ℕ → ℕ → Result First Flaw
first_at l ended m t g =
    cond (m == 0 || nat_lt 16 m) (not_first (min m 16))
    (cond (nat_le (length l) m || not (slice_index l m == 32)) (not_first m)
    (cond (nat_le (length l) (m + 1) || not (slice_index l (m + 1) == 47)) (not_first (m + 1))
    (cond (nat_le (length l) (m + 1 + t)) (not_first (m + 1 + t))
    (cond (nat_lt g 8 || nat_lt 8 (length (drop (m + 1 + t + 1) l)) || not ended) (not_first (m + 1 + t + 1 + g)) (Ok record { method = m; target = t })))))

abbrev pub first_with : Text → Bool → ℕ → ℕ → Result First Flaw
first_with l ended m t = first_at l ended m t (agree (drop (m + 1 + t + 1) l) version)

abbrev pub check_first : Text → Bool → Result First Flaw
check_first l ended = first_with l ended (prefix_len upper l) (before 32 (drop (prefix_len upper l + 1) l))

-- the method and the target lie inside the line
abbrev pub FirstWithin : ℕ → Result First Flaw → Type 0
FirstWithin n (Ok f) = f.method + 1 + f.target < n
FirstWithin n (Err w) = Unit {0}
