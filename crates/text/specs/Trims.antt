-- Values without the spaces and tabs at their ends, and with one space for each run of them inside.
use Rattle.std.specs.Prelude.{ℕ, ◌-◌, Bool, false, cond, [], ◌∷◌, length, take, drop, Some, None, Option}
use Rattle.std.specs.List.{prefix_len, suffix_len}
use Rattle.text.specs.Bytes.{Text, blank}
use Rattle.text.specs.declared.squeezed.Squeezed.{Squeezed}

-- without the spaces and tabs in front: `prefix_len p xs` counts the first elements that pass
abbrev pub trimmed_front : Text → Text
trimmed_front t = drop (prefix_len blank t) t

-- without the spaces and tabs at the end: `suffix_len p xs` counts the last elements that pass
abbrev pub trimmed_back : Text → Text
trimmed_back t = take (length t - suffix_len blank t) t

abbrev pub trimmed : Text → Text
trimmed t = trimmed_back (trimmed_front t)

-- what a byte of a value becomes: a space for the first of a run of spaces and tabs, nothing for the others of the run, else itself
abbrev pub squeezed_byte : Bool → ℕ → Option ℕ
squeezed_byte run c = cond (blank c) (cond run None (Some 32)) (Some c)

abbrev pub before : Option ℕ → Text → Text
before None t = t
before (Some c) t = c ∷ t

-- each run of spaces and tabs made one space; the flag says that the byte before was one of a run
unfoldable pub squeezed_after : Bool → Text → Text
squeezed_after run [] = []
squeezed_after run (c ∷ cs) = before (squeezed_byte run c) (squeezed_after (blank c) cs)

abbrev pub squeezed : Text → Text
squeezed t = squeezed_after false t

-- the bytes that an iterator has still to give
abbrev pub squeezed_left : Squeezed → Text
squeezed_left s = squeezed_after s.run s.rest.now
