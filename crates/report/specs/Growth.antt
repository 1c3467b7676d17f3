-- How a text grows at its end.
use Rattle.std.specs.Prelude.{◌≡◌, ◌++◌, length, take, Result, MatchResult}
use Rattle.std.specs.declared.alloc.AllocError.{AllocError}
use Rattle.text.specs.Bytes.{Text}

-- a text xs that has grown by ys; or, where memory is wanting, the text as it was
abbrev pub Appended : {U : Type 0} → Text → Text → Text → Result U AllocError → Type 0
Appended ys xs then r = MatchResult r (λ _. then ≡ xs ++ ys) (λ _. then ≡ xs)

-- a text xs that has grown by ys; or, where memory is wanting, a text that still begins with xs
pub record Added {U : Type 0} (ys xs then : Text) (r : Result U AllocError) : Type 0 where
  pub cases : MatchResult r (λ _. then ≡ xs ++ ys) (λ _. take (length xs) then ≡ xs)
