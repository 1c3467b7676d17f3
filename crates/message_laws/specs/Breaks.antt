-- Where a text stops being the beginning of a good one.
use Rattle.std.specs.Prelude.{◌≡◌, ℕ, ◌+◌, ◌≤◌, Bool, false, ◌++◌, length, take}
use Rattle.text.specs.Bytes.{Text}

-- The first p bytes of l, and no more of them, can be the beginning of a good text; and where that is all of l, then l is not good as it stands, or what
-- follows it is not its end.
pub record Breaks (Good : Text → Type 0) (l : Text) (ended : Bool) (p : ℕ) : Type 0 where
  pub within : p ≤ length l
  pub begins : (u : Text) × Good (take p l ++ u)
  pub no_further : (u : Text) → Good (take (p + 1) l ++ u) → p ≡ length l
  pub bad : Good l → ended ≡ false
