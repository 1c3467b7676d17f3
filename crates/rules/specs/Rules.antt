-- The rules of a server: which requests it allows, by their method and the first parts of their path.
use Rattle.std.specs.Prelude.{ℕ, ◌+◌, Bool, true, false, cond, ◌&&◌, List, [], ◌∷◌, map, length, take, drop, codes, ◌==◌, nat_le}
use Rattle.text.specs.Bytes.{Text, lowered, same, among}
use Rattle.text.specs.Marks.{before, split}
use Rattle.rules.specs.declared.Rule.{Rule as Held}
use Rattle.rules.specs.declared.Ruling.{Ruling}
use Rattle.rules.specs.declared.Ruling.TheVariants.{Allowed, Denied, Unruled}
use Rattle.rules.specs.declared.Verdict.{Verdict}
use Rattle.rules.specs.declared.Verdict.TheVariants.{Allow, Deny}

-- the first parts of a path, in lower case; the methods; and what is said of what fits them
pub record Rule : Type 0 where
  pub start : List Text
  pub methods : List Text
  pub says : Verdict

-- a path begins with these parts, compared in lower case
unfoldable pub begins : List Text → List Text → Bool
begins [] path = true
begins (t ∷ ts) [] = false
begins (t ∷ ts) (p ∷ ps) = same t (lowered p) && begins ts ps

-- a part has ended before what follows: nothing, or a slash first
abbrev pub ends_part : Text → Bool
ends_part [] = true
ends_part (c ∷ cs) = c == 47

-- the rule fits a request of this method and path
abbrev pub fits : Rule → Text → List Text → Bool
fits u m path = begins u.start path && among m u.methods

-- what a rule, the n-th, says of a request that it fits
abbrev pub ruling_of : ℕ → Verdict → Ruling
ruling_of n Allow = Allowed n
ruling_of n Deny = Denied n

-- the first rule that fits decides, and it is told which; the rules are counted from n on
unfoldable pub ruled_from : ℕ → List Rule → Text → List Text → Ruling
ruled_from n [] m path = Unruled
ruled_from n (u ∷ us) m path = cond (fits u m path) (ruling_of n u.says) (ruled_from (n + 1) us m path)

abbrev pub allows : Ruling → Bool
allows (Allowed n) = true
allows (Denied n) = false
allows Unruled = false

-- if no rule fits it is no
abbrev pub verdict : List Rule → Text → List Text → Bool
verdict us m path = allows (ruled_from 0 us m path)

-- the parts of a path that begins with a slash; the path `/` has none
abbrev pub parts_of : Text → List Text
parts_of path = cond (nat_le (length path) 1) [] (split 47 (drop 1 path))

-- the parts of a target's path, up to its query
abbrev pub parts_in : Text → List Text
parts_in target = parts_of (take (before 63 target) target)

-- methods as they are written in settings: `-` for none, or with commas between them
abbrev pub methods_of : Text → List Text
methods_of w = cond (same w (codes "-")) [] (split 44 w)

-- what the code holds, as values
abbrev pub view_rule : Held → Rule
view_rule r = record { start = parts_of r.path.now; methods = methods_of r.methods.now; says = r.verdict }

abbrev pub view_rules : List Held → List Rule
view_rules rs = map view_rule rs
