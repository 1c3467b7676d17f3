-- What the order of rules means. It is a type; a proof of the type is the theorem.
use Rattle.std.specs.Prelude.{◌≡◌, T, List, ◌∷◌, ◌++◌}
use Rattle.text.specs.Bytes.{Text}
use Rattle.rules.specs.Rules.{Rule, fits, verdict}

-- A rule that comes after one that fits the same requests changes no verdict.
abbrev pub LaterRule : Type 0
LaterRule =
    (us ws vs : List Rule) (u v : Rule) → ((m : Text) (path : List Text) → T (fits v m path) → T (fits u m path)) → (m : Text) (path : List Text) → verdict (us ++ (u ∷ (ws ++ (v ∷ vs)))) m path ≡ verdict (us ++ (u ∷ (ws ++ vs))) m path
