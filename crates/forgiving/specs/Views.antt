-- The two habits of viewing a path, each the view that does nothing with one thing changed.
use Rattle.std.specs.Prelude.{ℕ, cond, List, [], ◌∷◌, map, take, Some, None, Option, ◌==◌}
use Rattle.text.specs.Bytes.{Text}
use Rattle.text.specs.Marks.{before}
use Rattle.text.specs.Numerals.{hex_pair}
use Rattle.request.specs.Places.{part_text}
use Rattle.rules.specs.Rules.{parts_of, parts_in}
use Rattle.rules_laws.specs.Views.{View, untouched}
use Rattle.forgiving.specs.declared.habit.Habit.{Habit}
use Rattle.forgiving.specs.declared.habit.Habit.TheVariants.{UndoneTwice, CutParts}

-- the byte that a code at the front stands for: `%` and two hexadecimal digits
abbrev pub code_in : Text → Option ℕ
code_in [] = None
code_in (c ∷ []) = None
code_in (c ∷ a ∷ []) = None
code_in (c ∷ a ∷ e ∷ cs) = cond (c == 37) (hex_pair a e) None

-- a code becomes the byte that it stands for; any other byte c is left, and what follows it is looked at anew
abbrev pub on_code : ℕ → Option ℕ → Text → Text → Text
on_code c (Some b) undone left = b ∷ undone
on_code c None undone left = c ∷ left

-- a text with its codes undone once, whatever bytes they stand for
unfoldable pub undone : Text → Text
undone [] = []
undone (c ∷ []) = c ∷ []
undone (c ∷ a ∷ []) = c ∷ undone (a ∷ [])
undone (c ∷ a ∷ e ∷ cs) = on_code c (code_in (c ∷ a ∷ e ∷ cs)) (undone cs) (undone (a ∷ e ∷ cs))

abbrev pub undone_twice : Text → Text
undone_twice t = undone (undone t)

-- 13. Codes in a path are undone twice, and then it is cut into parts.
abbrev pub parts_undone : Text → List Text
parts_undone target = parts_of (undone_twice (take (before 63 target) target))

-- 14. Each part goes up to its first `;`.
abbrev pub cut_part : Text → Text
cut_part t = take (before 59 t) t

abbrev pub parts_cut : Text → List Text
parts_cut target = map cut_part (parts_in target)

-- Those with a habit of reading view a path as the common view does.
abbrev pub view_with : Habit → View
view_with UndoneTwice = record { see = parts_undone; shown = λ p. undone_twice (part_text p) }
view_with CutParts = record { see = parts_cut; shown = λ p. cut_part (part_text p) }
view_with h = untouched
