use Rattle.std.proofs.Common.{◌≡◌, ◌++◌, map, vec_items}
use Rattle.text.specs.Marks.{pieces_left}
use Rattle.rules.specs.Rules.{parts_of}
use Rattle.forgiving.specs.Parts.{part_by}
use Rattle.forgiving.proofs.habit.Habit.see_parts.Given as goal

-- what was seen so far stands before what is seen of the pieces that are left
abbrev pub invariant-loop-part : goal.invariant-loop-part
invariant-loop-part l = map (part_by l.self) (parts_of l.path) ≡ map vec_items (vec_items l.parts) ++ map (part_by l.self) (pieces_left l.part-iterator)
