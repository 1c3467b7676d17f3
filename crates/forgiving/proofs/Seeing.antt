-- What is seen of a target, part by part.
use Rattle.std.proofs.Common.{◌≡◌, map, refl}
use Rattle.std.proofs.lemmas.List.{map-id}
use Rattle.text.specs.Bytes.{Text}
use Rattle.rules.specs.Rules.{parts_in}
use Rattle.forgiving.specs.Views.{view_with}
use Rattle.forgiving.specs.Parts.{part_by}
use Rattle.forgiving.specs.declared.habit.Habit.{Habit}
use Rattle.forgiving.specs.declared.habit.Habit.TheVariants.{LoneLf, LoneCr, EmptyLines, SpaceBeforeColon, LowLine, GoesOn, Octal, FirstLength, LastLength, AddedLengths, GetBody, NoChunks, UndoneTwice, CutParts}

pub seen_parts : (h : Habit) (target : Text) → (h ≡ UndoneTwice → ⊥) → map (part_by h) (parts_in target) ≡ (view_with h).see target
seen_parts LoneLf t n = map-id (parts_in t)
seen_parts LoneCr t n = map-id (parts_in t)
seen_parts EmptyLines t n = map-id (parts_in t)
seen_parts SpaceBeforeColon t n = map-id (parts_in t)
seen_parts LowLine t n = map-id (parts_in t)
seen_parts GoesOn t n = map-id (parts_in t)
seen_parts Octal t n = map-id (parts_in t)
seen_parts FirstLength t n = map-id (parts_in t)
seen_parts LastLength t n = map-id (parts_in t)
seen_parts AddedLengths t n = map-id (parts_in t)
seen_parts GetBody t n = map-id (parts_in t)
seen_parts NoChunks t n = map-id (parts_in t)
seen_parts UndoneTwice t n = absurd (n refl)
seen_parts CutParts t n = refl
