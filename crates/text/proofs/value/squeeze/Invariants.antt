use Rattle.std.proofs.Common.{◌≡◌, ◌≤◌, ◌++◌, length, take, drop}
use Rattle.text.specs.Trims.{squeezed, squeezed_after}
use Rattle.text.proofs.value.squeeze.Given as goal

-- what is kept so far, with what is left squeezed, is the whole; what lies behind the kept bytes is untouched
abbrev pub invariant-loop-i : goal.invariant-loop-i
invariant-loop-i l =
    (l.at ≤ l.i) × (length l.v ≡ length l.initial.v) × (take l.at l.v ++ squeezed_after l.run (drop l.i l.initial.v) ≡ squeezed l.initial.v)
    × (drop l.at l.v ≡ drop l.at l.initial.v)
