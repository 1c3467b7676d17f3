use Rattle.std.proofs.Common.{◌≡◌, ◌^◌, ◌<◌, ◌≤◌, length, drop}
use Rattle.text.specs.Numerals.{value_after}
use Rattle.text.proofs.numeral.read_number.Given as goal

-- what is left, after what the digits so far are worth, gives the whole; and the value is small
abbrev pub invariant-loop-b : goal.invariant-loop-b
invariant-loop-b l = (length l.s ≤ 6) × (l.value < 16 ^ l.b-index) × (value_after l.base l.value (drop l.b-index l.s) ≡ value_after l.base 0 l.s)
