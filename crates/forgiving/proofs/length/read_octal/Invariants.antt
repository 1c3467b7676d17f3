use Rattle.std.proofs.Common.{◌≡◌, ◌^◌, ◌<◌, ◌≤◌, length, drop}
use Rattle.forgiving.specs.Readers.{octal_after}
use Rattle.forgiving.proofs.length.read_octal.Given as goal

-- what is left, after what the digits so far are worth, gives the whole; and the value is small
abbrev pub invariant-loop-b : goal.invariant-loop-b
invariant-loop-b l = (length l.digits ≤ 6) × (l.value < 8 ^ l.b-index) × (octal_after l.value (drop l.b-index l.digits) ≡ octal_after 0 l.digits)
