use Rattle.std.proofs.Common.{◌≡◌, ◌++◌, length, drop}
use Rattle.text.specs.Numerals.{digits}
use Rattle.text.proofs.numeral.write_number.Given as goal

-- the digits of what is left, before those that are written, are the whole numeral
abbrev pub invariant-loop-at : goal.invariant-loop-at
invariant-loop-at l = (length l.buf ≡ 20) × (digits l.radix l.at l.rest ++ drop l.at l.buf ≡ digits l.radix 20 l.fn.n)
