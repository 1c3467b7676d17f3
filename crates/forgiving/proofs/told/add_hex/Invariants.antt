use Rattle.std.proofs.Common.{◌≡◌, ◌++◌, take, vec_items}
use Rattle.report.specs.Report.{hexadecimal}
use Rattle.forgiving.proofs.told.add_hex.Given as goal

abbrev pub invariant-loop-b : goal.invariant-loop-b
invariant-loop-b l = vec_items l.text ≡ vec_items l.initial.text ++ hexadecimal (take l.b-index l.bytes)
