use Rattle.text.specs.Marks.{pieces_left}
use Rattle.request.proofs.Paths.{LeftParts}
use Rattle.request.proofs.target.bad_part.Given as goal

abbrev pub invariant-loop-part : goal.invariant-loop-part
invariant-loop-part l = LeftParts l.path l.at (pieces_left l.part-iterator)
