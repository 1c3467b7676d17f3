use Rattle.std.proofs.Common.{◌≡◌, length}
use Rattle.text.specs.Trims.{squeezed_left}
use Rattle.text.proofs.squeezed.SqueezedIterator.next.Given as goal

abbrev pub invariant-loop-b : goal.invariant-loop-b
invariant-loop-b l = squeezed_left l.self ≡ squeezed_left l.initial.self

abbrev pub decreases-loop-b : goal.decreases-loop-b
decreases-loop-b l = length l.self.rest.now
