use Rattle.text.specs.Trims.{squeezed, squeezed_left}
use Rattle.text.proofs.Places.{Writing}
use Rattle.text.proofs.squeezed.put_squeezed.Given as goal

abbrev pub invariant-loop-b : goal.invariant-loop-b
invariant-loop-b l = Writing (squeezed l.v) (squeezed_left l.b-iterator) l.initial.out l.out l.n
