use Rattle.std.proofs.Common.{◌≡◌, drop}
use Rattle.forgiving.specs.Readers.{added, added_after}
use Rattle.forgiving.specs.Held.{texts}
use Rattle.forgiving.proofs.length.add.Given as goal

-- what is left, after the sum so far, gives the whole
abbrev pub invariant-loop-length : goal.invariant-loop-length
invariant-loop-length l = added_after l.sum (texts (drop l.length-index l.lengths)) ≡ added (texts l.lengths)
