use Rattle.std.proofs.Common.{◌≡◌, ◌-◌}
use Rattle.text.specs.Marks.{pieces_left}
use Rattle.script.specs.Series.{judged, pieces_in, pieces_of}
use Rattle.script.proofs.series.Series.check.Given as goal

-- the pieces that are left, of which there may be so many fewer, decide what all decide
abbrev pub invariant-loop : goal.invariant-loop
invariant-loop l = judged l.self (pieces_in l.self l.t) (l.self.most - l.counter) (pieces_left l.pieces) ≡ pieces_of l.self l.t
