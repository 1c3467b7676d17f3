use Rattle.std.proofs.Common.{◌≡◌, drop, None}
use Rattle.message.specs.Framing.{framed}
use Rattle.message.specs.Sent.{view_lines}
use Rattle.message.proofs.framing.framing.Given as goal

-- what was said and the lines that are left give what all the lines say
abbrev pub invariant-loop-line : goal.invariant-loop-line
invariant-loop-line l = framed l.said (view_lines (drop l.line-index l.lines)) ≡ framed None (view_lines l.lines)
