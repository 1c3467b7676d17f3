use Rattle.std.proofs.Common.{◌≡◌, drop, None}
use Rattle.message.specs.Sent.{view_lines}
use Rattle.request.specs.Hosts.{view_one, host_among}
use Rattle.request.proofs.host.one_host.Given as goal

-- the lines that are left decide, after the one seen, what all decide
abbrev pub invariant-loop-line : goal.invariant-loop-line
invariant-loop-line l = host_among (view_one l.host) (view_lines (drop l.line-index l.lines)) ≡ host_among None (view_lines l.lines)
