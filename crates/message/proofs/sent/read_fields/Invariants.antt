use Rattle.std.proofs.Common.{◌≡◌, ◌-◌, ◌≤◌, length, take, drop}
use Rattle.message.specs.Sent.{with_fields, fields_from, view_lines}
use Rattle.message.proofs.sent.read_fields.Given as goal

-- what stands in the table and what is left give the whole
abbrev pub invariant-loop-n : goal.invariant-loop-n
invariant-loop-n l = record {
  full : l.count ≤ length l.table;
  part : length l.rest ≤ length l.head - l.start;
  so : with_fields (view_lines (take l.count l.table)) (fields_from (length l.table - l.count) (length l.head - length l.rest) l.rest) ≡ fields_from (length l.initial.table) l.start (drop l.start l.head);
}

abbrev pub decreases-loop-n : goal.decreases-loop-n
decreases-loop-n l = length l.rest
