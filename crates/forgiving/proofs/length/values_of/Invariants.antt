use Rattle.std.proofs.Common.{◌≡◌, ◌++◌, drop, vec_items}
use Rattle.reader.specs.Strict.{values_of}
use Rattle.forgiving.specs.Held.{texts, view_fields}
use Rattle.forgiving.proofs.length.values_of.Given as goal

-- the values so far stand before those of the fields that are left
abbrev pub invariant-loop-field : goal.invariant-loop-field
invariant-loop-field l = values_of l.name (view_fields l.fields) ≡ texts (vec_items l.values) ++ values_of l.name (view_fields (drop l.field-index l.fields))
