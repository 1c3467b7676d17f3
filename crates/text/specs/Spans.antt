-- Classes of bytes that a text is searched for.
use Rattle.std.specs.Prelude.{ℕ, Bool, not}
use Rattle.text.specs.Bytes.{upper, name_byte, value_byte, blank, query_byte, line_end}
use Rattle.text.specs.declared.span.Class.{Class}
use Rattle.text.specs.declared.span.Class.TheVariants.{Upper, Name, Value, Blank, Query, Line}

abbrev pub in_class : Class → ℕ → Bool
in_class Upper c = upper c
in_class Name c = name_byte c
in_class Value c = value_byte c
in_class Blank c = blank c
in_class Query c = query_byte c
in_class Line c = not (line_end c)
