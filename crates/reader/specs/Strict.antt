-- The common strict reader: what a server does that forgives nothing. It shows that fair readers exist.
use Rattle.std.specs.Prelude.{ℕ, false, cond, ◌&&◌, List, [], ◌∷◌, Some, None, Option, ◌==◌}
use Rattle.text.specs.Bytes.{Text, upper, visible, name_byte, value_byte, all, same, lowered, nonempty}
use Rattle.text.specs.Marks.{cut_at}
use Rattle.text.specs.Trims.{trimmed}
use Rattle.text.specs.Numerals.{number_of}
use Rattle.text.specs.declared.numeral.Base.TheVariants.{Decimal}
use Rattle.message.specs.Fields.{Field, content_length, transfer_encoding}
use Rattle.request.specs.Canonical.{version}
use Rattle.reader.specs.Reader.{Reader, Cut, Short, Line, Ask, NotOne, One, Fields, NotAny, Many, Size, Exactly, Otherwise, Bad}

-- a cut with one byte more at the front of its line
abbrev pub before : ℕ → Cut → Cut
before c Short = Short
before c (Line l rest) = Line (c ∷ l) rest

-- a line goes up to the first CR LF
unfoldable pub split_line : Text → Cut
split_line [] = Short
split_line (c ∷ []) = Short
split_line (c ∷ d ∷ cs) = cond (c == 13 && d == 10) (Line [] cs) (before c (split_line (d ∷ cs)))

-- target and version, where the method was read before
abbrev pub ask_from : Text → Option (Text × Text) → Ask
ask_from m None = NotOne
ask_from m (Some (t, v)) = cond (nonempty m && all upper m && nonempty t && all visible t && same v version) (One m t) NotOne

-- the method, and what follows it
abbrev pub ask_of : Option (Text × Text) → Ask
ask_of None = NotOne
ask_of (Some (m, rest)) = ask_from m (cut_at 32 rest)

-- a first line: method, space, target, space, version
abbrev pub read_ask : Text → Ask
read_ask l = ask_of (cut_at 32 l)

-- a field's line: name, colon, value; the name in lower case, the value without the spaces and tabs at its ends
abbrev pub field_of : Option (Text × Text) → Option Field
field_of None = None
field_of (Some (n, v)) = cond (nonempty n && all name_byte n && all value_byte v) (Some record { name = lowered n; value = trimmed v }) None

-- one field more in front of others; none at all where one line is no field
abbrev pub one_more : Option Field → Fields → Fields
one_more None fs = NotAny
one_more (Some f) NotAny = NotAny
one_more (Some f) (Many fs) = Many (f ∷ fs)

-- the lines after the first, each as a field
unfoldable pub read_fields : List Text → Fields
read_fields [] = Many []
read_fields (l ∷ ls) = one_more (field_of (cut_at 58 l)) (read_fields ls)

-- the values of the fields of a name
unfoldable pub values_of : Text → List Field → List Text
values_of n [] = []
values_of n (f ∷ fs) = cond (same f.name n) (f.value ∷ values_of n fs) (values_of n fs)

-- a length that is a number
abbrev pub exactly : Option ℕ → Size
exactly None = Otherwise
exactly (Some n) = Exactly n

-- the encodings first, then the lengths
abbrev pub size_by : List Text → List Text → Size
size_by [] [] = Exactly 0
size_by [] (v ∷ []) = exactly (number_of Decimal v)
size_by [] (v ∷ w ∷ vs) = Otherwise
size_by (e ∷ es) vs = Otherwise

-- how long the body is: by the one length where there is one and no encoding; no body where there is neither
abbrev pub read_size : Text → List Field → Size
read_size m fs = size_by (values_of transfer_encoding fs) (values_of content_length fs)

-- the parts together; before a request it passes over no empty line, and it gives up on a body that has no length it can read
abbrev pub strict : Reader
strict = record { split = split_line; skips = false; asked = read_ask; fields = read_fields; size = read_size; otherwise = λ m t fs s. Bad }
