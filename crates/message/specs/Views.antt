-- What the code holds of fields, as values.
use Rattle.std.specs.Prelude.{List, [], ◌∷◌, map}
use Rattle.text.specs.Bytes.{Text}
use Rattle.message.specs.Fields.{Field, line_of, field_lines, lines_of}
use Rattle.message.specs.declared.field.Field.{Field as Held}

abbrev pub view_field : Held → Field
view_field f = record { name = f.name.now; value = f.value.now }

-- fields by what each of them stands for
abbrev pub fields_by : {F : Type 0} → (F → Field) → List F → List Field
fields_by view fs = map view fs

abbrev pub view_fields : List Held → List Field
view_fields fs = fields_by view_field fs

-- the bytes of fields on the wire
abbrev pub field_bytes : List Field → Text
field_bytes fs = lines_of (field_lines fs)

abbrev pub field_line : Field → Text
field_line f = lines_of (line_of f ∷ [])
