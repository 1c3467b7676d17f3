-- What the code holds of fields as they were sent, as values.
use Rattle.std.specs.Prelude.{List}
use Rattle.text.specs.Bytes.{lowered}
use Rattle.text.specs.Trims.{squeezed}
use Rattle.message.specs.Fields.{Field}
use Rattle.message.specs.Views.{fields_by}
use Rattle.message.specs.declared.sent_field.SentField.{SentField as Held}

-- a field as it is written: it is held as it was sent, and comes into canonical form on the wire, the name in lower case and each run of blanks one
-- space
abbrev pub view_sent_field : Held → Field
view_sent_field f = record { name = lowered f.name.now; value = squeezed f.value.now }

abbrev pub view_sent_fields : List Held → List Field
view_sent_fields fs = fields_by view_sent_field fs
