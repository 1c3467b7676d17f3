-- Fields that are not sent on: those that concern one connection only, and the two that frame the body, which is framed anew. RFC 9110, 7.6.1.
use Rattle.std.specs.Prelude.{Bool, cond, not, ◌&&◌, ◌||◌, List, [], ◌∷◌, map, codes}
use Rattle.std.specs.List.{list_any}
use Rattle.text.specs.Bytes.{Text, lowered, same_no_case, among}
use Rattle.text.specs.Marks.{split}
use Rattle.text.specs.Trims.{trimmed, squeezed}
use Rattle.message.specs.Fields.{Field, dropped}
use Rattle.message.specs.Sent.{Sent, view_line}
use Rattle.message.specs.declared.sent.Line.{Line}

-- one of the nine, in any case
abbrev pub hop_by_hop : Text → Bool
hop_by_hop name = among (lowered name) dropped

-- between the commas of a list, but for case and the blanks at its ends. RFC 9110, 7.6.1: Connection = #connection-option
abbrev pub token_in : Text → Text → Bool
token_in name list = list_any (λ t. same_no_case (trimmed t) name) (split 44 list)

-- a `connection` field that names it
abbrev pub names : Text → Field → Bool
names name f = same_no_case f.name (codes "connection") && token_in name f.value

-- one of the fields is such a one
abbrev pub named_by : Text → List Field → Bool
named_by name fs = list_any (names name) fs

-- not sent on; `host` always is
abbrev pub is_dropped : List Field → Text → Bool
is_dropped all name = hop_by_hop name || (not (same_no_case name (codes "host")) && named_by name all)

-- a field in canonical form: its name in lower case, one space for each run of blanks in its value
abbrev pub canonical_of : Field → Field
canonical_of f = record { name = lowered f.name; value = squeezed f.value }

-- of fields that stand in a head with all the others, those that are sent on, in canonical form and in order
unfoldable pub kept_among : List Field → List Field → List Field
kept_among all [] = []
kept_among all (f ∷ fs) = cond (is_dropped all f.name) (kept_among all fs) (canonical_of f ∷ kept_among all fs)

abbrev pub kept_of : List Field → List Field
kept_of fs = kept_among fs fs

-- a field as sent, without its places
abbrev pub field_of : Sent → Field
field_of f = record { name = f.name; value = f.value }

-- what the code holds, as values: the fields of a head as sent
abbrev pub held_as : Line → Field
held_as l = field_of (view_line l)

abbrev pub held_all : List Line → List Field
held_all ls = map held_as ls
