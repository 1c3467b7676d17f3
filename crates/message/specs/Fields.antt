-- Fields as requests and responses share them: names, values, and the lines that they are written as.
use Rattle.std.specs.Prelude.{ℕ, Bool, true, not, ◌&&◌, ◌||◌, List, [], ◌∷◌, ◌++◌, length, codes, ◌==◌, nat_le}
use Rattle.text.specs.Bytes.{Text, between, digit, visible, all, among, nonempty}
use Rattle.text.specs.Numerals.{decimal}

pub record Field : Type 0 where
  pub name : Text
  pub value : Text

abbrev pub content_length : Text
content_length = codes "content-length"

abbrev pub transfer_encoding : Text
transfer_encoding = codes "transfer-encoding"

-- names that no canonical field has: those that concern one connection only (RFC 9110, 7.6.1), and the two that frame the body, which the gate
-- settles itself
abbrev pub dropped : List Text
dropped =
    content_length ∷ transfer_encoding ∷ codes "connection" ∷ codes "keep-alive" ∷ codes "te" ∷ codes "trailer" ∷ codes "upgrade" ∷ codes "expect" ∷ codes "proxy-connection" ∷ []

-- a to z, digits, hyphen
abbrev pub lower_name_byte : ℕ → Bool
lower_name_byte c = between 97 122 c || digit c || c == 45

-- visible bytes and, inside, single spaces. RFC 9110, 5.5: field-content = field-vchar [ 1*( SP / HTAB / field-vchar ) field-vchar ]. Stricter: no byte
-- above 126, no tab, no run of spaces
unfoldable pub value_tail : Text → Bool
value_tail [] = true
value_tail (c ∷ []) = visible c
value_tail (c ∷ d ∷ cs) = (visible c || (c == 32 && visible d)) && value_tail (d ∷ cs)

unfoldable pub canonical_value : Text → Bool
canonical_value [] = true
canonical_value (c ∷ cs) = visible c && value_tail (c ∷ cs)

-- a name has at most so many bytes
abbrev pub name_limit : ℕ
name_limit = 64

-- the name in lower case and none of the dropped ones, the value trimmed and with single spaces
abbrev pub canonical_field : Field → Bool
canonical_field f = nonempty f.name && nat_le (length f.name) name_limit && all lower_name_byte f.name && not (among f.name dropped) && canonical_value f.value

unfoldable pub canonical_fields : List Field → Bool
canonical_fields [] = true
canonical_fields (f ∷ fs) = canonical_field f && canonical_fields fs

-- the field that says that a body has n bytes
abbrev pub length_of : ℕ → Field
length_of n = record { name = content_length; value = decimal n }

-- name, colon, space, value. RFC 9112, 5: field-line = field-name ":" OWS field-value OWS
abbrev pub line_of : Field → Text
line_of f = f.name ++ (58 ∷ 32 ∷ f.value)

unfoldable pub field_lines : List Field → List Text
field_lines [] = []
field_lines (f ∷ fs) = line_of f ∷ field_lines fs

-- lines, each ended by CR LF
unfoldable pub lines_of : List Text → Text
lines_of [] = []
lines_of (l ∷ ls) = l ++ (13 ∷ 10 ∷ lines_of ls)
