-- The grammar of field lines as they are sent, and what fields say of the server and of the body.
use Rattle.std.specs.Prelude.{◌≡◌, ℕ, ◌≤◌, Bool, true, not, ◌&&◌, ◌||◌, T, List, [], ◌∷◌, ◌++◌, length, Some, codes}
use Rattle.std.specs.List.{AllByRecursion}
use Rattle.text.specs.Bytes.{Text, name_byte, host_byte, value_byte, all, same_no_case, nonempty}
use Rattle.text.specs.Numerals.{number_of}
use Rattle.text.specs.declared.numeral.Base.TheVariants.{Decimal}
use Rattle.text_laws.specs.Laws.{TrimsTo}
use Rattle.message.specs.Fields.{Field, content_length, transfer_encoding, name_limit}
use Rattle.message.specs.declared.framing.Size.{Size}
use Rattle.message.specs.declared.framing.Size.TheVariants.{Length, Chunked}

-- A field line: field-name ":" OWS field-value OWS. The name has 1 to 64 letters, digits and hyphens; the value has visible bytes, spaces and tabs, and
-- the blanks at its ends are not part of it.
pub record FieldSpelled (l : Text) (f : Field) : Type 0 where
  pub behind : Text
  pub named : T (nonempty f.name) × (length f.name ≤ name_limit) × T (all name_byte f.name)
  pub bytes : T (all value_byte behind)
  pub trims : TrimsTo behind f.value
  pub text : l ≡ f.name ++ (58 ∷ behind)

-- Field lines, each ended by CR LF.
pub data LinesSpelled : Text → List Field → Type 0 where
  none : LinesSpelled [] []
  line : (l t : Text) {f : Field} {fs : List Field} → FieldSpelled l f → LinesSpelled t fs → LinesSpelled (l ++ (13 ∷ 10 ∷ t)) (f ∷ fs)

abbrev pub Named : Text → Field → Type 0
Named name f = T (same_no_case f.name name)

-- neither a length nor an encoding
abbrev pub Unframing : Field → Type 0
Unframing f = T (not (same_no_case f.name content_length || same_no_case f.name transfer_encoding))

-- A field that says how long the body is: by a number of 1 to 6 digits, or in chunks.
abbrev pub SizeSpelled : Field → Size → Type 0
SizeSpelled f (Length n) = Named content_length f × (number_of Decimal f.value ≡ Some n)
SizeSpelled f Chunked = Named transfer_encoding f × T (same_no_case f.value (codes "chunked"))

-- One of the fields is this one, and no other is of the kind.
pub record Only (P : Field → Type 0) (fs : List Field) (f : Field) : Type 0 where
  pub before : List Field
  pub behind : List Field
  pub others : AllByRecursion P before × AllByRecursion P behind
  pub joined : fs ≡ before ++ (f ∷ behind)

-- no `host`
abbrev pub Hostless : Field → Type 0
Hostless f = T (not (same_no_case f.name (codes "host")))

-- The one `host` is the name of the server k, counted from 0; no server before it has that name.
pub record HostSpelled (names : List Text) (fs : List Field) (k : ℕ) : Type 0 where
  pub host : Field
  pub only : Only Hostless fs host
  pub named : Named (codes "host") host
  pub earlier : List Text
  pub name : Text
  pub later : List Text
  pub others : AllByRecursion (λ n. T (not (same_no_case n host.value))) earlier
  pub same : T (same_no_case name host.value)
  pub joined : names ≡ earlier ++ (name ∷ later)
  pub count : length earlier ≡ k

-- names of servers as settings hold them: letters, digits, hyphens and dots
unfoldable pub host_names : List Text → Bool
host_names [] = true
host_names (n ∷ ns) = all host_byte n && host_names ns
