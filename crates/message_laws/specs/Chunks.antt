-- A chunked body as it is sent. RFC 9112, 7.1:
--     chunked-body = *chunk last-chunk trailer-section CRLF
--     chunk        = chunk-size [ chunk-ext ] CRLF chunk-data CRLF
--     chunk-size   = 1*HEXDIG
--     last-chunk   = 1*("0") [ chunk-ext ] CRLF
-- Stricter: a size has at most 5 digits, there are no extensions, and the trailer is empty.
use Rattle.std.specs.Prelude.{◌≡◌, ℕ, ◌<◌, List, [], ◌∷◌, ◌++◌, length, Some}
use Rattle.text.specs.Bytes.{Text}
use Rattle.text.specs.Numerals.{number_of}
use Rattle.text.specs.declared.numeral.Base.TheVariants.{Hexadecimal}

abbrev pub crlf : Text
crlf = 13 ∷ 10 ∷ []

-- 1 to 5 hexadecimal digits, in either case, that are worth n
abbrev pub Says : Text → ℕ → Type 0
Says digits n = number_of Hexadecimal digits ≡ Some n

-- a chunk: the digits of its size, and its bytes
pub record Part : Type 0 where
  pub size : Text
  pub bytes : Text

-- the size is that of the bytes, and there is at least one
abbrev pub Right : Part → Type 0
Right c = Says c.size (length c.bytes) × (0 < length c.bytes)

abbrev pub AllRight : List Part → Type 0
AllRight [] = Unit {0}
AllRight (c ∷ cs) = Right c × AllRight cs

-- a chunk as it is sent
abbrev pub sent : Part → Text
sent c = c.size ++ (crlf ++ (c.bytes ++ crlf))

-- chunks as they are sent, one after another
abbrev pub all_sent : List Part → Text
all_sent [] = []
all_sent (c ∷ cs) = sent c ++ all_sent cs

-- what the chunks hold
abbrev pub all_bytes : List Part → Text
all_bytes [] = []
all_bytes (c ∷ cs) = c.bytes ++ all_bytes cs

-- the text t is a chunked body that holds b
pub record Chunked (t b : Text) : Type 0 where
  pub chunks : List Part
  -- the digits of the last chunk
  pub zeros : Text
  pub right : AllRight chunks
  pub last : Says zeros 0
  pub text : t ≡ all_sent chunks ++ (zeros ++ (crlf ++ crlf))
  pub holds : b ≡ all_bytes chunks
