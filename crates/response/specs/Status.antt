-- The first line of a response. RFC 9112, 4: status-line = HTTP-version SP status-code SP [ reason-phrase ]. Stricter: a code is 100 to 599, and a
-- phrase has visible bytes and spaces.
use Rattle.std.specs.Prelude.{ℕ, Bool, cond, not, ◌&&◌, ◌||◌, length, take, drop, Some, None, Option, codes, ◌==◌, nat_le}
use Rattle.std.specs.List.{list_all}
use Rattle.text.specs.Bytes.{Text, between, same}
use Rattle.text.specs.Marks.{rest_after}
use Rattle.text.specs.Numerals.{number_of}
use Rattle.text.specs.declared.numeral.Base.TheVariants.{Decimal}
use Rattle.response.specs.declared.status.Status.{Status}

-- a byte of a phrase
abbrev pub phrase_byte : ℕ → Bool
phrase_byte c = between 32 126 c

-- behind the code n: the phrase, or not even the space before it
abbrev pub on_phrase : ℕ → Option Text → Option Status
on_phrase n None = None
on_phrase n (Some phrase) = cond (between 100 599 n && list_all phrase_byte phrase) (Some record { code = n }) None

-- the code, or no number, and what follows it
abbrev pub on_code : Option ℕ → Text → Option Status
on_code None rest = None
on_code (Some n) rest = on_phrase n (rest_after (codes " ") rest)

-- behind the version: three digits, a space, a phrase
abbrev pub on_version : Option Text → Option Status
on_version None = None
on_version (Some rest) = cond (nat_le 3 (length rest)) (on_code (number_of Decimal (take 3 rest)) (drop 3 rest)) None

-- the status that a line says, if it is one
abbrev pub status_of : Text → Option Status
status_of l = on_version (rest_after (codes "HTTP/1.1 ") l)

-- No other response to the same request follows: all but 100 to 199, and 101, after which the connection would speak another protocol. RFC 9110, 15.2
abbrev pub is_last : Status → Bool
is_last s = nat_le 200 s.code || s.code == 101

-- A body follows the head. RFC 9112, 6.3: none after HEAD, and none with 100 to 199, 204 and 304, whatever the fields say
abbrev pub has_body : Status → Text → Bool
has_body s method = not (same method (codes "HEAD")) && nat_le 200 s.code && not (s.code == 204 || s.code == 304)
