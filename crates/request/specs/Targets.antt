-- Targets as sent: a path up to the first question mark, and the query behind it; what may be wrong with them, and their canonical form.
use Rattle.std.specs.Prelude.{ℕ, ◌+◌, ◌-◌, Bool, false, cond, ◌&&◌, ◌||◌, List, [], ◌∷◌, ◌++◌, length, take, drop, Some, None, Ok, Err, codes, Option, Result, ◌==◌, nat_le, nat_lt, slice_index}
use Rattle.std.specs.List.{prefix_len}
use Rattle.text.specs.Bytes.{Text, between, plain_byte, query_byte, same, same_no_case}
use Rattle.text.specs.Marks.{before, split}
use Rattle.text.specs.Numerals.{hex_pair}
use Rattle.message.specs.Faults.{flaw}
use Rattle.message.specs.declared.fault.Fault.{Fault}
use Rattle.message.specs.declared.fault.Fault.TheVariants.{PathByte, PathPart, QueryByte}
use Rattle.message.specs.declared.fault.Flaw.{Flaw}
use Rattle.request.specs.declared.target.Token.{Token}
use Rattle.request.specs.declared.target.Token.TheVariants.{Byte, Code}

abbrev pub path_of : Text → Text
path_of t = take (before 63 t) t

-- all behind the first question mark; it may hold further ones
abbrev pub query_of : Text → Text
query_of t = drop (before 63 t + 1) t

-- A path is read as tokens, from the left: a % with the two bytes behind it is a code, and any other byte is itself. RFC 3986, 2.1:
-- pct-encoded = "%" HEXDIG HEXDIG. Where that reading stands: between two tokens, behind a %, or behind a % and one byte more
pub data Stand : Type 0 where
  free : Stand
  percent : Stand
  half : ℕ → Stand

unfoldable pub tokens_at : Stand → Text → List Token
tokens_at free [] = []
tokens_at free (c ∷ cs) = cond (c == 37) (tokens_at percent cs) (Byte c ∷ tokens_at free cs)
tokens_at percent [] = Byte 37 ∷ []
tokens_at percent (c ∷ cs) = tokens_at (half c) cs
tokens_at (half a) [] = Byte 37 ∷ Byte a ∷ []
tokens_at (half a) (c ∷ cs) = Code a c ∷ tokens_at free cs

abbrev pub tokens : Text → List Token
tokens path = tokens_at free path

-- the token that a text begins with, where it has a byte
abbrev pub token_in : Text → Token
token_in t = cond (slice_index t 0 == 37 && nat_lt 2 (length t)) (Code (slice_index t 1) (slice_index t 2)) (Byte (slice_index t 0))

abbrev pub first_token : Text → Option Token
first_token t = cond (length t == 0) None (Some (token_in t))

-- codes stand for plain bytes and for bytes 128 to 255 only
abbrev pub good_code : Option ℕ → Bool
good_code None = false
good_code (Some v) = plain_byte v || nat_le 128 v

-- what a path may have: slashes, plain bytes and such codes
abbrev pub good_token : Token → Bool
good_token (Byte c) = plain_byte c || c == 47
good_token (Code a b) = good_code (hex_pair a b)

-- how many bytes it has as sent
abbrev pub width : Token → ℕ
width (Byte c) = 1
width (Code a b) = 3

-- where the first bad token stands; the tokens begin at the place at
unfoldable pub bad_token : ℕ → List Token → Option ℕ
bad_token at [] = None
bad_token at (t ∷ ts) = cond (good_token t) (bad_token (at + width t) ts) (Some at)

-- a hexadecimal digit in capitals
abbrev pub capital : ℕ → ℕ
capital c = cond (between 97 102 c) (c - 32) c

-- a code in canonical form: the byte where that is plain, else the code with its digits in capitals (one that stands for nothing is kept)
abbrev pub spell_code : ℕ → ℕ → Option ℕ → Text
spell_code a b None = 37 ∷ a ∷ b ∷ []
spell_code a b (Some v) = cond (plain_byte v) (v ∷ []) (37 ∷ capital a ∷ capital b ∷ [])

abbrev pub spell : Token → Text
spell (Byte c) = c ∷ []
spell (Code a b) = spell_code a b (hex_pair a b)

unfoldable pub spelled : List Token → Text
spelled [] = []
spelled (t ∷ ts) = spell t ++ spelled ts

-- a path in canonical form
abbrev pub undone_path : Text → Text
undone_path path = spelled (tokens path)

-- a query with its mark; an empty one is dropped with it
abbrev pub marked : Text → Text
marked [] = []
marked (c ∷ cs) = 63 ∷ c ∷ cs

-- a target in canonical form
abbrev pub undone : Text → Text
undone t = undone_path (path_of t) ++ marked (query_of t)

-- a part, as sent, whose last byte is a dot once its codes are undone
abbrev pub ends_in_dot : Text → Bool
ends_in_dot p = same (drop (length p - 1) p) (codes ".") || same_no_case (drop (length p - 3) p) (codes "%2e")

abbrev pub bad_part : Text → Bool
bad_part p = length p == 0 || ends_in_dot p

-- where the first bad part ends; the parts begin at the place at, with a slash between each two
unfoldable pub bad_part_in : ℕ → List Text → Option ℕ
bad_part_in at [] = None
bad_part_in at (p ∷ ps) = cond (bad_part p) (Some (at + length p)) (bad_part_in (at + (length p + 1)) ps)

-- the same in a path, which begins with a slash; the path `/` has no parts
abbrev pub bad_part_of : Text → Option ℕ
bad_part_of path = cond (nat_le (length path) 1) None (bad_part_in 1 (split 47 (drop 1 path)))

-- where the first byte stands that a query may not have
abbrev pub bad_query : Text → Option ℕ
bad_query q = cond (nat_lt (prefix_len query_byte q) (length q)) (Some (prefix_len query_byte q)) None

-- a fault at the place that was found, counted from at; else what comes next in the order of faults
abbrev pub or_else : Fault → ℕ → Option ℕ → Result Unit Flaw → Result Unit Flaw
or_else f at (Some n) next = Err (flaw f (at + n))
or_else f at None next = next

-- what is wrong with a target, with its place in it: a token of the path, then a part of it, then a byte of the query
abbrev pub check_target : Text → Result Unit Flaw
check_target t =
    or_else PathByte 0 (bad_token 0 (tokens (path_of t)))
    (or_else PathPart 0 (bad_part_of (path_of t))
    (or_else QueryByte (before 63 t + 1) (bad_query (query_of t)) (Ok tt)))
