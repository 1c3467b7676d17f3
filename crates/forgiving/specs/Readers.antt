-- The twelve habits of reading requests, each the common reader with one thing changed.
use Rattle.std.specs.Prelude.{ℕ, ◌+◌, ◌-◌, ◌*◌, Bool, true, false, cond, ◌&&◌, List, [], ◌∷◌, ◌++◌, map, length, take, drop, Some, None, codes, Option, ◌==◌, nat_le, nat_lt}
use Rattle.std.specs.Option.{option_map}
use Rattle.text.specs.Bytes.{Text, between, blank, same, capped}
use Rattle.text.specs.Marks.{cut_at}
use Rattle.text.specs.Trims.{trimmed_back}
use Rattle.text.specs.Numerals.{most_digits, on_digit, number_of}
use Rattle.text.specs.declared.numeral.Base.TheVariants.{Decimal}
use Rattle.message.specs.Fields.{Field, content_length, transfer_encoding}
use Rattle.reader.specs.Reader.{Reader, Cut, Short, Line, Fields, Many, Size, Exactly, Otherwise}
use Rattle.reader.specs.Strict.{before, field_of, one_more, read_fields, values_of, exactly, size_by, read_size}
use Rattle.forgiving.specs.Common.{common}
use Rattle.forgiving.specs.declared.habit.Habit.{Habit}
use Rattle.forgiving.specs.declared.habit.Habit.TheVariants.{LoneLf, LoneCr, EmptyLines, SpaceBeforeColon, LowLine, GoesOn, Octal, FirstLength, LastLength, AddedLengths, GetBody, NoChunks, UndoneTwice, CutParts}

-- How many bytes of a line's end a text begins with, 0 where it begins with none. Commonly these are CR LF.
abbrev pub common_end : Text → ℕ
common_end [] = 0
common_end (c ∷ []) = 0
common_end (c ∷ d ∷ cs) = cond (c == 13 && d == 10) 2 0

-- 1. LF alone is an end too.
abbrev pub lf_end : Text → ℕ
lf_end [] = 0
lf_end (c ∷ cs) = cond (c == 10) 1 (common_end (c ∷ cs))

-- 2. CR alone is one, once the byte behind it has come and is no LF.
abbrev pub cr_end : Text → ℕ
cr_end [] = 0
cr_end (c ∷ []) = 0
cr_end (c ∷ d ∷ cs) = cond (c == 13) (cond (d == 10) 2 1) 0

-- a line goes up to the first end
unfoldable pub split_by : (Text → ℕ) → Text → Cut
split_by ends [] = Short
split_by ends (c ∷ cs) = cond (nat_lt 0 (ends (c ∷ cs))) (Line [] (drop (ends (c ∷ cs)) (c ∷ cs))) (before c (split_by ends cs))

-- fields whose names are changed before they are judged
unfoldable pub fields_by : (Text → Text) → List Text → Fields
fields_by rename [] = Many []
fields_by rename (l ∷ ls) = one_more (field_of (option_map (λ p. (rename p.0, p.1)) (cut_at 58 l))) (fields_by rename ls)

-- 5. A low line becomes a hyphen.
abbrev pub hyphened : Text → Text
hyphened n = map (λ c. cond (c == 95) 45 c) n

-- 6. A line that begins with a space or a tab goes on with the line before it, and its bytes stand behind that one's; the first goes on with none.
abbrev pub goes_on : Text → Bool
goes_on [] = false
goes_on (c ∷ cs) = blank c

-- a line l, and lines that may go on with it
unfoldable pub joined_on : Text → List Text → List Text
joined_on l [] = l ∷ []
joined_on l (m ∷ ms) = cond (goes_on m) (joined_on (l ++ m) ms) (l ∷ joined_on m ms)

abbrev pub joined : List Text → List Text
joined [] = []
joined (l ∷ ls) = joined_on l ls

-- a body whose length is known, unless there is an encoding
abbrev pub sized : List Text → Option ℕ → Size
sized [] n = exactly n
sized (e ∷ es) n = Otherwise

-- what a byte is worth as an octal digit
abbrev pub octal_digit : ℕ → Option ℕ
octal_digit c = cond (between 48 55 c) (Some (c - 48)) None

-- the value of octal digits that follow others worth n; none where one is none
unfoldable pub octal_after : ℕ → Text → Option ℕ
octal_after n [] = Some n
octal_after n (c ∷ cs) = on_digit (octal_digit c) (λ d. octal_after (n * 8 + d) cs)

-- the first digit is a zero
abbrev pub begins_with_zero : Text → Bool
begins_with_zero [] = false
begins_with_zero (c ∷ cs) = c == 48

-- 7. A length that begins with a zero, of as many digits as a length may have, is read in octal.
abbrev pub octal : Text → Option ℕ
octal t = cond (begins_with_zero t && nat_le (length t) (most_digits Decimal)) (octal_after 0 t) (number_of Decimal t)

-- what lengths say together: nothing is 0, several are no length
abbrev pub one_of : (Text → Option ℕ) → List Text → Option ℕ
one_of number [] = Some 0
one_of number (v ∷ []) = number v
one_of number (v ∷ w ∷ vs) = None

-- 9. The last of several.
abbrev pub last_of : List Text → List Text
last_of vs = drop (length vs - 1) vs

-- 10. All are added, to those before them that are worth n; a sum that 64 bits do not hold is the largest number that they do.
unfoldable pub added_after : ℕ → List Text → Option ℕ
added_after n [] = Some n
added_after n (v ∷ vs) = on_digit (number_of Decimal v) (λ m. added_after (capped (n + m)) vs)

-- the sum of all
abbrev pub added : List Text → Option ℕ
added vs = added_after 0 vs

-- the values of the lengths, and of the encodings
abbrev pub lengths : List Field → List Text
lengths fs = values_of content_length fs

abbrev pub encodings : List Field → List Text
encodings fs = values_of transfer_encoding fs

-- A reader with a habit. 3: empty lines before a request are skipped. 4: blanks before the colon are cut. 8: of several lengths the first counts. 11: a
-- GET has no body. 12: encodings are not looked at. Those with a habit of viewing a path read as the common reader does.
abbrev pub reader_with : Habit → Reader
reader_with LoneLf = record common { split = split_by lf_end }
reader_with LoneCr = record common { split = split_by cr_end }
reader_with EmptyLines = record common { skips = true }
reader_with SpaceBeforeColon = record common { fields = fields_by trimmed_back }
reader_with LowLine = record common { fields = fields_by hyphened }
reader_with GoesOn = record common { fields = λ ls. read_fields (joined ls) }
reader_with Octal = record common { size = λ m fs. sized (encodings fs) (one_of octal (lengths fs)) }
reader_with FirstLength = record common { size = λ m fs. size_by (encodings fs) (take 1 (lengths fs)) }
reader_with LastLength = record common { size = λ m fs. size_by (encodings fs) (last_of (lengths fs)) }
reader_with AddedLengths = record common { size = λ m fs. sized (encodings fs) (added (lengths fs)) }
reader_with GetBody = record common { size = λ m fs. cond (same m (codes "GET")) (Exactly 0) (read_size m fs) }
reader_with NoChunks = record common { size = λ m fs. size_by [] (lengths fs) }
reader_with UndoneTwice = common
reader_with CutParts = common
