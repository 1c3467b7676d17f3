-- What the one code does in each place, by the habit.
use Rattle.std.specs.Prelude.{ℕ, Bool, cond, List, [], ◌∷◌, take, codes, Some, None, Option}
use Rattle.std.specs.List.{prefix_len}
use Rattle.std.specs.Option.{option_map}
use Rattle.text.specs.Bytes.{Text, same, upper, visible, name_byte, value_byte}
use Rattle.text.specs.Marks.{cut_at}
use Rattle.text.specs.Trims.{trimmed_back}
use Rattle.text.specs.Numerals.{number_of}
use Rattle.text.specs.declared.numeral.Base.TheVariants.{Decimal}
use Rattle.message.specs.Fields.{Field}
use Rattle.reader.specs.Reader.{Got, body_of}
use Rattle.reader.specs.Strict.{field_of}
use Rattle.forgiving.specs.Readers.{common_end, lf_end, cr_end, hyphened, goes_on, octal, one_of, last_of, added, reader_with}
use Rattle.forgiving.specs.Views.{cut_part}
use Rattle.forgiving.specs.declared.habit.Habit.{Habit}
use Rattle.forgiving.specs.declared.habit.Habit.TheVariants.{LoneLf, LoneCr, SpaceBeforeColon, LowLine, GoesOn, Octal, FirstLength, LastLength, AddedLengths, GetBody, NoChunks, CutParts}
use Rattle.forgiving.specs.declared.word.Word.{Word}
use Rattle.forgiving.specs.declared.word.Word.TheVariants.{Method, Target, Name, Value}

-- how many bytes of a line's end a text begins with
abbrev pub end_by : Habit → Text → ℕ
end_by LoneLf t = lf_end t
end_by LoneCr t = cr_end t
end_by h t = common_end t

-- the bytes that a word of a head is made of
abbrev pub allowed : Word → ℕ → Bool
allowed Method c = upper c
allowed Target c = visible c
allowed Name c = name_byte c
allowed Value c = value_byte c

-- a field's name as it is judged
abbrev pub name_by : Habit → Text → Text
name_by SpaceBeforeColon n = trimmed_back n
name_by LowLine n = hyphened n
name_by h n = n

-- how many lines in front go on with the line before them
abbrev pub going_by : Habit → List Text → ℕ
going_by GoesOn ls = prefix_len goes_on ls
going_by h ls = 0

-- the field in a line
abbrev pub field_by : Habit → Text → Option Field
field_by h l = field_of (option_map (λ p. (name_by h p.0, p.1)) (cut_at 58 l))

-- what a length is worth
abbrev pub number_by : Habit → Text → Option ℕ
number_by Octal v = octal v
number_by h v = number_of Decimal v

-- what lengths say together
abbrev pub length_by : Habit → List Text → Option ℕ
length_by FirstLength vs = one_of (number_of Decimal) (take 1 vs)
length_by LastLength vs = one_of (number_of Decimal) (last_of vs)
length_by AddedLengths vs = added vs
length_by h vs = one_of (number_by h) vs

-- a length as long as there is no encoding
abbrev pub unencoded : List Text → Option ℕ → Option ℕ
unencoded [] n = n
unencoded (e ∷ es) n = None

-- how long the body of a request of this method is, by the encodings and lengths of its head; none where no length says it
abbrev pub size_with : Habit → Text → List Text → List Text → Option ℕ
size_with GetBody m es vs = cond (same m (codes "GET")) (Some 0) (unencoded es (length_by GetBody vs))
size_with NoChunks m es vs = length_by NoChunks vs
size_with h m es vs = unencoded es (length_by h vs)

-- what a reader finds behind a head of this method, target and fields
abbrev pub body_by : Habit → Text → Text → List Field → Text → Got
body_by h m t fs s = body_of (reader_with h) m t fs s ((reader_with h).size m fs)

-- what is seen of a part of a path
abbrev pub part_by : Habit → Text → Text
part_by CutParts t = cut_part t
part_by h t = t
