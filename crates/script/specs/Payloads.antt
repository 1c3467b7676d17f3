-- The bytes that an event's last word spells, as hexadecimal digits or as text in quotes.
use Rattle.std.specs.Prelude.{◌≡◌, ℕ, ◌<◌, Bool, true, false, cond, ◌⊎◌, List, [], ◌∷◌, length, Some, None, Ok, Err, codes, Option, Result, MatchResult, ◌==◌}
use Rattle.std.specs.Option.{option_map, unwrap_or, ok_or}
use Rattle.text.specs.Bytes.{Text, between}
use Rattle.text.specs.Numerals.{hex_pair}
use Rattle.text.specs.Marks.{rest_after}
use Rattle.script.specs.Series.{on_rest}
use Rattle.script.specs.declared.payload.Payload.{Payload}
use Rattle.script.specs.declared.payload.Payload.TheVariants.{Hex, Quoted}
use Rattle.script.specs.declared.payload.Spelling.{Spelling}
use Rattle.script.specs.declared.problem.Problem.{Problem}
use Rattle.script.specs.declared.problem.Problem.TheVariants as problem

-- how far a spelling has come: before the first digit; after two digits; after the first digit of two; between the quotes; after a backslash; after \x;
-- after \x and a digit; after the closing quote
pub data Mode : Type 0 where
  Start Whole : Mode
  Half : ℕ → Mode
  Plain Escape First : Mode
  Second : ℕ → Mode
  Closed : Mode

-- what a byte brings: another mode, also with a byte that is spelled out, or it is wrong there
pub data Move : Type 0 where
  To : Mode → Move
  Put : ℕ → Mode → Move
  Bad : Move

-- the byte that stands after a backslash for another: r n t \ "
abbrev pub escaped : ℕ → Option ℕ
escaped c =
    cond (c == 114) (Some 13)
    (cond (c == 110) (Some 10)
    (cond (c == 116) (Some 9)
    (cond (c == 92) (Some 92)
    (cond (c == 34) (Some 34) None))))

abbrev pub put_of : Option ℕ → Mode → Move
put_of None next = Bad
put_of (Some b) next = Put b next

-- what a byte means after what came before it: digits by two; in quotes a byte from 32 to 126 itself, but for the quote and the backslash, and x with two digits any byte
abbrev pub move_of : Mode → ℕ → Move
move_of Start c = To (Half c)
move_of Whole c = To (Half c)
move_of (Half a) c = put_of (hex_pair a c) Whole
move_of Plain c = cond (c == 34) (To Closed) (cond (c == 92) (To Escape) (cond (between 32 126 c) (Put c Plain) Bad))
move_of Escape c = cond (c == 120) (To First) (put_of (escaped c) Plain)
move_of First c = To (Second c)
move_of (Second a) c = put_of (hex_pair a c) Plain
move_of Closed c = Bad

-- a word may end after two digits, and after the closing quote
abbrev pub ends : Mode → Bool
ends Start = false
ends Whole = true
ends (Half a) = false
ends Plain = false
ends Escape = false
ends First = false
ends (Second a) = false
ends Closed = true

abbrev pub moved : Move → (Mode → Option Text) → Option Text
moved (To next) go = go next
moved (Put b next) go = option_map (λ t. b ∷ t) (go next)
moved Bad go = None

-- the bytes that a text spells from a mode on, where it is well spelled
unfoldable pub spelled_from : Mode → Text → Option Text
spelled_from m [] = cond (ends m) (Some []) None
spelled_from m (c ∷ cs) = moved (move_of m c) (λ next. spelled_from next cs)

-- what a move puts out, and then what comes from its mode on
abbrev pub brought : Move → (Mode → List (Option ℕ)) → List (Option ℕ)
brought (To next) go = go next
brought (Put b next) go = Some b ∷ go next
brought Bad go = None ∷ []

-- the same bytes as they come, one after the other; none in place of the first that is misspelled, and at an end that comes too soon
unfoldable pub bytes_from : Mode → Text → List (Option ℕ)
bytes_from m [] = cond (ends m) [] (None ∷ [])
bytes_from m (c ∷ cs) = brought (move_of m c) (λ next. bytes_from next cs)

-- the byte that is spelled in front, and what follows: by two digits, behind a backslash, and in quotes
abbrev pub first_pair : Text → Option (ℕ × Text)
first_pair [] = None
first_pair (a ∷ []) = None
first_pair (a ∷ b ∷ cs) = option_map (λ v. (v, cs)) (hex_pair a b)

abbrev pub first_escaped : Text → Option (ℕ × Text)
first_escaped [] = None
first_escaped (c ∷ cs) = cond (c == 120) (first_pair cs) (option_map (λ v. (v, cs)) (escaped c))

abbrev pub first_quoted : Text → Option (ℕ × Text)
first_quoted [] = None
first_quoted (c ∷ cs) = cond (c == 34) None (cond (c == 92) (first_escaped cs) (cond (between 32 126 c) (Some (c, cs)) None))

-- only the closing quote is left
abbrev pub closed : Text → Bool
closed [] = false
closed (c ∷ []) = c == 34
closed (c ∷ d ∷ cs) = false

-- a word that begins with a quote is text in quotes, any other is digits
abbrev pub payload_of : Text → Result Text Problem
payload_of t = on_rest (rest_after (codes "\"") t) (λ rest. ok_or (spelled_from Plain rest) problem.QuotedText) (ok_or (spelled_from Start t) problem.Hexadecimal)

-- what the code holds
abbrev pub start_of : Payload → Mode
start_of (Hex t) = Start
start_of (Quoted t) = Plain

abbrev pub text_of : Payload → Text
text_of (Hex t) = t.now
text_of (Quoted t) = t.now

abbrev pub fault_of : Payload → Problem
fault_of (Hex t) = problem.Hexadecimal
fault_of (Quoted t) = problem.QuotedText

-- a payload of which nothing but its end is left
abbrev pub has_ended : Payload → Bool
has_ended (Hex t) = false
has_ended (Quoted t) = closed t.now

-- the bytes that are still to come of what is left of a payload
abbrev pub bytes_of : Option Payload → List (Option ℕ)
bytes_of None = []
bytes_of (Some p) = bytes_from (start_of p) (text_of p)

-- and those of the iterator itself
abbrev pub bytes_left : Spelling → List (Option ℕ)
bytes_left s = bytes_of s.left

abbrev pub spelled : Payload → Option Text
spelled p = spelled_from (start_of p) (text_of p)

-- the bytes of a payload; none where it is not well spelled, which no payload that was read is
abbrev pub bytes_in : Payload → Text
bytes_in p = unwrap_or (spelled p) []

abbrev pub view_payload : Result Payload Problem → Result Text Problem
view_payload (Ok p) = Ok (bytes_in p)
view_payload (Err e) = Err e

-- a payload decoded into a buffer with room for so many bytes: its bytes, or what is wrong with its spelling, or want of memory, where the word is longer than the room
abbrev pub Decoded : {U : Type 0} → Payload → ℕ → Text → Result U Problem → Type 0
Decoded p room out r =
    MatchResult r (λ _. spelled p ≡ Some out)
    (λ e. ((spelled p ≡ None) × (e ≡ fault_of p)) ⊎ ((e ≡ problem.Memory) × (room < length (text_of p))))
