-- What is found in a client's bytes, told as lines of text.
use Rattle.std.specs.Prelude.{◌+◌, ◌/◌, ◌%◌, cond, List, [], ◌∷◌, ◌++◌, length, codes, flat_map}
use Rattle.text.specs.Bytes.{Text, nonempty, capped}
use Rattle.text.specs.Numerals.{decimal, digit_byte}
use Rattle.message.specs.Faults.{number_of}
use Rattle.request.specs.Canonical.{Req, carries_body, head_lines}
use Rattle.request.specs.Found.{Finding, passed, more, fault}

-- a line after two spaces
abbrev pub indented_line : Text → Text
indented_line l = 32 ∷ 32 ∷ (l ++ (10 ∷ []))

-- each line after two spaces
abbrev pub indented : List Text → Text
indented ls = flat_map indented_line ls

-- bytes in hexadecimal, two digits in lower case for each
abbrev pub hexadecimal : Text → Text
hexadecimal bs = flat_map (λ b. digit_byte (b / 16) ∷ digit_byte (b % 16) ∷ []) bs

abbrev pub body_hex : Text → Text
body_hex b = cond (nonempty b) (32 ∷ hexadecimal b) []

-- a body: how long it is, and its bytes
abbrev pub body_line : Text → Text
body_line b = codes "  body " ++ (decimal (length b) ++ (body_hex b ++ (10 ∷ [])))

-- a canonical request: the lines of its head without the empty one, and its body, where the method carries one
abbrev pub request_lines : Req → Text
request_lines q = indented (head_lines q) ++ cond (carries_body q.method) (body_line q.body) []

-- a request that is let pass, with its server's number, counted from 1; a fault, with its number and place; or that the bytes end inside a request
abbrev pub told : Finding → Text
told (passed server q) = codes "pass " ++ (decimal (capped (server + 1)) ++ (10 ∷ request_lines q))
told (fault w) = codes "fault " ++ (decimal (number_of w.fault) ++ (codes " at " ++ (decimal w.place ++ (10 ∷ []))))
told more = codes "more" ++ (10 ∷ [])
