-- The response that a state and the memory lent for it hold.
use Rattle.std.specs.Prelude.{ℕ, ◌+◌, ◌-◌, Bool, true, false, cond, ◌&&◌, List, [], map, length, take, drop, Some, None, Option, nat_le}
use Rattle.text.specs.Bytes.{Text}
use Rattle.message.specs.Fields.{Field}
use Rattle.message.specs.Hops.{field_of, kept_of}
use Rattle.message.specs.Sent.{Found, ended, more, wrong, fields_in}
use Rattle.request.specs.Canonical.{field_limit}
use Rattle.response.specs.Copies.{Res, copy}
use Rattle.response.specs.declared.head.Head.{Head}
use Rattle.response.specs.declared.reading.Reading.{Reading}
use Rattle.response.specs.declared.reading.Reading.TheVariants.{InHead, InBody, Whole, Unreadable}

-- a body, where one follows
abbrev pub body_if : Bool → Text → Option Text
body_if true body = Some body
body_if false body = None

-- the response that lies in a memory, with these fields, and a body that ends at the place end
abbrev pub parts_in : Head → ℕ → Text → List Field → Res
parts_in head end memory fs = record { line = take head.line memory; fields = fs; body = body_if head.bodied (take (end - head.len) (drop head.len memory)) }

abbrev pub with_fields : Head → ℕ → Text → Found → Option Res
with_fields head end memory (ended fs len) = Some (parts_in head end memory (kept_of (map field_of fs)))
with_fields head end memory more = None
with_fields head end memory (wrong w) = None

-- the parts of a head lie in it, and a body that ends at the place end lies behind it in a memory of this size
abbrev pub holds : ℕ → Head → ℕ → Bool
holds size head end = nat_le (head.line + 2) head.len && nat_le head.len end && nat_le end size

-- a whole response in the memory, if there is one
abbrev pub response_in : Reading → Text → Option Res
response_in (Whole head end) memory =
    cond (holds (length memory) head end) (with_fields head end memory (fields_in field_limit (take head.len memory) (head.line + 2))) None
response_in (InHead filled) memory = None
response_in (InBody b) memory = None
response_in Unreadable memory = None

-- the same with room lent for so many fields; less than a head may have is refused
abbrev pub response_with : ℕ → Reading → Text → Option Res
response_with room r memory = cond (nat_le field_limit room) (response_in r memory) None

-- a response as it goes to the client; no bytes where there is none
abbrev pub copied : Option Res → Text
copied None = []
copied (Some r) = copy r
