-- What reading a client has found, by the state and the memory.
use Rattle.std.specs.Prelude.{ℕ, ◌+◌, ◌-◌, Bool, cond, ◌&&◌, List, map, length, take, drop, Ok, Err, Result, nat_le}
use Rattle.text.specs.Bytes.{Text}
use Rattle.message.specs.Faults.{flaw}
use Rattle.message.specs.Fields.{Field}
use Rattle.message.specs.Hops.{field_of, kept_of}
use Rattle.message.specs.Sent.{Found as Fields, ended, more as more_fields, wrong, fields_in}
use Rattle.message.specs.declared.fault.Fault.TheVariants.{TooLong}
use Rattle.message.specs.declared.fault.Flaw.{Flaw}
use Rattle.message.specs.declared.fault.Unfit.{Unfit}
use Rattle.request.specs.Canonical.{Req, head_limit, field_limit}
use Rattle.request.specs.Reading.{target_in}
use Rattle.request.specs.SentWriting.{view_sent_request}
use Rattle.request.specs.Writing.{head_length}
use Rattle.request.specs.declared.head.Head.{Head}
use Rattle.request.specs.declared.reading.Reading.{Reading}
use Rattle.request.specs.declared.reading.Reading.TheVariants.{InHead, InBody, Whole, Refused}
use Rattle.request.specs.declared.found.Found.{Found as Held}
use Rattle.request.specs.declared.found.Found.TheVariants.{Request, More, Fault}

-- a request that is let pass, for a server counted from 0; that more is wanted; or the first fault
pub data Finding : Type 0 where
  passed : (server : ℕ) → Req → Finding
  more : Finding
  fault : Flaw → Finding

-- the last fault: a canonical head that is too long, at the length that the head had as sent
abbrev pub limited : ℕ → ℕ → Req → Finding
limited server len q = cond (nat_le (head_length q) head_limit) (passed server q) (fault (flaw TooLong len))

-- the request that lies in a memory, with these fields, and a body that ends at the place end
abbrev pub parts_in : Head → ℕ → Text → List Field → Req
parts_in head end memory fs =
    record { method = take head.method memory; target = target_in head memory; fields = fs; body = take (end - head.len) (drop head.len memory) }

-- the same with those of the fields as sent that are sent on
abbrev pub request_in : Head → ℕ → Text → List Field → Req
request_in head end memory fs = parts_in head end memory (kept_of fs)

abbrev pub with_fields : Head → ℕ → Text → Fields → Result Finding Unfit
with_fields head end memory (ended fs len) = Ok (limited head.server head.len (request_in head end memory (map field_of fs)))
with_fields head end memory more_fields = Err record {}
with_fields head end memory (wrong w) = Err record {}

-- the parts of a head lie in it, and a body that ends at the place end lies behind it in a memory of this size
abbrev pub holds : ℕ → Head → ℕ → Bool
holds size head end = nat_le (head.method + 1 + head.target) head.len && nat_le head.len end && nat_le end size

-- a whole request in the memory; one that is not there is refused
abbrev pub whole_in : Head → ℕ → Text → Result Finding Unfit
whole_in head end memory =
    cond (holds (length memory) head end) (with_fields head end memory (fields_in field_limit (take head.len memory) head.fields)) (Err record {})

abbrev pub found_in : Reading → Text → Result Finding Unfit
found_in (InHead filled) memory = Ok more
found_in (InBody b) memory = Ok more
found_in (Whole head end) memory = whole_in head end memory
found_in (Refused w) memory = Ok (fault w)

-- the same with room lent for so many fields; less than a head may have is refused
abbrev pub found_with : ℕ → Reading → Text → Result Finding Unfit
found_with room r memory = cond (nat_le field_limit room) (found_in r memory) (Err record {})

-- what the code holds, as a value
abbrev pub view_finding : Held → Finding
view_finding (Request server q) = passed server (view_sent_request q)
view_finding More = more
view_finding (Fault w) = fault w

abbrev pub view_found : Result Held Unfit → Result Finding Unfit
view_found (Ok f) = Ok (view_finding f)
view_found (Err u) = Err record {}
