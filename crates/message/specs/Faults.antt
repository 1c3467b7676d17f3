-- Faults by their numbers, and the status that a refusal has for each.
use Rattle.std.specs.Prelude.{ℕ, Bool, Ok, Err, Result, nat_le}
use Rattle.message.specs.declared.fault.Fault.{Fault}
use Rattle.message.specs.declared.fault.Fault.TheVariants.{FirstLine, TooLong, FieldLine, Host, Framing, BodyUnfit, BodyTooLong, Chunk, PathByte, PathPart, QueryByte, Denied, Busy, Down}
use Rattle.message.specs.declared.fault.Flaw.{Flaw}

abbrev pub number_of : Fault → ℕ
number_of FirstLine = 1
number_of TooLong = 2
number_of FieldLine = 3
number_of Host = 4
number_of Framing = 5
number_of BodyUnfit = 6
number_of BodyTooLong = 7
number_of Chunk = 8
number_of PathByte = 9
number_of PathPart = 10
number_of QueryByte = 11
number_of Denied = 12
number_of Busy = 13
number_of Down = 14

-- 400 Bad Request, 403 Forbidden, 411 Length Required, 413 Content Too Large, 421 Misdirected Request (RFC 9110, 15.5), 431 Request Header Fields Too
-- Large (RFC 6585, 5), 502 Bad Gateway, 503 Service Unavailable (RFC 9110, 15.6)
abbrev pub status_of : Fault → ℕ
status_of FirstLine = 400
status_of TooLong = 431
status_of FieldLine = 400
status_of Host = 421
status_of Framing = 400
status_of BodyUnfit = 411
status_of BodyTooLong = 413
status_of Chunk = 400
status_of PathByte = 400
status_of PathPart = 400
status_of QueryByte = 400
status_of Denied = 403
status_of Busy = 503
status_of Down = 502

-- 1 to 8: it is not known where the next request would begin
abbrev pub ends_client : Fault → Bool
ends_client f = nat_le (number_of f) 8

abbrev pub flaw : Fault → ℕ → Flaw
flaw f place = record { fault = f; place = place }

-- go on with what was found, or stop at the flaw
abbrev pub onward : {A B : Type 0} → Result A Flaw → (A → Result B Flaw) → Result B Flaw
onward (Ok a) go = go a
onward (Err w) go = Err w
