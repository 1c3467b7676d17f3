-- The responses that the gate itself gives: a first line with the status and the number of a fault, and no body.
use Rattle.std.specs.Prelude.{[], ◌++◌, Some, codes}
use Rattle.text.specs.Bytes.{Text}
use Rattle.text.specs.Numerals.{decimal}
use Rattle.message.specs.Faults.{number_of, status_of}
use Rattle.message.specs.declared.fault.Fault.{Fault}
use Rattle.response.specs.Copies.{copy}

-- the version, the status of the fault, its number
abbrev pub refusal_line : Fault → Text
refusal_line f = ((codes "HTTP/1.1 " ++ decimal (status_of f)) ++ codes " ") ++ decimal (number_of f)

-- it goes out as a response without fields and with a body of no bytes, so with `content-length: 0`
abbrev pub refusal : Fault → Text
refusal f = copy record { line = refusal_line f; fields = []; body = Some [] }
