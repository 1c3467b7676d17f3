-- How a server's bytes are read as responses, all at once: the ear of the gate. What is found at their front does not depend on how they were cut.
use Rattle.std.specs.Prelude.{◌+◌, List, map, take, drop, Some, None, Ok, Err, Option, Result}
use Rattle.text.specs.Bytes.{Text}
use Rattle.message.specs.Bodies.{Part, part_of}
use Rattle.message.specs.Fields.{Field}
use Rattle.message.specs.Hops.{field_of, kept_of}
use Rattle.message.specs.Sent.{Found as Fields, ended, more as more_fields, wrong, fields_in}
use Rattle.message.specs.declared.body.Due.{Due}
use Rattle.message.specs.declared.chunked.Outcome.{Outcome}
use Rattle.message.specs.declared.chunked.Outcome.TheVariants.{More, Whole, Wrong}
use Rattle.request.specs.Canonical.{field_limit}
use Rattle.request.specs.Heads.{window}
use Rattle.response.specs.Copies.{Res}
use Rattle.response.specs.Found.{body_if, copied}
use Rattle.response.specs.Heads.{judged}
use Rattle.response.specs.Status.{is_last}
use Rattle.response.specs.declared.head.Head.{Head}
use Rattle.response.specs.declared.head.Judged.{Judged}
use Rattle.response.specs.declared.head.Unreadable.{Unreadable}
use Rattle.connection.specs.Model.{Response, Found, more, unreadable, whole, Ear}

-- the response that a head h as sent and a body mean, with these fields as sent
abbrev pub meaning : Head → Text → Text → List Field → Res
meaning head h body fs = record { line = take head.line h; fields = kept_of fs; body = body_if head.bodied body }

abbrev pub with_fields : Head → Text → Text → Fields → Option Res
with_fields head h body (ended fs end) = Some (meaning head h body (map field_of fs))
with_fields head h body more_fields = None
with_fields head h body (wrong w) = None

-- the same with the fields that are in the head
abbrev pub meant : Head → Text → Text → Option Res
meant head h body = with_fields head h body (fields_in field_limit h (head.line + 2))

-- as it goes to the client
abbrev pub response_of : Head → Text → Text → Response
response_of head h body = record { last = is_last head.status; text = copied (meant head h body) }

-- the bytes x behind a head h, and the part of a body that they hold
abbrev pub on_part : Head → Text → Text → Part → Outcome → Found
on_part head h x p More = more
on_part head h x p (Wrong w) = unreadable
on_part head h x p Whole = whole (response_of head h p.body) (drop p.taken x)

abbrev pub on_body : Head → Text → Due → Text → Found
on_body head h due x = on_part head h x (part_of due x) (part_of due x).outcome

-- what was found of a head; s: all bytes that have come
abbrev pub on_judged : Text → Result (Option Judged) Unreadable → Found
on_judged s (Err u) = unreadable
on_judged s (Ok None) = more
on_judged s (Ok (Some j)) = on_body j.head (take j.head.len s) j.due (drop j.head.len s)

abbrev pub ear : Ear
ear m s = on_judged s (judged m (take window s))
