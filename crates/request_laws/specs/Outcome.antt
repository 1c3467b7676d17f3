-- What is found in a client's first bytes when all of them are read at once: the meaning of a read, whatever the pieces were.
use Rattle.std.specs.Prelude.{ℕ, ◌+◌, List, map, take, drop, Some, None, Ok, Err, Option, Result}
use Rattle.text.specs.Bytes.{Text}
use Rattle.message.specs.Bodies.{Part, part_of}
use Rattle.message.specs.Faults.{flaw}
use Rattle.message.specs.Fields.{Field}
use Rattle.message.specs.Hops.{field_of, kept_of}
use Rattle.message.specs.Sent.{Found, ended, more as more_fields, wrong, fields_in}
use Rattle.message.specs.declared.body.Due.{Due}
use Rattle.message.specs.declared.chunked.Outcome.{Outcome as Ran}
use Rattle.message.specs.declared.chunked.Outcome.TheVariants.{More, Whole, Wrong}
use Rattle.message.specs.declared.fault.Flaw.{Flaw}
use Rattle.request.specs.Canonical.{Req, field_limit}
use Rattle.request.specs.Found.{Finding, more, fault, limited}
use Rattle.request.specs.Heads.{window, judged}
use Rattle.request.specs.Reading.{target_in}
use Rattle.request.specs.Targets.{check_target, undone}
use Rattle.request.specs.declared.head.Head.{Head}
use Rattle.request.specs.declared.head.Judged.{Judged}

-- More bytes are wanted; or there is a fault in the head or in the body, and it is not known where the request would end; or all of it has come: what is
-- found of it, and how many bytes it took.
pub data Outcome : Type 0 where
  wants : Outcome
  broken : Flaw → Outcome
  whole : Finding → ℕ → Outcome

-- the request that a head h as sent and a body mean, with these fields as sent
abbrev pub meaning : Head → Text → Text → List Field → Req
meaning head h body fs = record { method = take head.method h; target = undone (target_in head h); fields = kept_of fs; body = body }

abbrev pub on_fields : Head → Text → Text → Found → Finding
on_fields head h body (ended fs end) = limited head.server head.len (meaning head h body (map field_of fs))
on_fields head h body more_fields = more
on_fields head h body (wrong w) = fault w

abbrev pub on_target : Head → Text → Text → Result Unit Flaw → Finding
on_target head h body (Err w) = fault (flaw w.fault (head.method + 1 + w.place))
on_target head h body (Ok u) = on_fields head h body (fields_in field_limit h head.fields)

-- all of a request has come: its head h as sent, and its body. The target is judged, and then the length of the canonical head
abbrev pub judged_whole : Head → Text → Text → Finding
judged_whole head h body = on_target head h body (check_target (target_in head h))

abbrev pub on_ran : Head → Text → Part → Ran → Outcome
on_ran head s p More = wants
on_ran head s p (Wrong w) = broken w
on_ran head s p Whole = whole (judged_whole head (take head.len s) p.body) (head.len + p.taken)

-- what has come of a body behind a head that is let pass; s: all bytes that have come
abbrev pub on_part : Head → Text → Part → Outcome
on_part head s p = on_ran head s p p.outcome

abbrev pub on_due : Head → Text → Due → Outcome
on_due head s due = on_part head s (part_of due (drop head.len s))

abbrev pub on_head : Text → Result (Option Judged) Flaw → Outcome
on_head s (Err w) = broken w
on_head s (Ok None) = wants
on_head s (Ok (Some j)) = on_due j.head s j.due

-- what is found in the bytes s, by the names of the servers
abbrev pub outcome : List Text → Text → Outcome
outcome names s = on_head s (judged names (take window s))
