-- A client's bytes, read as they come: what a piece does to the small state and to the lent memory.
use Rattle.std.specs.Prelude.{ℕ, ◌+◌, ◌-◌, Bool, true, cond, ◌&&◌, List, ◌++◌, length, take, drop, Some, None, Ok, Err, Option, Result, ◌==◌, nat_le}
use Rattle.text.specs.Bytes.{Text}
use Rattle.message.specs.Bodies.{fits as body_fits, fed_by as body_fed, held_by as body_held}
use Rattle.message.specs.Faults.{flaw}
use Rattle.message.specs.declared.body.Due.{Due}
use Rattle.message.specs.declared.body.Fed.{Fed as BodyFed}
use Rattle.message.specs.declared.chunked.Outcome.{Outcome}
use Rattle.message.specs.declared.chunked.Outcome.TheVariants.{More, Whole as BodyWhole, Wrong}
use Rattle.message.specs.declared.fault.Flaw.{Flaw}
use Rattle.message.specs.declared.fault.Unfit.{Unfit}
use Rattle.request.specs.Heads.{window, judged}
use Rattle.request.specs.Targets.{check_target, undone}
use Rattle.request.specs.declared.head.Head.{Head}
use Rattle.request.specs.declared.head.Judged.{Judged}
use Rattle.request.specs.declared.reading.Body.{Body}
use Rattle.request.specs.declared.reading.Reading.{Reading}
use Rattle.request.specs.declared.reading.Reading.TheVariants.{InHead, InBody, Whole, Refused}
use Rattle.request.specs.declared.reading.Fed.{Fed}

-- the memory lent for one client
unfoldable pub memory_size : ℕ
memory_size = 282624

-- memory that held xs, with ys written at n
abbrev pub placed_at : ℕ → Text → Text → Text
placed_at n ys xs = take n xs ++ (ys ++ drop (n + length ys) xs)

-- what a piece leaves: how far the request has been read, how many bytes of the piece belonged to it, and what the memory holds
pub record After : Type 0 where
  pub reading : Reading
  pub taken : ℕ
  pub memory : Text

abbrev pub after : Reading → ℕ → Text → After
after r n memory = record { reading = r; taken = n; memory = memory }

-- the target as it lies in the memory
abbrev pub target_in : Head → Text → Text
target_in head memory = take head.target (drop (head.method + 1) memory)

abbrev pub with_target : Head → ℕ → Head
with_target head n =
    record { len = head.len; method = head.method; target = n; fields = head.fields; server = head.server }

-- how far a request has been read, and what the memory holds
pub record Settled : Type 0 where
  pub reading : Reading
  pub memory : Text

abbrev pub on_target : Head → ℕ → Text → Result Unit Flaw → Settled
on_target head end memory (Err w) = record { reading = Refused (flaw w.fault (head.method + 1 + w.place)); memory = memory }
on_target head end memory (Ok u) =
    record {
      reading = Whole (with_target head (length (undone (target_in head memory)))) end;
      memory = placed_at (head.method + 1) (undone (target_in head memory)) memory;
    }

-- the body is whole and ends at the place end: the target is judged, and brought into canonical form where it lies
abbrev pub finished : Head → ℕ → Text → Settled
finished head end memory = on_target head end memory (check_target (target_in head memory))

-- after n bytes of a piece with which the body is whole
abbrev pub ending : Head → ℕ → ℕ → Text → After
ending head end n memory = after (finished head end memory).reading n (finished head end memory).memory

-- a body that is being read, by its parts
abbrev pub in_body : Head → ℕ → Due → Reading
in_body head filled due = InBody record { head = head; filled = filled; due = due }

abbrev pub on_judged : ℕ → ℕ → Text → Result (Option Judged) Flaw → After
on_judged filled n memory (Err w) = after (Refused w) n memory
on_judged filled n memory (Ok None) = after (InHead (filled + n)) n memory
on_judged filled n memory (Ok (Some j)) = after (in_body j.head j.head.len j.due) (j.head.len - filled) memory

-- a piece of a head: as much of it as the window has room for is stored, and all that has come is judged; of a head that ends, no byte behind it is taken
abbrev pub head_step : List Text → ℕ → Text → Text → After
head_step names filled memory piece =
    on_judged filled (length (take (window - filled) piece)) (placed_at filled (take (window - filled) piece) memory)
    (judged names (take (filled + length (take (window - filled) piece)) (placed_at filled (take (window - filled) piece) memory)))

abbrev pub on_outcome : Head → ℕ → BodyFed → Text → Outcome → After
on_outcome head filled fed memory More = after (in_body head (filled + fed.written) fed.due) fed.taken memory
on_outcome head filled fed memory BodyWhole = ending head (filled + fed.written) fed.taken memory
on_outcome head filled fed memory (Wrong w) = after (Refused w) fed.taken memory

-- where there is no room, or the piece cannot be counted, nothing is taken
abbrev pub on_part : Body → Text → Text → Result BodyFed Unfit → After
on_part b memory held (Err u) = after (InBody b) 0 memory
on_part b memory held (Ok fed) = on_outcome b.head b.filled fed (take b.filled memory ++ held) fed.outcome

-- a piece of a body: what it holds goes to the free end of the memory
abbrev pub due_step : Body → Text → Text → After
due_step b memory piece = on_part b memory (body_held b.due (drop b.filled memory) piece) (body_fed b.due (length (drop b.filled memory)) piece)

-- a piece of a body; where none is being read nothing is taken
abbrev pub body_step : Reading → Text → Text → After
body_step (InHead filled) memory piece = after (InHead filled) 0 memory
body_step (InBody b) memory piece = due_step b memory piece
body_step (Whole head end) memory piece = after (Whole head end) 0 memory
body_step (Refused w) memory piece = after (Refused w) 0 memory

-- a piece of a head; where none is being read nothing is taken
abbrev pub front_step : List Text → Reading → Text → Text → After
front_step names (InHead filled) memory piece = head_step names filled memory piece
front_step names (InBody b) memory piece = after (InBody b) 0 memory
front_step names (Whole head end) memory piece = after (Whole head end) 0 memory
front_step names (Refused w) memory piece = after (Refused w) 0 memory

abbrev pub further : ℕ → After → After
further n a = after a.reading (n + a.taken) a.memory

abbrev pub body_after : Text → After → After
body_after piece a = further a.taken (body_step a.reading a.memory (drop a.taken piece))

-- a piece: the head first, and with what is left of the piece the body
abbrev pub step : List Text → Reading → Text → Text → After
step names r memory piece = body_after piece (front_step names r memory piece)

-- the target lies in a memory of this size
abbrev pub fits_head : ℕ → Head → Bool
fits_head size head = nat_le (head.method + 1 + head.target) size

-- a memory of this size, filled up to a place, has room for what is due
abbrev pub fits_due : ℕ → ℕ → Due → Bool
fits_due size filled due = nat_le filled size && body_fits due (size - filled) 0

-- a memory of this size has the parts of the head, and room for what is due of the body
abbrev pub fits_body : ℕ → Body → Bool
fits_body size b = fits_head size b.head && fits_due size b.filled b.due

-- the parts of a memory of this size that the state speaks of are there
abbrev pub fits_state : ℕ → Reading → Bool
fits_state size (InHead filled) = nat_le filled window
fits_state size (InBody b) = fits_body size b
fits_state size (Whole head end) = true
fits_state size (Refused w) = true

-- and it has the size that is asked for
abbrev pub fits_in : ℕ → Reading → Bool
fits_in size r = size == memory_size && fits_state size r

abbrev pub fed_by : After → Fed
fed_by a = record { reading = a.reading; taken = a.taken }

-- what feeding a piece answers: where the memory does not fit nothing is read
abbrev pub fed_of : List Text → Reading → Text → Text → Result Fed Unfit
fed_of names r memory piece = cond (fits_in (length memory) r) (Ok (fed_by (step names r memory piece))) (Err record {})

-- and what the memory then holds
abbrev pub held_by : List Text → Reading → Text → Text → Text
held_by names r memory piece = cond (fits_in (length memory) r) (step names r memory piece).memory memory
