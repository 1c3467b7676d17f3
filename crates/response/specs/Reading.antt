-- A server's bytes, read as they come: what a piece does to the small state and to the lent memory.
use Rattle.std.specs.Prelude.{ℕ, ◌+◌, ◌-◌, Bool, true, cond, ◌&&◌, ◌++◌, length, take, drop, Some, None, Ok, Err, Option, Result, ◌==◌, nat_le}
use Rattle.text.specs.Bytes.{Text}
use Rattle.message.specs.Bodies.{unplaced, fed_by as body_fed, held_by as body_held}
use Rattle.message.specs.declared.body.Due.{Due}
use Rattle.message.specs.declared.body.Fed.{Fed as BodyFed}
use Rattle.message.specs.declared.chunked.Outcome.{Outcome}
use Rattle.message.specs.declared.chunked.Outcome.TheVariants.{More, Whole as AllOfIt, Wrong}
use Rattle.message.specs.declared.fault.Unfit.{Unfit}
use Rattle.request.specs.Heads.{window}
use Rattle.request.specs.Reading.{memory_size, placed_at}
use Rattle.response.specs.Heads.{judged}
use Rattle.response.specs.declared.head.Head.{Head}
use Rattle.response.specs.declared.head.Judged.{Judged}
use Rattle.response.specs.declared.head.Unreadable.{Unreadable as NoResponse}
use Rattle.response.specs.declared.reading.Body.{Body}
use Rattle.response.specs.declared.reading.Reading.{Reading}
use Rattle.response.specs.declared.reading.Reading.TheVariants.{InHead, InBody, Whole, Unreadable}
use Rattle.response.specs.declared.reading.Fed.{Fed}

-- what a piece leaves: how far the response has been read, how many bytes of the piece belonged to it, and what the memory holds
pub record After : Type 0 where
  pub reading : Reading
  pub taken : ℕ
  pub memory : Text

abbrev pub after : Reading → ℕ → Text → After
after r n memory = record { reading = r; taken = n; memory = memory }

-- a body that is being read, by its parts
abbrev pub in_body : Head → ℕ → Due → Reading
in_body head filled due = InBody record { head = head; filled = filled; due = due }

abbrev pub on_judged : ℕ → ℕ → Text → Result (Option Judged) NoResponse → After
on_judged filled n memory (Err u) = after Unreadable n memory
on_judged filled n memory (Ok None) = after (InHead (filled + n)) n memory
on_judged filled n memory (Ok (Some j)) = after (in_body j.head j.head.len j.due) (j.head.len - filled) memory

-- a piece of a head: as much of it as the window has room for is stored, and all that has come is judged; of a head that ends, no byte behind it is taken
abbrev pub head_step : Text → ℕ → Text → Text → After
head_step m filled memory piece =
    on_judged filled (length (take (window - filled) piece)) (placed_at filled (take (window - filled) piece) memory)
    (judged m (take (filled + length (take (window - filled) piece)) (placed_at filled (take (window - filled) piece) memory)))

abbrev pub on_outcome : Head → ℕ → BodyFed → Text → Outcome → After
on_outcome head filled fed memory More = after (in_body head (filled + fed.written) (unplaced fed.due)) fed.taken memory
on_outcome head filled fed memory AllOfIt = after (Whole head (filled + fed.written)) fed.taken memory
on_outcome head filled fed memory (Wrong w) = after Unreadable fed.taken memory

abbrev pub on_fed : Body → Text → Text → Result BodyFed Unfit → After
on_fed b memory held (Err u) = after (InBody b) 0 memory
on_fed b memory held (Ok fed) = on_outcome b.head b.filled fed (take b.filled memory ++ held) fed.outcome

-- a piece of a body: its bytes go to the free end of the memory
abbrev pub due_step : Body → Text → Text → After
due_step b memory piece = on_fed b memory (body_held b.due (drop b.filled memory) piece) (body_fed b.due (length (drop b.filled memory)) piece)

-- a piece of a body; where none is being read nothing is taken
abbrev pub body_step : Reading → Text → Text → After
body_step (InHead filled) memory piece = after (InHead filled) 0 memory
body_step (InBody b) memory piece = due_step b memory piece
body_step (Whole head end) memory piece = after (Whole head end) 0 memory
body_step Unreadable memory piece = after Unreadable 0 memory

-- a piece of a head; where none is being read nothing is taken
abbrev pub front_step : Text → Reading → Text → Text → After
front_step m (InHead filled) memory piece = head_step m filled memory piece
front_step m (InBody b) memory piece = after (InBody b) 0 memory
front_step m (Whole head end) memory piece = after (Whole head end) 0 memory
front_step m Unreadable memory piece = after Unreadable 0 memory

abbrev pub further : ℕ → After → After
further n a = after a.reading (n + a.taken) a.memory

abbrev pub body_after : Text → After → After
body_after piece a = further a.taken (body_step a.reading a.memory (drop a.taken piece))

-- a piece: the head first, and with what is left of the piece the body
abbrev pub step : Text → Reading → Text → Text → After
step m r memory piece = body_after piece (front_step m r memory piece)

-- the parts of a memory of this size that the state speaks of are there
abbrev pub fits_state : ℕ → Reading → Bool
fits_state size (InHead filled) = nat_le filled window
fits_state size (InBody b) = nat_le b.filled size
fits_state size (Whole head end) = true
fits_state size Unreadable = true

-- and it has the size that is asked for
abbrev pub fits_in : ℕ → Reading → Bool
fits_in size r = size == memory_size && fits_state size r

abbrev pub fed_by : After → Fed
fed_by a = record { reading = a.reading; taken = a.taken }

-- what feeding a piece answers: where the memory does not fit nothing is read
abbrev pub fed_of : Text → Reading → Text → Text → Result Fed Unfit
fed_of m r memory piece = cond (fits_in (length memory) r) (Ok (fed_by (step m r memory piece))) (Err record {})

-- and what the memory then holds
abbrev pub held_by : Text → Reading → Text → Text → Text
held_by m r memory piece = cond (fits_in (length memory) r) (step m r memory piece).memory memory
