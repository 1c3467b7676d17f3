-- Which part of a response a state and the memory lent for it hold, and what hearing a piece of it brings.
use Rattle.std.specs.Prelude.{◌≡◌, ◌+◌, ◌≤◌, ◌++◌, length, take, drop, Some, None, Ok}
use Rattle.text.specs.Bytes.{Text}
use Rattle.message.specs.Bodies.{part_of, unplaced, bare, room_of}
use Rattle.message.specs.Chunked.{most_bytes}
use Rattle.message.specs.declared.body.Due.{Due}
use Rattle.message_laws.specs.Laws.{behind}
use Rattle.request.specs.Heads.{window}
use Rattle.response.specs.Found.{copied, response_in}
use Rattle.response.specs.Heads.{judged}
use Rattle.response.specs.Reading.{After}
use Rattle.response.specs.Status.{is_last}
use Rattle.response.specs.declared.reading.Body.{Body}
use Rattle.response.specs.declared.reading.Reading.{Reading}
use Rattle.response.specs.declared.reading.Reading.TheVariants.{InHead, InBody, Whole, Unreadable}
use Rattle.connection.specs.Model.{more, unreadable, whole}
use Rattle.response_laws.specs.Ear.{ear}

-- A body is being read: a head, and behind it some bytes, of which so much of the body is known and so much is due. The memory has the head as it was
-- said, and the body so far behind it.
pub record BodyHeld (b : Body) (memory m part : Text) : Type 0 where
  pub front : Text
  pub come : Text
  pub start : Due
  pub body : Text
  pub joined : part ≡ front ++ come
  pub long : length front ≡ b.head.len
  pub within : length front ≤ window
  pub line_in : b.head.line + 2 ≤ b.head.len
  pub judges : (y : Text) → judged m (take window (front ++ y)) ≡ Ok (Some (record { head = b.head; due = start }))
  pub goes_on : (y : Text) → bare (part_of start (come ++ y)) ≡ bare (behind body (length come) (part_of b.due y))
  pub room : length body + room_of b.due ≤ most_bytes
  pub placeless : unplaced b.due ≡ b.due
  pub fill : b.filled ≡ length front + length body
  pub held : take b.filled memory ≡ front ++ body

-- the part of a response to a request of the method m that a state and a memory hold
abbrev pub Held : Reading → Text → Text → Text → Type 0
Held (InHead n) memory m part = (n ≡ length part) × (take n memory ≡ part) × (judged m part ≡ Ok None)
Held (InBody b) memory m part = BodyHeld b memory m part
Held (Whole head end) memory m part = ⊥
Held Unreadable memory m part = ⊥

-- What a piece behind such a part brings: all of it was taken and more is wanted; or the response is whole and lies in the memory; or it cannot be read.
abbrev pub Brings : Text → Text → Text → After → Reading → Type 0
Brings m part piece a (InHead n) = (ear m (part ++ piece) ≡ more) × (a.taken ≡ length piece) × Held (InHead n) a.memory m (part ++ piece)
Brings m part piece a (InBody b) = (ear m (part ++ piece) ≡ more) × (a.taken ≡ length piece) × BodyHeld b a.memory m (part ++ piece)
Brings m part piece a (Whole head end) =
    (ear m (part ++ piece) ≡ whole (record { last = is_last head.status; text = copied (response_in (Whole head end) a.memory) }) (drop a.taken piece)) × (a.taken ≤ length piece)
Brings m part piece a Unreadable = ear m (part ++ piece) ≡ unreadable
