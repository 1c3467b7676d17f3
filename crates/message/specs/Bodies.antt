-- A body as it is read in pieces: by its length, or in chunks. The memory that it is written to comes in only at the end.
use Rattle.std.specs.Prelude.{◌≡◌, ℕ, ◌+◌, ◌-◌, ◌≤◌, Bool, cond, length, take, Ok, Err, Result, nat_le, nat_lt}
use Rattle.text.specs.Bytes.{Text, placed}
use Rattle.message.specs.Chunked.{most_bytes, in_phase, fresh, due_of, Run, run, fits as chunks_fit}
use Rattle.message.specs.Faults.{flaw}
use Rattle.message.specs.declared.body.Due.{Due}
use Rattle.message.specs.declared.body.Due.TheVariants.{Length, Chunks}
use Rattle.message.specs.declared.body.Fed.{Fed}
use Rattle.message.specs.declared.chunked.Chunk.{Chunk}
use Rattle.message.specs.declared.chunked.Phase.{Phase}
use Rattle.message.specs.declared.chunked.Phase.TheVariants.{Size, SizeLf, Bytes, BytesLf, LastCr, LastLf}
use Rattle.message.specs.declared.chunked.Outcome.{Outcome}
use Rattle.message.specs.declared.chunked.Outcome.TheVariants.{More, Whole, Wrong}
use Rattle.message.specs.declared.fault.Fault.TheVariants.{BodyTooLong}
use Rattle.message.specs.declared.fault.Flaw.{Flaw}
use Rattle.message.specs.declared.fault.Unfit.{Unfit}
use Rattle.message.specs.declared.framing.Size.{Size as SaidSize}
use Rattle.message.specs.declared.framing.Size.TheVariants.{Length as SaidLength, Chunked}

-- a length is followed by a body that is not too long, and chunks by chunks, which begin behind the len bytes of the head
abbrev pub due_by : SaidSize → ℕ → ℕ → Result Due Flaw
due_by Chunked value_at len = Ok (Chunks (fresh most_bytes len))
due_by (SaidLength n) value_at len = cond (nat_le n most_bytes) (Ok (Length n)) (Err (flaw BodyTooLong value_at))

-- all of a body that may begin behind a head of len bytes is due
abbrev pub AtStart : ℕ → Due → Type 0
AtStart len (Length n) = n ≤ most_bytes
AtStart len (Chunks c) = c ≡ fresh most_bytes len

-- the same with no places: where they are of no use, they need not be counted on from piece to piece
abbrev pub unplaced_phase : Phase → Phase
unplaced_phase (Size first digits value) = Size 0 digits value
unplaced_phase (SizeLf first value) = SizeLf 0 value
unplaced_phase (Bytes left) = Bytes left
unplaced_phase BytesLf = BytesLf
unplaced_phase LastCr = LastCr
unplaced_phase LastLf = LastLf

abbrev pub unplaced_chunk : Chunk → Chunk
unplaced_chunk c = in_phase (unplaced_phase c.phase) c.room 0

abbrev pub unplaced : Due → Due
unplaced (Length n) = Length n
unplaced (Chunks c) = Chunks (unplaced_chunk c)

-- what comes of a piece: what is due after it, the body's bytes that it holds, how many of its bytes were read, and how it ended
pub record Part : Type 0 where
  pub due : Due
  pub body : Text
  pub taken : ℕ
  pub outcome : Outcome

-- a piece of a body of which n bytes are due
abbrev pub counted : ℕ → Text → Part
counted n piece =
    cond (nat_lt (length piece) n) (record { due = Length (n - length piece); body = piece; taken = length piece; outcome = More })
    (record { due = Length 0; body = take n piece; taken = n; outcome = Whole })

-- chunks, as they are run through
abbrev pub chunked : Run → Part
chunked r = record { due = Chunks r.chunk; body = r.body; taken = r.taken; outcome = r.outcome }

abbrev pub part_of : Due → Text → Part
part_of (Length n) piece = counted n piece
part_of (Chunks c) piece = chunked (run c piece)

-- a part without places: two parts that are alike but for those read the same
abbrev pub bare_flaw : Flaw → Flaw
bare_flaw w = flaw w.fault 0

abbrev pub bare_outcome : Outcome → Outcome
bare_outcome More = More
bare_outcome Whole = Whole
bare_outcome (Wrong w) = Wrong (bare_flaw w)

abbrev pub bare : Part → Part
bare p = record { due = unplaced p.due; body = p.body; taken = p.taken; outcome = bare_outcome p.outcome }

-- how many bytes of a body may still come
abbrev pub room_of : Due → ℕ
room_of (Length n) = n
room_of (Chunks c) = due_of c + c.room

-- `size` bytes of memory have room for all that the body may still have, and `more` bytes can be counted
abbrev pub fits : Due → ℕ → ℕ → Bool
fits (Length n) size more = nat_le n size
fits (Chunks c) size more = chunks_fit c size more

-- a part as it is told to the caller
abbrev pub told : Part → Fed
told p = record { due = p.due; written = length p.body; taken = p.taken; outcome = p.outcome }

-- what feeding a piece answers: where there is no room, nothing is read
abbrev pub fed_by : Due → ℕ → Text → Result Fed Unfit
fed_by d size piece = cond (fits d size (length piece)) (Ok (told (part_of d piece))) (Err record {})

-- what the memory that held xs then holds
abbrev pub held_by : Due → Text → Text → Text
held_by d xs piece = cond (fits d (length xs) (length piece)) (placed (part_of d piece).body xs) xs
