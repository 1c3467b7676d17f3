-- How a chunked body is read, byte by byte. The memory that the body is written to comes in only at the end.
use Rattle.std.specs.Prelude.{ℕ, ◌+◌, ◌-◌, ◌*◌, ◌^◌, Bool, cond, ◌&&◌, [], ◌∷◌, ◌++◌, length, Some, None, Ok, Err, Option, Result, ◌==◌, nat_le, nat_lt}
use Rattle.text.specs.Bytes.{Text, placed}
use Rattle.text.specs.Numerals.{digit_value}
use Rattle.text.specs.declared.numeral.Base.TheVariants.{Hexadecimal}
use Rattle.message.specs.Faults.{flaw}
use Rattle.message.specs.declared.fault.Fault.TheVariants.{BodyTooLong, Chunk as BadChunk}
use Rattle.message.specs.declared.fault.Flaw.{Flaw}
use Rattle.message.specs.declared.fault.Unfit.{Unfit}
use Rattle.message.specs.declared.chunked.Phase.{Phase}
use Rattle.message.specs.declared.chunked.Phase.TheVariants.{Size, SizeLf, Bytes, BytesLf, LastCr, LastLf}
use Rattle.message.specs.declared.chunked.Chunk.{Chunk}
use Rattle.message.specs.declared.chunked.Outcome.{Outcome}
use Rattle.message.specs.declared.chunked.Outcome.TheVariants.{More, Whole, Wrong}
use Rattle.message.specs.declared.chunked.Fed.{Fed}
use Rattle.message.specs.declared.chunked.Step.{Step}
use Rattle.message.specs.declared.chunked.Step.TheVariants.{On, End}

-- the most bytes that a body may have
unfoldable pub most_bytes : ℕ
most_bytes = 262143

-- a state by its parts
abbrev pub in_phase : Phase → ℕ → ℕ → Chunk
in_phase p room read = record { phase = p; room = room; read = read }

-- the start of chunks that may have `room` bytes in all, and whose first byte has the place `read`
abbrev pub fresh : ℕ → ℕ → Chunk
fresh room read = in_phase (Size read 0 0) room read

-- the byte is right, and the next is read in another phase
abbrev pub to : Chunk → Phase → Step
to s p = On (in_phase p s.room (s.read + 1))

-- the byte is wrong
abbrev pub wrong_byte : Chunk → Flaw
wrong_byte s = flaw BadChunk s.read

-- the byte must be this one
abbrev pub only : {A : Type 0} → ℕ → Chunk → ℕ → Result A Flaw → Result A Flaw
only mark s b next = cond (b == mark) next (Err (wrong_byte s))

-- what a byte does: a step, unless it is wrong
abbrev pub Stepped : Type 0
Stepped = Result Step Flaw

-- a digit of a size, of which there may be 5, or the CR after at least one. Fewer than 5 digits are worth less than 65536, so that bound says nothing
-- of states that reading leads to; it keeps the sum in bounds in any other
abbrev pub on_size : Chunk → ℕ → ℕ → ℕ → ℕ → Option ℕ → Stepped
on_size s first digits value b (Some d) =
    cond (nat_lt digits 5 && nat_lt value 65536) (Ok (to s (Size first (digits + 1) (value * 16 + d)))) (Err (wrong_byte s))
on_size s first digits value b None = cond (b == 13 && nat_lt 0 digits) (Ok (to s (SizeLf first value))) (Err (wrong_byte s))

-- the line of a size has ended: is it the last, is there room, or is it too large
abbrev pub sized : Chunk → ℕ → ℕ → Stepped
sized s first value =
    cond (value == 0) (Ok (to s LastCr))
    (cond (nat_le value s.room) (Ok (On (in_phase (Bytes value) (s.room - value) (s.read + 1)))) (Err (flaw BodyTooLong first)))

-- what a byte does in each phase, where no byte of a chunk is due
abbrev pub on_byte : Phase → Chunk → ℕ → Stepped
on_byte (Size first digits value) s b = on_size s first digits value b (digit_value Hexadecimal b)
on_byte (SizeLf first value) s b = only 10 s b (sized s first value)
on_byte (Bytes left) s b = only 13 s b (Ok (to s BytesLf))
on_byte BytesLf s b = only 10 s b (Ok (to s (Size (s.read + 1) 0 0)))
on_byte LastCr s b = only 13 s b (Ok (to s LastLf))
on_byte LastLf s b = only 10 s b (Ok (End (in_phase LastLf s.room (s.read + 1))))

abbrev pub step_of : Chunk → ℕ → Stepped
step_of s b = on_byte s.phase s b

-- how many bytes of the chunk are due
abbrev pub due_in : Phase → ℕ
due_in (Size first digits value) = 0
due_in (SizeLf first value) = 0
due_in (Bytes left) = left
due_in BytesLf = 0
due_in LastCr = 0
due_in LastLf = 0

abbrev pub due_of : Chunk → ℕ
due_of s = due_in s.phase

-- after n of the bytes that are due
abbrev pub skipped : Chunk → ℕ → Chunk
skipped s n = in_phase (Bytes (due_of s - n)) s.room (s.read + n)

-- what comes of a piece: the state after it, the body's bytes that it holds, how many of its bytes were read, and how it ended
pub record Run : Type 0 where
  pub chunk : Chunk
  pub body : Text
  pub taken : ℕ
  pub outcome : Outcome

-- a run with n bytes before it that hold the bytes ys of the body
abbrev pub after : Text → ℕ → Run → Run
after ys n r = record { chunk = r.chunk; body = ys ++ r.body; taken = n + r.taken; outcome = r.outcome }

-- a run that ends here
abbrev pub stop : Chunk → ℕ → Outcome → Run
stop s n o = record { chunk = s; body = []; taken = n; outcome = o }

-- a step, and the run that goes on after it; a byte that is wrong is not read
abbrev pub go : Chunk → Stepped → (Chunk → Run) → Run
go s (Ok (On t)) k = after [] 1 (k t)
go s (Ok (End t)) k = stop t 1 Whole
go s (Err f) k = stop s 0 (Wrong f)

-- a byte that is due is the body's; any other is a step
unfoldable pub run : Chunk → Text → Run
run s [] = stop s 0 More
run s (b ∷ bs) = cond (nat_lt 0 (due_of s)) (after (b ∷ []) 1 (run (skipped s 1) bs)) (go s (step_of s b) (λ t. run t bs))

-- `size` bytes of memory have room for all that the body may still have, and `more` bytes can be counted
abbrev pub fits : Chunk → ℕ → ℕ → Bool
fits s size more = nat_le (due_of s + s.room) size && nat_lt (s.read + more) (2 ^ 64)

abbrev pub fed : Chunk → ℕ → ℕ → Outcome → Fed
fed s written taken o = record { chunk = s; written = written; taken = taken; outcome = o }

-- a run as it is told to the caller
abbrev pub told : Run → Fed
told r = fed r.chunk (length r.body) r.taken r.outcome

-- what feeding a piece answers: where there is no room, nothing is read
abbrev pub fed_by : Chunk → ℕ → Text → Result Fed Unfit
fed_by s size piece = cond (fits s size (length piece)) (Ok (told (run s piece))) (Err record {})

-- what the memory that held xs then holds
abbrev pub held_by : Chunk → Text → Text → Text
held_by s xs piece = cond (fits s (length xs) (length piece)) (placed (run s piece).body xs) xs
