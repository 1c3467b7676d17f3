-- What is wrong with a chunked body, and where.
use Rattle.std.specs.Prelude.{◌≡◌, ℕ, ◌+◌, ◌-◌, ◌<◌, ◌≤◌, false, ◌⊎◌, List, ◌++◌, length}
use Rattle.text.specs.Bytes.{Text}
use Rattle.text_laws.specs.Laws.{Iff}
use Rattle.message.specs.Chunked.{fresh, run}
use Rattle.message.specs.Faults.{flaw}
use Rattle.message.specs.declared.chunked.Outcome.TheVariants.{Wrong}
use Rattle.message.specs.declared.fault.Fault.TheVariants.{BodyTooLong, Chunk}
use Rattle.message.specs.declared.fault.Flaw.{Flaw}
use Rattle.message_laws.specs.Breaks.{Breaks}
use Rattle.message_laws.specs.Chunks.{crlf, Says, Part, Right, AllRight, sent, all_sent, all_bytes}

-- a chunk, or the last one
abbrev pub AnyChunk : Text → Type 0
AnyChunk t = ((c : Part) × Right c × (t ≡ sent c)) ⊎ ((zeros : Text) × Says zeros 0 × (t ≡ zeros ++ (crlf ++ crlf)))

-- a text that begins with a chunk, or with the last one
abbrev pub ChunkFirst : Text → Type 0
ChunkFirst t = (c rest : Text) × (AnyChunk c × (t ≡ c ++ rest))

-- the line of a size has ended, and the size is above the room that is left
abbrev pub TooLarge : ℕ → Text → Type 0
TooLarge room t = (size rest : Text) × ((n : ℕ) × Says size n × (room < n) × (t ≡ size ++ (crlf ++ rest)))

-- What is wrong with a text that should begin with a chunk or with the last one, where room is left for so many bytes: its size is too large, which is
-- told at its first digit; or, unless that is so, a byte with which the text can no longer begin with one, however it goes on.
pub data BadChunk (room at : ℕ) (t : Text) : Flaw → Type 0 where
  too_large : TooLarge room t → BadChunk room at t (flaw BodyTooLong at)
  malformed : (p : ℕ) → (TooLarge room t → ⊥) → p < length t → Breaks ChunkFirst t false p → BadChunk room at t (flaw Chunk (at + p))

-- Chunks that are right and for which there is room, and then something that is wrong. The body begins at the place at.
pub record ChunksBreak (room at : ℕ) (t : Text) (w : Flaw) : Type 0 where
  pub chunks : List Part
  pub rest : Text
  pub right : AllRight chunks
  pub fits : length (all_bytes chunks) ≤ room
  pub text : t ≡ all_sent chunks ++ rest
  pub wrong : BadChunk (room - length (all_bytes chunks)) (at + length (all_sent chunks)) rest w

-- A chunked body is refused exactly where it breaks so, and with that fault and place.
abbrev pub ChunksRefused : Type 0
ChunksRefused = (room at : ℕ) (t : Text) (w : Flaw) → Iff ((run (fresh room at) t).outcome ≡ Wrong w) (ChunksBreak room at t w)
