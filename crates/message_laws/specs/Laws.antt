-- What reading a body means, by its length or in chunks. Each is a type; a proof of the type is the theorem.
use Rattle.std.specs.Prelude.{◌≡◌, ℕ, ◌+◌, ◌-◌, ◌≤◌, true, ◌++◌, length, take, ◌≢◌}
use Rattle.text.specs.Bytes.{Text}
use Rattle.message.specs.declared.body.Due.{Due}
use Rattle.message.specs.declared.chunked.Chunk.{Chunk}
use Rattle.message.specs.declared.chunked.Outcome.{Outcome}
use Rattle.message.specs.declared.chunked.Outcome.TheVariants.{More, Whole, Wrong}
use Rattle.message.specs.declared.chunked.Phase.TheVariants.{LastLf}
use Rattle.message.specs.Bodies.{Part, part_of, fits as body_fits}
use Rattle.message.specs.Chunked.{in_phase, fresh, Run, after, run, fits}
use Rattle.message_laws.specs.Chunks.{Chunked}

abbrev pub on_at : Outcome → Run → (Chunk → Run) → Run
on_at More r next = after r.body r.taken (next r.chunk)
on_at Whole r next = r
on_at (Wrong f) r next = r

-- a run and, where it wants more, the next after it
abbrev pub onward : Run → (Chunk → Run) → Run
onward r next = on_at r.outcome r next

-- Where a body is cut into pieces does not matter.
abbrev pub ChunksCutFree : Type 0
ChunksCutFree = (s : Chunk) (p q : Text) → run s (p ++ q) ≡ onward (run s p) (λ t. run t q)

-- What ended or is refused stays so, whatever follows.
abbrev pub ChunksStay : Type 0
ChunksStay = (s : Chunk) (p q : Text) → ((run s p).outcome ≢ More) → run s (p ++ q) ≡ run s p

-- Where there is room for a body, and a piece of it wants more, then all of the piece was read, and behind what it held there is room for the rest.
abbrev pub ChunksFit : Type 0
ChunksFit = (s : Chunk) (p q : Text) (size : ℕ) → fits s size (length (p ++ q)) ≡ true → (run s p).outcome ≡ More →
    ((run s p).taken ≡ length p) × (length (run s p).body ≤ size) × (fits (run s p).chunk (size - length (run s p).body) (length q) ≡ true)

-- A chunked body that holds b, for which there is room, is read to its end and to no byte more, whatever follows, and gives b.
abbrev pub ChunksRead : Type 0
ChunksRead = (t b rest : Text) (room read : ℕ) → Chunked t b → length b ≤ room →
    run (fresh room read) (t ++ rest) ≡ record { chunk = in_phase LastLf (room - length b) (read + length t); body = b; taken = length t; outcome = Whole }

-- What is read to an end is a chunked body that holds what was read, and there was room for it.
abbrev pub OnlyChunks : Type 0
OnlyChunks = (t : Text) (room read : ℕ) → (run (fresh room read) t).outcome ≡ Whole →
    Chunked (take (run (fresh room read) t).taken t) (run (fresh room read) t).body × (length (run (fresh room read) t).body ≤ room)

-- a part with n bytes before it that hold the bytes ys of the body
abbrev pub behind : Text → ℕ → Part → Part
behind ys n p = record { due = p.due; body = ys ++ p.body; taken = n + p.taken; outcome = p.outcome }

abbrev pub on_part : Outcome → Part → (Due → Part) → Part
on_part More p next = behind p.body p.taken (next p.due)
on_part Whole p next = p
on_part (Wrong f) p next = p

-- a part and, where it wants more, the next behind it
abbrev pub part_onward : Part → (Due → Part) → Part
part_onward p next = on_part p.outcome p next

-- Where a body is cut into pieces does not matter.
abbrev pub BodyCutFree : Type 0
BodyCutFree = (d : Due) (p q : Text) → part_of d (p ++ q) ≡ part_onward (part_of d p) (λ t. part_of t q)

-- What ended or was refused stays so, whatever follows.
abbrev pub BodyStays : Type 0
BodyStays = (d : Due) (p q : Text) → ((part_of d p).outcome ≢ More) → part_of d (p ++ q) ≡ part_of d p

-- Where there is room for a body, and a piece of it wants more, then all of the piece was read, and behind what it held there is room for the rest.
abbrev pub BodyFits : Type 0
BodyFits = (d : Due) (p q : Text) (size : ℕ) → body_fits d size (length (p ++ q)) ≡ true → (part_of d p).outcome ≡ More →
    ((part_of d p).taken ≡ length p) × (length (part_of d p).body ≤ size) × (body_fits (part_of d p).due (size - length (part_of d p).body) (length q) ≡ true)
