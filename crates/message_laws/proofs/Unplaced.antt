-- What is read of a body does not depend on the places that are counted in it.
use Rattle.std.proofs.Common.{◌≡◌, ℕ, ◌+◌, ◌-◌, ◌*◌, ◌^◌, ◌<◌, ◌≤◌, Bool, true, false, cond, ◌&&◌, ltb, leb, eqb, [], ◌∷◌, length, Some, None, Ok, Err, Option, take, sym, refl, ap, ap₂, ◌∙◌, arith}
use Rattle.std.proofs.lemmas.Bool.{cond_both, le-leb, lt-ltb, ltb-true, and_from}
use Rattle.text.specs.Bytes.{Text}
use Rattle.text.specs.Numerals.{digit_value}
use Rattle.text.specs.declared.numeral.Base.TheVariants.{Hexadecimal}
use Rattle.message.specs.Bodies.{Part, chunked, part_of, unplaced_phase, unplaced_chunk, unplaced, bare_flaw, bare_outcome, bare, room_of, fits}
use Rattle.message.specs.Chunked.{in_phase, wrong_byte, to, only, Stepped, on_size, sized, on_byte, step_of, due_in, due_of, skipped, Run, after, stop, go, run}
use Rattle.message.specs.Faults.{flaw}
use Rattle.message.specs.declared.body.Due.{Due}
use Rattle.message.specs.declared.body.Due.TheVariants.{Length, Chunks}
use Rattle.message.specs.declared.chunked.Chunk.{Chunk}
use Rattle.message.specs.declared.chunked.Outcome.TheVariants.{More, Whole, Wrong}
use Rattle.message.specs.declared.chunked.Phase.{Phase}
use Rattle.message.specs.declared.chunked.Phase.TheVariants.{Size, SizeLf, Bytes, BytesLf, LastCr, LastLf}
use Rattle.message.specs.declared.chunked.Step.TheVariants.{On, End}
use Rattle.message.specs.declared.fault.Fault.TheVariants.{BodyTooLong}
use Rattle.message_laws.proofs.Rooms.{leaves}

-- a run and a step without places
abbrev pub bare_run : Run → Run
bare_run r = record { chunk = unplaced_chunk r.chunk; body = r.body; taken = r.taken; outcome = bare_outcome r.outcome }

abbrev bare_step : Stepped → Stepped
bare_step (Ok (On c)) = Ok (On (unplaced_chunk c))
bare_step (Ok (End c)) = Ok (End (unplaced_chunk c))
bare_step (Err w) = Err (bare_flaw w)

-- a choice of steps
chosen : (t : Bool) (x y u v : Stepped) → bare_step x ≡ bare_step u → bare_step y ≡ bare_step v → bare_step (cond t x y) ≡ bare_step (cond t u v)
chosen true x y u v p q = p
chosen false x y u v p q = q

sized_bare : (c : Chunk) (first value : ℕ) → bare_step (sized c first value) ≡ bare_step (sized (unplaced_chunk c) 0 value)
sized_bare c first value =
    let d = unplaced_chunk c in
    chosen (eqb value 0) (Ok (to c LastCr)) (cond (leb value c.room) (Ok (On (in_phase (Bytes value) (c.room - value) (c.read + 1)))) (Err (flaw BodyTooLong first)))
    (Ok (to d LastCr)) (cond (leb value d.room) (Ok (On (in_phase (Bytes value) (d.room - value) (d.read + 1)))) (Err (flaw BodyTooLong 0))) refl
    (chosen (leb value c.room) (Ok (On (in_phase (Bytes value) (c.room - value) (c.read + 1)))) (Err (flaw BodyTooLong first)) (Ok (On (in_phase (Bytes value) (d.room - value) (d.read + 1)))) (Err (flaw BodyTooLong 0)) refl refl)

size_bare : (c : Chunk) (first digits value b : ℕ) (o : Option ℕ) → bare_step (on_size c first digits value b o) ≡ bare_step (on_size (unplaced_chunk c) 0 digits value b o)
size_bare c first digits value b (Some d) =
    chosen (ltb digits 5 && ltb value 65536) (Ok (to c (Size first (digits + 1) (value * 16 + d)))) (Err (wrong_byte c)) (Ok (to (unplaced_chunk c) (Size 0 (digits + 1) (value * 16 + d)))) (Err (wrong_byte (unplaced_chunk c))) refl refl
size_bare c first digits value b None = chosen (eqb b 13 && ltb 0 digits) (Ok (to c (SizeLf first value))) (Err (wrong_byte c)) (Ok (to (unplaced_chunk c) (SizeLf 0 value))) (Err (wrong_byte (unplaced_chunk c))) refl refl

only_bare : (mark b : ℕ) (c : Chunk) (x y : Stepped) → bare_step x ≡ bare_step y → bare_step (only mark c b x) ≡ bare_step (only mark (unplaced_chunk c) b y)
only_bare mark b c x y h = chosen (eqb b mark) x (Err (wrong_byte c)) y (Err (wrong_byte (unplaced_chunk c))) h refl

byte_bare : (p : Phase) (c : Chunk) (b : ℕ) → bare_step (on_byte p c b) ≡ bare_step (on_byte (unplaced_phase p) (unplaced_chunk c) b)
byte_bare (Size first digits value) c b = size_bare c first digits value b (digit_value Hexadecimal b)
byte_bare (SizeLf first value) c b = only_bare 10 b c (sized c first value) (sized (unplaced_chunk c) 0 value) (sized_bare c first value)
byte_bare (Bytes left) c b = only_bare 13 b c (Ok (to c BytesLf)) (Ok (to (unplaced_chunk c) BytesLf)) refl
byte_bare BytesLf c b = only_bare 10 b c (Ok (to c (Size (c.read + 1) 0 0))) (Ok (to (unplaced_chunk c) (Size (0 + 1) 0 0))) refl
byte_bare LastCr c b = only_bare 13 b c (Ok (to c LastLf)) (Ok (to (unplaced_chunk c) LastLf)) refl
byte_bare LastLf c b = only_bare 10 b c (Ok (End (in_phase LastLf c.room (c.read + 1)))) (Ok (End (in_phase LastLf c.room (0 + 1)))) refl

due_bare : (p : Phase) → due_in (unplaced_phase p) ≡ due_in p
due_bare (Size first digits value) = refl
due_bare (SizeLf first value) = refl
due_bare (Bytes left) = refl
due_bare BytesLf = refl
due_bare LastCr = refl
due_bare LastLf = refl

-- chunks that differ in places alone
abbrev pub Alike : Chunk → Chunk → Type 0
Alike c d = unplaced_chunk c ≡ unplaced_chunk d

module _ (c d : Chunk) (h : Alike c d) where
  due_alike : due_of c ≡ due_of d
  due_alike = sym (due_bare c.phase) ∙ ap (λ (x : Chunk). due_in x.phase) h ∙ due_bare d.phase

  room_alike : c.room ≡ d.room
  room_alike = ap (λ (x : Chunk). x.room) h

  step_alike : (b : ℕ) → bare_step (step_of c b) ≡ bare_step (step_of d b)
  step_alike b = byte_bare c.phase c b ∙ ap (λ (x : Chunk). bare_step (on_byte x.phase x b)) h ∙ sym (byte_bare d.phase d b)

  skip_alike : Alike (skipped c 1) (skipped d 1)
  skip_alike = ap₂ (λ n room. in_phase (Bytes (n - 1)) room 0) due_alike room_alike

abbrev After : Text → Chunk → Chunk → Type 0
After bs c d = Alike c d → bare_run (run c bs) ≡ bare_run (run d bs)

go_alike : (c d : Chunk) (bs : Text) (x y : Stepped) → Alike c d → bare_step x ≡ bare_step y → ((t u : Chunk) → After bs t u) → bare_run (go c x (λ t. run t bs)) ≡ bare_run (go d y (λ t. run t bs))
go_alike c d bs (Ok (On t)) (Ok (On u)) a h k = ap (after [] 1) (k t u cc)
go_alike c d bs (Ok (End t)) (Ok (End u)) a h k = let same : Alike t u = cc in ap (λ x. stop x 1 Whole) same
go_alike c d bs (Err v) (Err w) a h k = let same : bare_flaw v ≡ bare_flaw w = cc in ap₂ (λ x f. stop x 0 (Wrong f)) a same
go_alike c d bs (Ok (On t)) (Ok (End u)) a h k = absurd cc
go_alike c d bs (Ok (On t)) (Err w) a h k = absurd cc
go_alike c d bs (Ok (End t)) (Ok (On u)) a h k = absurd cc
go_alike c d bs (Ok (End t)) (Err w) a h k = absurd cc
go_alike c d bs (Err v) (Ok (On u)) a h k = absurd cc
go_alike c d bs (Err v) (Ok (End u)) a h k = absurd cc

choose_alike : (t : Bool) (x y u v : Run) → bare_run x ≡ bare_run u → bare_run y ≡ bare_run v → bare_run (cond t x y) ≡ bare_run (cond t u v)
choose_alike true x y u v p q = p
choose_alike false x y u v p q = q

pub run_alike : (bs : Text) (c d : Chunk) → After bs c d
unfolding run
run_alike [] c d a = ap (λ x. stop x 0 More) a
run_alike (b ∷ bs) c d a =
    choose_alike (ltb 0 (due_of c)) (after (b ∷ []) 1 (run (skipped c 1) bs)) (go c (step_of c b) (λ t. run t bs)) (after (b ∷ []) 1 (run (skipped d 1) bs)) (go d (step_of d b) (λ t. run t bs))
    (ap (after (b ∷ []) 1) (run_alike bs (skipped c 1) (skipped d 1) (skip_alike c d a)))
    (go_alike c d bs (step_of c b) (step_of d b) a (step_alike c d a b) (λ t u. run_alike bs t u))
    ∙ ap (λ n. bare_run (cond (ltb 0 n) (after (b ∷ []) 1 (run (skipped d 1) bs)) (go d (step_of d b) (λ t. run t bs)))) (due_alike c d a)

pub again_phase : (p : Phase) → unplaced_phase (unplaced_phase p) ≡ unplaced_phase p
again_phase (Size first digits value) = refl
again_phase (SizeLf first value) = refl
again_phase (Bytes left) = refl
again_phase BytesLf = refl
again_phase LastCr = refl
again_phase LastLf = refl

-- without places, a body is read as with them
pub part_unplaced : (d : Due) (x : Text) → bare (part_of (unplaced d) x) ≡ bare (part_of d x)
part_unplaced (Length n) x = refl
part_unplaced (Chunks c) x = ap (λ (r : Run). chunked r) (run_alike x (unplaced_chunk c) c (ap (λ p. in_phase p c.room 0) (again_phase c.phase)))

pub unplaced_again : (d : Due) → unplaced (unplaced d) ≡ unplaced d
unplaced_again (Length n) = refl
unplaced_again (Chunks c) = ap (λ p. Chunks (in_phase p c.room 0)) (again_phase c.phase)

-- and it has the same room
pub room_unplaced : (d : Due) → room_of (unplaced d) ≡ room_of d
room_unplaced (Length n) = refl
room_unplaced (Chunks c) = ap (λ n. n + c.room) (due_bare c.phase)

-- a body whose places are not counted on fits where its bytes have room
read_none : (c : Chunk) → unplaced_chunk c ≡ c → c.read ≡ 0
read_none c h = sym (ap (λ (x : Chunk). x.read) h)

pub unplaced_fits : (d : Due) (size more : ℕ) → unplaced d ≡ d → room_of d ≤ size → more < 2 ^ 64 → fits d size more ≡ true
unplaced_fits (Length n) size more u h k = le-leb n size h
unplaced_fits (Chunks c) size more u h k =
    let same : unplaced_chunk c ≡ c = cc in
    let none = read_none c same in
    and_from (leb (due_of c + c.room) size) (ltb (c.read + more) (2 ^ 64)) (le-leb _ _ h) (lt-ltb _ _ (omega arith))

-- where more is wanted, what was written is taken off the room
pub room_left : (d : Due) (x : Text) → (part_of d x).outcome ≡ More → length (part_of d x).body + room_of (part_of d x).due ≤ room_of d
room_left (Length n) x =
    cond_both (ltb (length x) n) (record { due = Length (n - length x); body = x; taken = length x; outcome = More }) (record { due = Length 0; body = take n x; taken = n; outcome = Whole })
    (λ (p : Part). p.outcome ≡ More → length p.body + room_of p.due ≤ n) (λ e _. let less = ltb-true (length x) n e in omega arith) (λ e g. cc)
room_left (Chunks c) x = λ e. (leaves x c e).room
