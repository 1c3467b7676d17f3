-- What a piece of a body can come to: no more of it is read than there is, and the bytes that it holds have room where there is room for all that the body
-- may still have.
use Rattle.std.proofs.Common.{◌≡◌, ℕ, ◌+◌, ◌-◌, ◌^◌, ◌<◌, ◌≤◌, Bool, true, false, cond, ltb, leb, [], ◌∷◌, length, take, refl, arith, Ok, Err, Result}
use Rattle.std.proofs.lemmas.Bool.{cond_both, and_from, ltb-true, ltb-false, lt-ltb, leb-true, le-leb}
use Rattle.std.proofs.lemmas.List.{length-take-le}
use Rattle.text.specs.Bytes.{Text}
use Rattle.message.specs.Bodies.{AtStart, Part, counted, part_of, fits}
use Rattle.message.specs.Chunked.{Stepped, most_bytes, due_of, skipped, step_of, Run, after, go, run, fits as chunks_fit, told, fed_by}
use Rattle.message.specs.declared.body.Due.{Due}
use Rattle.message.specs.declared.body.Due.TheVariants.{Length, Chunks}
use Rattle.message.specs.declared.chunked.Chunk.{Chunk}
use Rattle.message.specs.declared.chunked.Fed.{Fed}
use Rattle.message.specs.declared.chunked.Outcome.TheVariants.{More, Whole}
use Rattle.message.specs.declared.chunked.Step.TheVariants.{On, End}
use Rattle.message.specs.declared.fault.Unfit.{Unfit}
use Rattle.message.proofs.Chunks.{fair_on, fits_so}

-- a piece of n bytes of which so many were read, and the bytes of the body that it holds, with room for so many
pub record Bounded (n room taken : ℕ) (body : Text) : Type 0 where
  pub read : taken ≤ n
  pub kept : length body ≤ room

abbrev pub Runs : ℕ → ℕ → Run → Type 0
Runs n room r = Bounded n room r.taken r.body

-- a step of a state with so much room
stepped : (s : Chunk) (b n : ℕ) (x : Stepped) (k : Chunk → Run) → step_of s b ≡ x → ((t : Chunk) → Runs n (due_of t + t.room) (k t)) → Runs (n + 1) (due_of s + s.room) (go s x k)
stepped s b n (Ok (On t)) k e h = record { read = omega (arith, (h t).read); kept = omega (arith, (h t).kept, (fair_on s t b e).0) }
stepped s b n (Ok (End t)) k e h = record { read = omega arith; kept = omega arith }
stepped s b n (Err f) k e h = record { read = omega arith; kept = omega arith }

pub run_bounded : (s : Chunk) (piece : Text) → Runs (length piece) (due_of s + s.room) (run s piece)
unfolding run
run_bounded s [] = record { read = omega arith; kept = omega arith }
run_bounded s (b ∷ bs) =
    let on : Runs (length bs + 1) (due_of s + s.room) (go s (step_of s b) (λ t. run t bs)) = stepped s b (length bs) (step_of s b) (λ t. run t bs) refl (λ t. run_bounded t bs) in
    cond_both (ltb 0 (due_of s)) (after (b ∷ []) 1 (run (skipped s 1) bs)) (go s (step_of s b) (λ t. run t bs)) (Runs (length (b ∷ bs)) (due_of s + s.room))
    (λ e. record { read = omega (arith, (run_bounded (skipped s 1) bs).read); kept = omega (arith, (run_bounded (skipped s 1) bs).kept, ltb-true 0 (due_of s) e) })
    (λ e. record { read = omega (arith, on.read); kept = on.kept })

counted_bounded : (n : ℕ) (piece : Text) → Bounded (length piece) n (counted n piece).taken (counted n piece).body
counted_bounded n piece =
    cond_both (ltb (length piece) n) (record { due = Length (n - length piece); body = piece; taken = length piece; outcome = More })
    (record { due = Length 0; body = take n piece; taken = n; outcome = Whole }) (λ (p : Part). Bounded (length piece) n p.taken p.body)
    (λ e. record { read = omega arith; kept = omega (arith, ltb-true _ _ e) })
    (λ e. let le : n ≤ length piece = ltb-false _ _ e in record { read = le; kept = omega (arith, length-take-le n piece le) })

pub part_bounded : (d : Due) (piece : Text) (size more : ℕ) → fits d size more ≡ true → Bounded (length piece) size (part_of d piece).taken (part_of d piece).body
part_bounded (Length n) piece size more f = let b = counted_bounded n piece in record { read = b.read; kept = omega (arith, b.kept, leb-true n size f) }
part_bounded (Chunks c) piece size more f = let b = run_bounded c piece in record { read = b.read; kept = omega (arith, b.kept, (fits_so c size more f).0) }

-- what is told of a piece of chunks
chunks_told : (c : Chunk) (size : ℕ) (piece : Text) (f : Fed) (b : Bool) → chunks_fit c size (length piece) ≡ b →
    ◌≡◌ {A = Result Fed Unfit} (Ok f) (cond b (Ok (told (run c piece))) (Err record {})) → (f.written ≤ size) × (f.taken ≤ length piece)
chunks_told c size piece f true e g =
    let p = part_bounded (Chunks c) piece size (length piece) e in
    let is : f ≡ told (run c piece) = cc in
    rw is (p.kept, p.read)
chunks_told c size piece f false e g = absurd cc

pub chunks_within : (c : Chunk) (size : ℕ) (piece : Text) (f : Fed) → ◌≡◌ {A = Result Fed Unfit} (Ok f) (fed_by c size piece) → (f.written ≤ size) × (f.taken ≤ length piece)
chunks_within c size piece f g = chunks_told c size piece f (chunks_fit c size (length piece)) refl g

-- where there is room for as many bytes as a body may have, it has room at its start
pub start_fits : (len : ℕ) (d : Due) (size more : ℕ) → AtStart len d → most_bytes ≤ size → len + more < 2 ^ 64 → fits d size more ≡ true
start_fits len (Length n) size more s h k = le-leb n size (omega arith)
start_fits len (Chunks c) size more s h k = rw s (and_from (leb (0 + most_bytes) size) (ltb (len + more) (2 ^ 64)) (le-leb _ _ (omega arith)) (lt-ltb _ _ k))
