-- Room for the rest of a body behind what a piece held.
use Rattle.std.proofs.Common.{◌≡◌, ℕ, ◌+◌, ◌-◌, ◌^◌, ◌<◌, ◌≤◌, true, ltb, leb, [], ◌∷◌, ◌++◌, length, refl, arith, Ok, Err}
use Rattle.std.proofs.lemmas.List.{length-append}
use Rattle.std.proofs.lemmas.Bool.{cond_both, le-leb, lt-ltb, and_from, ltb-true}
use Rattle.text.specs.Bytes.{Text}
use Rattle.message.specs.declared.chunked.Chunk.{Chunk}
use Rattle.message.specs.declared.chunked.Outcome.TheVariants.{More}
use Rattle.message.specs.declared.chunked.Step.TheVariants.{On, End}
use Rattle.message.specs.Chunked.{Stepped, Run, run, after, go, step_of, due_of, skipped, fits}
use Rattle.message.proofs.Chunks.{fair_on, fits_so}
use Rattle.message_laws.specs.Laws.{ChunksFit}

-- what a run over n bytes that wants more leaves of the room, and where it stands
pub record Left (s : Chunk) (n : ℕ) (r : Run) : Type 0 where
  pub room : length r.body + (due_of r.chunk + r.chunk.room) ≤ due_of s + s.room
  pub place : r.chunk.read ≡ s.read + n
  pub all : r.taken ≡ n

abbrev Leaves : Chunk → ℕ → Run → Type 0
Leaves s n r = r.outcome ≡ More → Left s n r

leaves_byte : (s : Chunk) (b : ℕ) (bs : Text) → 0 < due_of s → Leaves (skipped s 1) (length bs) (run (skipped s 1) bs) → Leaves s (length (b ∷ bs)) (after (b ∷ []) 1 (run (skipped s 1) bs))
leaves_byte s b bs h k e =
    let l = k e in
    record { room = omega (arith, l.room); place = omega (arith, l.place); all = omega (arith, l.all) }

leaves_go : (s : Chunk) (b : ℕ) (bs : Text) (x : Stepped) → step_of s b ≡ x → ((t : Chunk) → Leaves t (length bs) (run t bs)) → Leaves s (length (b ∷ bs)) (go s x (λ t. run t bs))
leaves_go s b bs (Ok (On t)) w k e =
    let l = k t e in
    let on = fair_on s t b w in
    record { room = omega (arith, l.room, on.0); place = omega (arith, l.place, on.1); all = omega (arith, l.all) }
leaves_go s b bs (Ok (End t)) w k e = absurd cc
leaves_go s b bs (Err f) w k e = absurd cc

pub leaves : (xs : Text) (s : Chunk) → Leaves s (length xs) (run s xs)
unfolding run
leaves [] s = λ e. record { room = omega arith; place = omega arith; all = refl }
leaves (b ∷ bs) s =
    cond_both (ltb 0 (due_of s)) (after (b ∷ []) 1 (run (skipped s 1) bs)) (go s (step_of s b) (λ t. run t bs)) (Leaves s (length (b ∷ bs)))
    (λ e. leaves_byte s b bs (ltb-true 0 (due_of s) e) (leaves bs (skipped s 1)))
    (λ _. leaves_go s b bs (step_of s b) refl (leaves bs))

fits_from : (s : Chunk) (size more : ℕ) → due_of s + s.room ≤ size → s.read + more < 2 ^ 64 → fits s size more ≡ true
fits_from s size more h k = and_from (leb (due_of s + s.room) size) (ltb (s.read + more) (2 ^ 64)) (le-leb _ _ h) (lt-ltb _ _ k)

pub fit : ChunksFit
fit s p q size f e =
    let l = leaves p s e in
    let had = fits_so s size (length (p ++ q)) f in
    let sum = length-append p q in (
      l.all,
      omega (arith, l.room, had.0),
      fits_from (run s p).chunk (size - length (run s p).body) (length q) (omega (arith, l.room, had.0)) (omega (arith, l.place, had.1, sum)),
    )
