-- Where a body is cut does not matter: induction over the first piece.
use Rattle.std.proofs.Common.{◌≡◌, ℕ, Bool, true, false, cond, ltb, [], ◌∷◌, ◌++◌, sym, refl, ap, ◌∙◌, Ok, Err}
use Rattle.text.specs.Bytes.{Text}
use Rattle.message.specs.declared.chunked.Chunk.{Chunk}
use Rattle.message.specs.declared.chunked.Outcome.{Outcome}
use Rattle.message.specs.declared.chunked.Outcome.TheVariants.{More, Whole, Wrong}
use Rattle.message.specs.declared.chunked.Step.TheVariants.{On, End}
use Rattle.message.specs.Chunked.{Stepped, Run, run, after, go, step_of, due_of, skipped}
use Rattle.message.proofs.Chunks.{after_none, after_after}
use Rattle.message_laws.specs.Laws.{on_at, onward, ChunksCutFree, ChunksStay}

on_after : (ys : Text) (n : ℕ) (r : Run) (o : Outcome) (next : Chunk → Run) → after ys n (on_at o r next) ≡ on_at o (after ys n r) next
on_after ys n r More next = after_after ys r.body n r.taken (next r.chunk)
on_after ys n r Whole next = refl
on_after ys n r (Wrong f) next = refl

go_onward : (s : Chunk) (x : Stepped) (f g next : Chunk → Run) → ((t : Chunk) → f t ≡ onward (g t) next) → go s x f ≡ onward (go s x g) next
go_onward s (Ok (On t)) f g next h = ap (after [] 1) (h t) ∙ on_after [] 1 (g t) (g t).outcome next
go_onward s (Ok (End t)) f g next h = refl
go_onward s (Err w) f g next h = refl

cond_onward : (t : Bool) (x y x' y' : Run) (next : Chunk → Run) → x ≡ onward x' next → y ≡ onward y' next → cond t x y ≡ onward (cond t x' y') next
cond_onward true x y x' y' next h k = h
cond_onward false x y x' y' next h k = k

pub cut_free : ChunksCutFree
unfolding run
cut_free s [] q = sym (after_none (run s q))
cut_free s (b ∷ p) q =
    let next : Chunk → Run = λ t. run t q in
    let was = run (skipped s 1) p in
    cond_onward (ltb 0 (due_of s))
    (after (b ∷ []) 1 (run (skipped s 1) (p ++ q)))
    (go s (step_of s b) (λ t. run t (p ++ q)))
    (after (b ∷ []) 1 was)
    (go s (step_of s b) (λ t. run t p))
    next
    (ap (after (b ∷ []) 1) (cut_free (skipped s 1) p q) ∙ on_after (b ∷ []) 1 was was.outcome next)
    (go_onward s (step_of s b) (λ t. run t (p ++ q)) (λ t. run t p) next (λ t. cut_free t p q))

stays : (o : Outcome) (r : Run) (next : Chunk → Run) → (o ≡ More → ⊥) → on_at o r next ≡ r
stays More r next h = absurd (h refl)
stays Whole r next h = refl
stays (Wrong f) r next h = refl

pub stay : ChunksStay
stay s p q h = cut_free s p q ∙ stays (run s p).outcome (run s p) (λ t. run t q) h
