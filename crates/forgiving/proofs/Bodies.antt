-- Bodies by chunks, which the code has undone in memory that is large enough.
use Rattle.std.proofs.Common.{◌≡◌, ℕ, suc, ◌+◌, ◌^◌, ◌<◌, ◌≤◌, true, ltb, List, [], ◌∷◌, ◌++◌, length, take, drop, Ok, Err, refl, sym, ap, ap₂, ◌∙◌, arith}
use Rattle.std.proofs.lemmas.List.{take_at, length-append, length-drop}
use Rattle.std.proofs.lemmas.Bool.{cond_both, cond-true, le-leb, lt-ltb, ltb-true}
use Rattle.text.specs.Bytes.{Text}
use Rattle.text.proofs.Places.{placed_fits}
use Rattle.message.specs.Fields.{Field}
use Rattle.message.specs.declared.chunked.Chunk.{Chunk}
use Rattle.message.specs.declared.chunked.Fed.{Fed}
use Rattle.message.specs.declared.chunked.Outcome.{Outcome}
use Rattle.message.specs.declared.chunked.Outcome.TheVariants as chunks
use Rattle.message.specs.declared.chunked.Step.TheVariants.{On, End}
use Rattle.message.specs.declared.fault.Flaw.{Flaw}
use Rattle.message.specs.declared.fault.Unfit.{Unfit}
use Rattle.message.specs.Chunked.{most_bytes, fresh, due_of, skipped, step_of, Stepped, Run, after, go, run, fits, told, fed_by, held_by}
use Rattle.message.proofs.Chunks.{fair_on}
use Rattle.reader.specs.Reader.{More, Bad, Whole}
use Rattle.forgiving.specs.Common.{on_run, by_chunks}

-- no more is read than there is, nor held than there is room for
abbrev Within : ℕ → ℕ → Run → Type 0
Within most n r = (length r.body ≤ most) × (r.taken ≤ n)

went : (s : Chunk) (b n : ℕ) (next : Chunk → Run) (x : Stepped) → step_of s b ≡ x → ((t : Chunk) → Within (due_of t + t.room) n (next t)) → Within (due_of s + s.room) (suc n) (go s x next)
went s b n next (Ok (On t)) e h = let one = h t in (omega (arith, fair_on s t b e, one.0), omega (arith, one.1))
went s b n next (Ok (End t)) e h = (omega arith, omega arith)
went s b n next (Err f) e h = (omega arith, omega arith)

within : (s : Chunk) (t : Text) → Within (due_of s + s.room) (length t) (run s t)
unfolding run
within s [] = (omega arith, omega arith)
within s (b ∷ bs) =
    cond_both (ltb 0 (due_of s)) (after (b ∷ []) 1 (run (skipped s 1) bs)) (go s (step_of s b) (λ t. run t bs)) (Within (due_of s + s.room) (suc (length bs)))
    (λ e. let more = within (skipped s 1) bs in (omega (arith, ltb-true 0 (due_of s) e, more.0), omega (arith, more.1)))
    (λ _. went s b (length bs) (λ t. run t bs) (step_of s b) refl (λ t. within t bs))

-- from the first byte on
abbrev first : Chunk
first = fresh most_bytes 0

abbrev pub first_run : Text → Run
first_run s = run first s

pub taken_within : (s : Text) → (first_run s).taken ≤ length s
taken_within s = (within first s).1

pub body_within : (s : Text) → length (first_run s).body ≤ 262143
unfolding most_bytes
body_within s = omega (arith, (within first s).0)

module _ (s zeros : Text) (long : length zeros ≡ 262143) (small : length s < 2 ^ 64) where
  fitting : fits first (length zeros) (length s) ≡ true
  unfolding most_bytes
  fitting =
      let room : due_of first + first.room ≤ length zeros = omega arith in
      let counted : first.read + length s < 2 ^ 64 = omega arith in
      rw (le-leb _ _ room, lt-ltb _ _ counted) refl

  fed : fed_by first (length zeros) s ≡ Ok (told (first_run s))
  fed = cond-true _ _ _ fitting

  pub fed_is : (f : Fed) → Ok f ≡ fed_by first (length zeros) s → f ≡ told (first_run s)
  fed_is f e = let both : Ok f ≡ Ok (told (first_run s)) = e ∙ fed in cc

  pub never : (u : Unfit) → Err u ≡ fed_by first (length zeros) s → ⊥
  never u e = let both : Err u ≡ Ok (told (first_run s)) = e ∙ fed in cc

  -- what the memory then holds
  pub body_is : (out items : Text) (len n : ℕ) → out ≡ held_by first zeros s → len ≡ length zeros → n ≡ length (first_run s).body → take n (take len (out ++ drop (length out) items)) ≡ (first_run s).body
  unfolding most_bytes
  body_is out items len n is at count =
      let ys = (first_run s).body in
      let rest = drop (length (first_run s).body) zeros in
      let few : length (first_run s).body ≤ length zeros = omega (arith, (within first s).0) in
      let holds : out ≡ ys ++ rest = is ∙ cond-true _ _ _ fitting ∙ placed_fits ys zeros few in
      let whole : length (ys ++ rest) ≡ length zeros = omega (arith, length-append ys rest, length-drop (length ys) zeros) in
      ap (take n) (take_at out (drop (length out) items) len (omega (arith, ap length holds))) ∙ ap (take n) holds ∙ take_at ys rest n (sym count)

  -- what the reader finds, by how the run has ended
  module _ (f : Fed) (is : Ok f ≡ fed_by first (length zeros) s) (m t : Text) (fs : List Field) where
    ended : (o : Outcome) → f.outcome ≡ o → by_chunks m t fs s ≡ on_run m t fs s (first_run s) o
    ended o e = ap (on_run m t fs s (first_run s)) (sym (ap (λ (g : Fed). g.outcome) (fed_is f is)) ∙ e)

    pub on_more : f.outcome ≡ chunks.More → More ≡ by_chunks m t fs s
    on_more e = sym (ended chunks.More e)

    pub on_wrong : (w : Flaw) → f.outcome ≡ chunks.Wrong w → Bad ≡ by_chunks m t fs s
    on_wrong w e = sym (ended (chunks.Wrong w) e)

    pub on_whole : (body rest : Text) → f.outcome ≡ chunks.Whole → body ≡ (first_run s).body → rest ≡ drop f.taken s → Whole (record { method = m; target = t; fields = fs; body = body }) rest ≡ by_chunks m t fs s
    on_whole body rest e b r =
        ap₂ (λ x y. Whole (record { method = m; target = t; fields = fs; body = x }) y) b (r ∙ ap (λ (g : Fed). drop g.taken s) (fed_is f is)) ∙ sym (ended chunks.Whole e)
