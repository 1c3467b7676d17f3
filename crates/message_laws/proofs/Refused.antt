-- A chunked body is refused where it breaks: each byte leaves the same due, or ends the chunk, or is the one that is refused.
use Rattle.std.proofs.Common.{◌≡◌, ℕ, zero, suc, ◌+◌, ◌-◌, ◌<◌, ◌≤◌, false, eqb, leb, ◌⊎◌, [], ◌∷◌, ◌++◌, length, take, drop, sym, refl, ap, ◌∙◌, subst, inl, inr, append_assoc, add-zero, add-one, arith}
use native.Mathlib.Nat.{sub-zero}
use Rattle.std.proofs.lemmas.List.{length-append, length-drop, length-take-le, take-append-drop, drop_at}
use Rattle.std.proofs.lemmas.Bool.{cond-false, ne_eqb, lt-leb, cases_lt, cases_eq}
use Rattle.text.specs.Bytes.{Text}
use Rattle.text_laws.specs.Laws.{Iff}
use Rattle.message.specs.Faults.{flaw}
use Rattle.message.specs.declared.fault.Fault.TheVariants.{BodyTooLong, Chunk}
use Rattle.message.specs.declared.fault.Flaw.{Flaw}
use Rattle.message.specs.declared.chunked.Phase.{Phase}
use Rattle.message.specs.declared.chunked.Phase.TheVariants.{Size, SizeLf}
use Rattle.message.specs.declared.chunked.Outcome.{Outcome}
use Rattle.message.specs.declared.chunked.Outcome.TheVariants.{Whole, Wrong}
use Rattle.message.specs.Chunked.{Stepped, in_phase, fresh, Run, go, run}
use Rattle.message_laws.specs.Breaks.{Breaks}
use Rattle.message_laws.specs.Chunks.{crlf, Says, Part, Right, sent, all_sent, all_bytes}
use Rattle.message_laws.specs.ChunkFaults.{ChunkFirst, TooLarge, BadChunk, too_large, malformed, ChunksBreak, ChunksRefused}
use Rattle.message_laws.proofs.Sizes.{says_so, says_from}
use Rattle.message_laws.proofs.Bodies.{size_run, chunk_run, chunks_run, last_run}
use Rattle.message_laws.proofs.Dues.{Sized, Data, Due, Above, Large, Open, Digits, sized_from, sized_so, fresh_open, Turn, goes, done, wrong, large, turn}

abbrev NotLarge : Phase → ℕ → Text → Type 0
NotLarge p room t = (w : Flaw) → Large p room w t → ⊥

-- the first i bytes of t can still become a good text, and the next makes that impossible
record Stops (Good : Text → Type 0) (t : Text) (i : ℕ) : Type 0 where
  there : i < length t
  begins : (u : Text) × Good (take i t ++ u)
  ends : (u : Text) → Good (take (suc i) t ++ u) → ⊥

-- what a refusal says of the text from a phase on: a size above the room, a byte that breaks the chunk, or the chunk was over before
data Found (p : Phase) (room read : ℕ) (t : Text) (w : Flaw) : Type 0 where
  above : Large p room w t → Found p room read t w
  broken : (i : ℕ) → NotLarge p room t → Stops (Due p) t i → w ≡ flaw Chunk (read + i) → Found p room read t w
  over : NotLarge p room t → Due p t → Found p room read t w

-- one byte before it
found_on : (p q : Phase) (room room' read b : ℕ) (bs : Text) (w : Flaw) → ((u : Text) → Iff (Due p (b ∷ u)) (Due q u)) → ((x : Flaw) → Iff (Large p room x (b ∷ bs)) (Large q room' x bs)) →
    Found q room' (read + 1) bs w → Found p room read (b ∷ bs) w
found_on p q room room' read b bs w d l (above h) = above ((l w).1 h)
found_on p q room room' read b bs w d l (broken i none s e) =
    let place : read + 1 + i ≡ read + suc i = omega arith in
    broken (suc i) (λ x h. none x ((l x).0 h))
    record { there = omega (arith, s.there); begins = (s.begins.0, (d (take i bs ++ s.begins.0)).1 s.begins.1); ends = λ u h. s.ends u ((d (take (suc i) bs ++ u)).0 h) }
    (e ∙ ap (flaw Chunk) place)
found_on p q room room' read b bs w d l (over none h) = over (λ x k. none x ((l x).0 k)) ((d bs).1 h)

found_turn : (p : Phase) (room read b : ℕ) (bs : Text) (o : Outcome) (w : Flaw) → Open p →
    ((q : Phase) (room' : ℕ) → Open q → (run (in_phase q room' (read + 1)) bs).outcome ≡ Wrong w → Found q room' (read + 1) bs w) → o ≡ Wrong w → Turn p room read b bs o → Found p room read (b ∷ bs) w
found_turn p room read b bs o w start next e (goes q room' is opens d l) = found_on p q room room' read b bs w d l (next q room' opens (sym is ∙ e))
found_turn p room read b bs o w start next e (done d none) = over none d
found_turn p room read b bs o w start next e (wrong is never none) =
    let same : w ≡ flaw Chunk read = cc in
    broken 0 none record { there = omega arith; begins = start; ends = never } (same ∙ ap (flaw Chunk) (sym (add-zero read)))
found_turn p room read b bs o w start next e (large x is l) =
    let same : x ≡ w = cc in
    above (subst (λ y. Large p room y (b ∷ bs)) same l)

found : (t : Text) (p : Phase) (room read : ℕ) (w : Flaw) → Open p → (run (in_phase p room read) t).outcome ≡ Wrong w → Found p room read t w
unfolding run
found [] p room read w start e = absurd cc
found (b ∷ bs) p room read w start e =
    found_turn p room read b bs (run (in_phase p room read) (b ∷ bs)).outcome w start (λ q room'. found bs q room' (read + 1) w) e (turn p room read b bs)

-- the converse: where the text breaks, the run does
stops_turn : (p : Phase) (room read b i : ℕ) (bs : Text) (o : Outcome) → NotLarge p room (b ∷ bs) → Stops (Due p) (b ∷ bs) i →
    ((q : Phase) (room' j : ℕ) → NotLarge q room' bs → Stops (Due q) bs j → (run (in_phase q room' (read + 1)) bs).outcome ≡ Wrong (flaw Chunk (read + 1 + j))) →
    Turn p room read b bs o → o ≡ Wrong (flaw Chunk (read + i))
stops_turn p room read b zero bs o none s next (goes q room' is opens d l) = absurd (s.ends opens.0 ((d opens.0).1 opens.1))
stops_turn p room read b (suc j) bs o none s next (goes q room' is opens d l) =
    let place : read + 1 + j ≡ read + suc j = omega arith in
    let later : Stops (Due q) bs j = record { there = omega (arith, s.there); begins = (s.begins.0, (d (take j bs ++ s.begins.0)).0 s.begins.1); ends = λ u h. s.ends u ((d (take (suc j) bs ++ u)).1 h) } in
    is ∙ next q room' j (λ x h. none x ((l x).1 h)) later ∙ ap (λ n. Wrong (flaw Chunk n)) place
stops_turn p room read b i bs o none s next (done d no-large) = absurd (s.ends (drop (suc i) (b ∷ bs)) (subst (Due p) (sym (take-append-drop (suc i) (b ∷ bs))) d))
stops_turn p room read b zero bs o none s next (wrong is never no-large) = is ∙ ap (λ n. Wrong (flaw Chunk n)) (sym (add-zero read))
stops_turn p room read b (suc j) bs o none s next (wrong is never no-large) = absurd (never (take j bs ++ s.begins.0) s.begins.1)
stops_turn p room read b i bs o none s next (large x is l) = absurd (none x l)

stops_run : (t : Text) (p : Phase) (room read i : ℕ) → NotLarge p room t → Stops (Due p) t i → (run (in_phase p room read) t).outcome ≡ Wrong (flaw Chunk (read + i))
stops_run [] p room read i none s = absurd (omega (arith, s.there))
stops_run (b ∷ bs) p room read i none s =
    stops_turn p room read b i bs (run (in_phase p room read) (b ∷ bs)).outcome none s (λ q room' j. stops_run bs q room' (read + 1) j) (turn p room read b bs)

-- the line of a size above the room
above_run : (first n room read : ℕ) (rest : Text) → room < n → (run (in_phase (SizeLf first n) room read) (10 ∷ rest)).outcome ≡ Wrong (flaw BodyTooLong first)
unfolding run
above_run first n room read rest h =
    let s = in_phase (SizeLf first n) room read in
    let differ : n ≡ 0 → ⊥ = λ e. omega arith in
    ap (λ (z : Stepped). (go s z (λ t. run t rest)).outcome) (cond-false (eqb n 0) _ _ (ne_eqb n 0 differ) ∙ cond-false (leb n room) _ _ (lt-leb n room h))

-- the same in words of the grammar
says_sized : (Q : ℕ → Text → Type 0) (size rest t : Text) (n : ℕ) → Says size n → Q n rest → t ≡ size ++ (crlf ++ rest) → Sized Q 0 0 t
says_sized Q size rest t n says q e =
    let so = says_so size n says in
    subst (Sized Q 0 0) (sym e) (sized_from Q size rest 0 0 n (omega arith) (omega (arith, so.0)) (omega (arith, so.1)) so.2 q)

digits_say : (Q : ℕ → Text → Type 0) (t : Text) (g : Digits Q 0 0 t) → Says g.digits g.number
digits_say Q t g = says_from g.digits g.number (omega (arith, g.some)) (omega (arith, g.few (omega arith))) g.worth

large_from : (room at : ℕ) (t : Text) → TooLarge room t → Large (Size at 0 0) room (flaw BodyTooLong at) t
large_from room at t (size, rest, (n, says, h, e)) = says_sized (Above at room (flaw BodyTooLong at)) size rest t n says (h, refl) e

large_so : (room at : ℕ) (t : Text) (w : Flaw) → Large (Size at 0 0) room w t → TooLarge room t × (w ≡ flaw BodyTooLong at)
large_so room at t w l =
    let g = sized_so (Above at room w) t 0 0 l in
    ((g.digits, g.later, (g.number, digits_say (Above at room w) t g, g.next.0, g.text)), g.next.1)

first_of : (t : Text) (g : Digits Data 0 0 t) → (g.number ≡ 0) ⊎ (g.number ≡ 0 → ⊥) → ChunkFirst t
first_of t g (inl z) =
    let ds = g.digits in
    let more = g.next.0 in
    let text : g.later ≡ crlf ++ more = subst (λ m. drop m g.later ≡ crlf ++ more) z g.next.1 in
    let assoc : ds ++ (crlf ++ (crlf ++ more)) ≡ (ds ++ (crlf ++ crlf)) ++ more = simp append_assoc in
    (ds ++ (crlf ++ crlf), more, (inr (ds, subst (Says ds) z (digits_say Data t g), refl), g.text ∙ ap (λ l. ds ++ (crlf ++ l)) text ∙ assoc))
first_of t g (inr some) =
    let ds = g.digits in
    let n = g.number in
    let more = g.next.0 in
    let long : n ≤ length g.later = omega (arith, length-drop n g.later, ap length g.next.1) in
    let count : length (take n g.later) ≡ n = length-take-le n g.later long in
    let c : Part = record { size = ds; bytes = take n g.later } in
    let text : g.later ≡ take n g.later ++ (crlf ++ more) = sym (take-append-drop n g.later) ∙ ap (λ l. take n g.later ++ l) g.next.1 in
    let assoc : ds ++ (crlf ++ (c.bytes ++ (crlf ++ more))) ≡ sent c ++ more = simp append_assoc in
    (sent c, more, (inl (c, (subst (Says ds) (sym count) (digits_say Data t g), omega arith), refl), g.text ∙ ap (λ l. ds ++ (crlf ++ l)) text ∙ assoc))

first_from : (t : Text) → Sized Data 0 0 t → ChunkFirst t
first_from t s = let g = sized_so Data t 0 0 s in first_of t g (cases_eq g.number 0)

first_so : (t : Text) → ChunkFirst t → Sized Data 0 0 t
first_so t (c, rest, (inl (part, right, e), f)) =
    let assoc : sent part ++ rest ≡ part.size ++ (crlf ++ (part.bytes ++ (crlf ++ rest))) = simp append_assoc in
    says_sized Data part.size (part.bytes ++ (crlf ++ rest)) t (length part.bytes) right.0 (rest, drop_at part.bytes (crlf ++ rest) (length part.bytes) refl) (f ∙ ap (λ l. l ++ rest) e ∙ assoc)
first_so t (c, rest, (inr (zeros, says, e), f)) =
    let assoc : (zeros ++ (crlf ++ crlf)) ++ rest ≡ zeros ++ (crlf ++ (crlf ++ rest)) = simp append_assoc in
    says_sized Data zeros (crlf ++ rest) t 0 says (rest, refl) (f ∙ ap (λ l. l ++ rest) e ∙ assoc)

stops_from : (t : Text) (at i : ℕ) → i < length t → Breaks ChunkFirst t false i → Stops (Due (Size at 0 0)) t i
stops_from t at i h g =
    record {
      there = h;
      begins = (g.begins.0, first_so (take i t ++ g.begins.0) g.begins.1);
      ends = λ u d. omega (arith, g.no_further u (subst (λ j. ChunkFirst (take j t ++ u)) (sym (add-one i)) (first_from (take (suc i) t ++ u) d)));
    }

stops_so : (t : Text) (at i : ℕ) → Stops (Due (Size at 0 0)) t i → Breaks ChunkFirst t false i
stops_so t at i s =
    record {
      within = omega (arith, s.there);
      begins = (s.begins.0, first_from (take i t ++ s.begins.0) s.begins.1);
      no_further = λ u c. absurd (s.ends u (first_so (take (suc i) t ++ u) (subst (λ j. ChunkFirst (take j t ++ u)) (add-one i) c)));
      bad = λ c. refl;
    }

-- a bad chunk is refused
bad_run : (room at : ℕ) (t : Text) (w : Flaw) → BadChunk room at t w → (run (fresh room at) t).outcome ≡ Wrong w
bad_run room at t w (too_large (size, rest, (n, says, h, e))) =
    ap (λ l. (run (fresh room at) l).outcome) e
    ∙ ap (λ (r : Run). r.outcome) (size_run size (10 ∷ rest) n room at says).so
    ∙ above_run at n room (at + length size + 1) rest h
bad_run room at t w (malformed i none h g) = stops_run t (Size at 0 0) room at i (λ x l. none (large_so room at t x l).0) (stops_from t at i h g)

-- chunks, and then a bad one
break_run : (room at : ℕ) (t : Text) (w : Flaw) → ChunksBreak room at t w → (run (fresh room at) t).outcome ≡ Wrong w
break_run room at t w g =
    let n = length (all_bytes g.chunks) in
    let m = length (all_sent g.chunks) in
    ap (λ l. (run (fresh room at) l).outcome) g.text
    ∙ ap (λ (r : Run). r.outcome) (chunks_run g.chunks g.rest room at g.right g.fits).so
    ∙ bad_run (room - n) (at + m) g.rest w g.wrong

-- the bad one at once
break_none : (room at : ℕ) (t : Text) (w : Flaw) → BadChunk room at t w → ChunksBreak room at t w
break_none room at t w b =
    record { chunks = []; rest = t; right = tt; fits = omega arith; text = refl; wrong = rw (sub-zero room, add-zero at) b }

-- a right chunk before
break_more : (c : Part) (room at : ℕ) (t : Text) (w : Flaw) → Right c → length c.bytes ≤ room → ChunksBreak (room - length c.bytes) (at + length (sent c)) t w → ChunksBreak room at (sent c ++ t) w
break_more c room at t w right fit g =
    let all : length (c.bytes ++ all_bytes g.chunks) ≡ length c.bytes + length (all_bytes g.chunks) = length-append c.bytes (all_bytes g.chunks) in
    let text : length (sent c ++ all_sent g.chunks) ≡ length (sent c) + length (all_sent g.chunks) = length-append (sent c) (all_sent g.chunks) in
    let less : room - length c.bytes - length (all_bytes g.chunks) ≡ room - length (c.bytes ++ all_bytes g.chunks) = omega arith in
    let place : at + length (sent c) + length (all_sent g.chunks) ≡ at + length (sent c ++ all_sent g.chunks) = omega arith in
    record {
      chunks = c ∷ g.chunks;
      rest = g.rest;
      right = (right, g.right);
      fits = omega (arith, g.fits);
      text = ap (λ l. sent c ++ l) g.text ∙ sym (append_assoc (sent c) (all_sent g.chunks) g.rest);
      wrong = subst (λ m. BadChunk m (at + length (sent c ++ all_sent g.chunks)) g.rest w) less (subst (λ m. BadChunk (room - length c.bytes - length (all_bytes g.chunks)) m g.rest w) place g.wrong);
    }

-- what is refused breaks, for every shorter text
abbrev Shorter : ℕ → Flaw → Type 0
Shorter n w = (t : Text) (room at : ℕ) → length t < n → (run (fresh room at) t).outcome ≡ Wrong w → ChunksBreak room at t w

-- a chunk whose size is not above the room fits
part_fits : (c : Part) (room at : ℕ) (t rest : Text) → NotLarge (Size at 0 0) room t → Right c → t ≡ sent c ++ rest → length c.bytes ≤ room
part_fits c room at t rest none right e =
    let assoc : sent c ++ rest ≡ c.size ++ (crlf ++ (c.bytes ++ (crlf ++ rest))) = simp append_assoc in
    elim (cases_lt room (length c.bytes)) [
      | inl h ↦ absurd (none (flaw BodyTooLong at) (large_from room at t (c.size, c.bytes ++ (crlf ++ rest), (length c.bytes, right.0, h, e ∙ assoc))))
      | inr h ↦ h
    ]

-- a chunk that is over, and the refusal after it
break_first : (room at : ℕ) (t : Text) (w : Flaw) → NotLarge (Size at 0 0) room t → (run (fresh room at) t).outcome ≡ Wrong w → Shorter (length t) w → ChunkFirst t → ChunksBreak room at t w
break_first room at t w none e next (x, rest, (inl (c, right, is), f)) =
    let n = length c.bytes in
    let text : t ≡ sent c ++ rest = f ∙ ap (λ l. l ++ rest) is in
    let fit = part_fits c room at t rest none right text in
    let long : length rest < length t = omega (arith, ap length text, length-append (sent c) rest, length-append c.size (crlf ++ (c.bytes ++ crlf))) in
    let later : (run (fresh (room - n) (at + length (sent c))) rest).outcome ≡ Wrong w =
    sym (ap (λ (r : Run). r.outcome) (chunk_run c rest room at right fit).so) ∙ ap (λ l. (run (fresh room at) l).outcome) (sym text) ∙ e in
    subst (λ l. ChunksBreak room at l w) (sym text) (break_more c room at rest w right fit (next rest (room - n) (at + length (sent c)) long later))
break_first room at t w none e next (x, rest, (inr (zeros, says, is), f)) =
    let assoc : (zeros ++ (crlf ++ crlf)) ++ rest ≡ zeros ++ (13 ∷ 10 ∷ 13 ∷ 10 ∷ rest) = simp append_assoc in
    let whole : (run (fresh room at) t).outcome ≡ Whole =
    ap (λ l. (run (fresh room at) l).outcome) (f ∙ ap (λ l. l ++ rest) is ∙ assoc) ∙ ap (λ (r : Run). r.outcome) (last_run zeros rest room at says) in
    absurd cc

break_found : (room at : ℕ) (t : Text) (w : Flaw) → (run (fresh room at) t).outcome ≡ Wrong w → Shorter (length t) w → Found (Size at 0 0) room at t w → ChunksBreak room at t w
break_found room at t w e next (above l) =
    let so = large_so room at t w l in
    break_none room at t w (subst (BadChunk room at t) (sym so.1) (too_large so.0))
break_found room at t w e next (broken i none s is) = break_none room at t w (subst (BadChunk room at t) (sym is) (malformed i (λ h. none _ (large_from room at t h)) s.there (stops_so t at i s)))
break_found room at t w e next (over none d) = break_first room at t w none e next (first_from t d)

breaks : (n : ℕ) (w : Flaw) → Shorter n w
breaks zero w t room at h e = absurd (omega arith)
breaks (suc n) w t room at h e =
    break_found room at t w e (λ u room' at' k. breaks n w u room' at' (omega arith)) (found t (Size at 0 0) room at w (fresh_open at) e)

pub refused : ChunksRefused
refused room at t w = (breaks (suc (length t)) w t room at (omega arith), break_run room at t w)
