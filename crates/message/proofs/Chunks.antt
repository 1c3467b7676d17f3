-- How a chunked body is read, piece by piece: what the loop over a piece keeps.
use Rattle.std.proofs.Common.{◌≡◌, ℕ, zero, suc, ◌+◌, ◌-◌, ◌*◌, ◌^◌, ◌<◌, ◌≤◌, true, cond, ◌&&◌, eqb, ltb, leb, [], ◌∷◌, ◌++◌, length, take, drop, Some, None, Ok, Err, Option, Result, sym, refl, ap, ◌∙◌, subst, append_assoc, add-zero, add_assoc, zero-add, arith}
use native.Mathlib.Nat.{sub-zero}
use Rattle.std.proofs.lemmas.List.{append-nil, length-append, length-take-le, length-drop}
use Rattle.std.proofs.lemmas.Bool.{cond_both, cond-true, cond-false, lt-ltb, le-ltb, leb-true, ltb-true, and_parts}
use Rattle.text.specs.Bytes.{Text, placed, Wrote}
use Rattle.text.specs.Numerals.{digit_value}
use Rattle.text.specs.declared.numeral.Base.TheVariants.{Hexadecimal}
use Rattle.text.proofs.Places.{wrote_none}
use Rattle.message.specs.Faults.{flaw}
use Rattle.message.specs.declared.fault.Fault.TheVariants.{BodyTooLong}
use Rattle.message.specs.declared.fault.Unfit.{Unfit}
use Rattle.message.specs.declared.chunked.Phase.{Phase}
use Rattle.message.specs.declared.chunked.Phase.TheVariants.{Size, SizeLf, Bytes, BytesLf, LastCr, LastLf}
use Rattle.message.specs.declared.chunked.Chunk.{Chunk}
use Rattle.message.specs.declared.chunked.Outcome.{Outcome}
use Rattle.message.specs.declared.chunked.Outcome.TheVariants.{More}
use Rattle.message.specs.declared.chunked.Fed.{Fed}
use Rattle.message.specs.declared.chunked.Step.TheVariants.{On, End}
use Rattle.message.specs.Chunked.{in_phase, to, wrong_byte, only, Stepped, on_size, sized, on_byte, step_of, due_in, due_of, skipped, Run, after, stop, go, run, fits, fed, told, fed_by, held_by}

pub after_none : (r : Run) → after [] 0 r ≡ r
after_none r = rw (zero-add r.taken)

pub after_after : (xs ys : Text) (m n : ℕ) (r : Run) → after xs m (after ys n r) ≡ after (xs ++ ys) (m + n) r
after_after xs ys m n r = rw (append_assoc xs ys r.body, add_assoc m n r.taken)

-- a run over bytes that are due
pub run_bytes : (left room read n : ℕ) (xs : Text) → n ≤ left → n ≤ length xs → run (in_phase (Bytes left) room read) xs ≡ after (take n xs) n (run (in_phase (Bytes (left - n)) room (read + n)) (drop n xs))
unfolding run
run_bytes left room read zero xs h k = rw (sub-zero left, add-zero read) (sym (after_none (run (in_phase (Bytes left) room read) xs)))
run_bytes left room read (suc n) [] h k = absurd (omega arith)
run_bytes left room read (suc n) (x ∷ xs) h k =
    let some : 0 < left = omega arith in
    let due : n ≤ left - 1 = omega arith in
    let there : n ≤ length xs = omega arith in
    let one : 1 + n ≡ suc n = omega arith in
    let fewer : left - 1 - n ≡ left - suc n = omega arith in
    let on : read + 1 + n ≡ read + suc n = omega arith in
    cond-true (ltb 0 left) _ _ (lt-ltb 0 left some)
    ∙ ap (after (x ∷ []) 1) (run_bytes (left - 1) room (read + 1) n xs due there)
    ∙ after_after (x ∷ []) (take n xs) 1 n (run (in_phase (Bytes (left - 1 - n)) room (read + 1 + n)) (drop n xs))
    ∙ rw (fewer, one, on)

-- bytes are due in one phase only
due_phase : (p : Phase) → 0 < due_in p → p ≡ Bytes (due_in p)
due_phase (Size first digits value) h = absurd (omega arith)
due_phase (SizeLf first value) h = absurd (omega arith)
due_phase (Bytes left) h = refl
due_phase BytesLf h = absurd (omega arith)
due_phase LastCr h = absurd (omega arith)
due_phase LastLf h = absurd (omega arith)

run_skip : (s : Chunk) (n : ℕ) (xs : Text) → 0 < due_of s → n ≤ due_of s → n ≤ length xs → run s xs ≡ after (take n xs) n (run (skipped s n) (drop n xs))
run_skip s n xs some h k = ap (λ (p : Phase). run (in_phase p s.room s.read) xs) (due_phase s.phase some) ∙ run_bytes (due_of s) s.room s.read n xs h k

-- a run over a byte that is not due
pub run_byte : (s : Chunk) (b : ℕ) (bs : Text) → due_of s ≡ 0 → run s (b ∷ bs) ≡ go s (step_of s b) (λ t. run t bs)
unfolding run
run_byte s b bs h = cond-false (ltb 0 (due_of s)) _ _ (le-ltb 0 (due_of s) (omega arith))

pub run_step : (s : Chunk) (rest : Text) (b : ℕ) (bs : Text) (x : Stepped) → rest ≡ b ∷ bs → due_of s ≡ 0 → x ≡ step_of s b → run s rest ≡ go s x (λ t. run t bs)
run_step s rest b bs x is h e = ap (run s) is ∙ run_byte s b bs h ∙ ap (λ y. go s y (λ t. run t bs)) (sym e)

pub run_none : (s : Chunk) (xs : Text) → length xs ≡ 0 → run s xs ≡ stop s 0 More
unfolding run
run_none s [] h = refl
run_none s (x ∷ xs) h = absurd (omega arith)

-- a step makes nothing more due than there was room for, and is one byte on
abbrev Fair : ℕ → ℕ → Stepped → Type 0
Fair most read (Ok (On t)) = (due_of t + t.room ≤ most) × (t.read ≡ read + 1)
Fair most read (Ok (End t)) = Unit {0}
Fair most read (Err f) = Unit {0}

fair_size : (s : Chunk) (first digits value b : ℕ) (o : Option ℕ) → Fair s.room s.read (on_size s first digits value b o)
fair_size s first digits value b (Some d) = cond_both (ltb digits 5 && ltb value 65536) (Ok (to s (Size first (digits + 1) (value * 16 + d)))) (Err (wrong_byte s)) (Fair s.room s.read) (λ e. (omega arith, refl)) (λ _. tt)
fair_size s first digits value b None = cond_both (eqb b 13 && ltb 0 digits) (Ok (to s (SizeLf first value))) (Err (wrong_byte s)) (Fair s.room s.read) (λ e. (omega arith, refl)) (λ _. tt)

fair_sized : (s : Chunk) (first value : ℕ) → Fair s.room s.read (sized s first value)
fair_sized s first value =
    let some : Stepped = Ok (On (in_phase (Bytes value) (s.room - value) (s.read + 1))) in
    let large : Stepped = Err (flaw BodyTooLong first) in
    cond_both (eqb value 0) (Ok (to s LastCr)) (cond (leb value s.room) some large) (Fair s.room s.read) (λ e. (omega arith, refl))
    (λ _. cond_both (leb value s.room) some large (Fair s.room s.read) (λ e. (omega (arith, leb-true value s.room e), refl)) (λ _. tt))

fair_only : (mark most : ℕ) (s : Chunk) (b : ℕ) (next : Stepped) → Fair most s.read next → Fair most s.read (only mark s b next)
fair_only mark most s b next h = cond_both (eqb b mark) next (Err (wrong_byte s)) (Fair most s.read) (λ _. h) (λ _. tt)

fair : (p : Phase) (s : Chunk) (b : ℕ) → Fair (due_in p + s.room) s.read (on_byte p s b)
fair (Size first digits value) s b = rw (zero-add s.room) (fair_size s first digits value b (digit_value Hexadecimal b))
fair (SizeLf first value) s b = rw (zero-add s.room) (fair_only 10 s.room s b (sized s first value) (fair_sized s first value))
fair (Bytes left) s b = fair_only 13 (left + s.room) s b (Ok (to s BytesLf)) (omega arith, refl)
fair BytesLf s b = fair_only 10 (0 + s.room) s b (Ok (to s (Size (s.read + 1) 0 0))) (omega arith, refl)
fair LastCr s b = fair_only 13 (0 + s.room) s b (Ok (to s LastLf)) (omega arith, refl)
fair LastLf s b = fair_only 10 (0 + s.room) s b (Ok (End (in_phase LastLf s.room (s.read + 1)))) tt

pub fair_on : (s t : Chunk) (b : ℕ) → step_of s b ≡ Ok (On t) → (due_of t + t.room ≤ due_of s + s.room) × (t.read ≡ s.read + 1)
fair_on s t b e = subst (λ (x : Stepped). Fair (due_of s + s.room) s.read x) e (fair s.phase s b)

-- the loop over a piece, from the state `start` and memory that held `was`; what is left of the piece is still to be read
pub record Going (start : Chunk) (was piece : Text) (s : Chunk) (out : Text) (written : ℕ) (rest : Text) : Type 0 where
  pub done : Text
  pub wrote : Wrote done was out written
  pub room : length done + (due_of s + s.room) ≤ length was
  pub so : after done (length piece - length rest) (run s rest) ≡ run start piece
  pub within : length rest ≤ length piece
  pub counted : s.read + length rest < 2 ^ 64

pub fits_so : (s : Chunk) (size more : ℕ) → fits s size more ≡ true → (due_of s + s.room ≤ size) × (s.read + more < 2 ^ 64)
fits_so s size more e =
    let both = and_parts (leb (due_of s + s.room) size) (ltb (s.read + more) (2 ^ 64)) e in
    (leb-true _ _ both.0, ltb-true _ _ both.1)

pub begins : (start : Chunk) (was piece : Text) → fits start (length was) (length piece) ≡ true → Going start was piece start was 0 piece
begins start was piece f =
    let h = fits_so start (length was) (length piece) f in
    let none : length piece - length piece ≡ 0 = omega arith in
    record {
      done = [];
      wrote = wrote_none was;
      room = omega arith;
      so = rw none (after_none (run start piece));
      within = omega arith;
      counted = omega arith;
    }

-- so many bytes that are due were written
pub copies : (start : Chunk) (was piece : Text) (s : Chunk) (out : Text) (written : ℕ) (rest : Text) (n : ℕ) (t : Chunk) (out' : Text) (m : ℕ) (g : Going start was piece s out written rest) →
    0 < n → n ≤ due_of s → n ≤ length rest → t ≡ skipped s n → Wrote (g.done ++ take n rest) was out' m →
    Going start was piece t out' m (drop n rest)
copies start was piece s out written rest n t out' m g z h k e w =
    let part = take n rest in
    let some : 0 < due_of s = omega arith in
    let long : length (take n rest) ≡ n = length-take-le n rest k in
    let left : length (drop n rest) ≡ length rest - n = length-drop n rest in
    let on : length piece - length (drop n rest) ≡ length piece - length rest + n = omega (arith, g.within) in
    subst (λ (u : Chunk). Going start was piece u out' m (drop n rest)) (sym e) record {
      done = g.done ++ part;
      wrote = w;
      room = omega (arith, g.room, long, length-append g.done part);
      so =
          rw on (sym (after_after g.done part (length piece - length rest) n (run (skipped s n) (drop n rest))))
          ∙ ap (after g.done (length piece - length rest)) (sym (run_skip s n rest some h k))
          ∙ g.so;
      within = omega (arith, g.within);
      counted = omega (arith, g.counted);
    }

-- a byte was a step
pub goes : (start : Chunk) (was piece : Text) (s : Chunk) (out : Text) (written : ℕ) (rest : Text) (b : ℕ) (bs : Text) (t : Chunk) →
    Going start was piece s out written rest → rest ≡ b ∷ bs → due_of s ≡ 0 → step_of s b ≡ Ok (On t) →
    Going start was piece t out written bs
goes start was piece s out written rest b bs t left is h e =
    let fair = fair_on s t b e in
    let g : Going start was piece s out written (b ∷ bs) = subst (λ xs. Going start was piece s out written xs) is left in
    let on : length piece - length bs ≡ length piece - length (b ∷ bs) + 1 = omega (arith, g.within) in
    record {
      done = g.done;
      wrote = g.wrote;
      room = omega (arith, g.room, fair.0);
      so =
          rw on (ap (λ l. after l (length piece - length (b ∷ bs) + 1) (run t bs)) (sym (append-nil g.done)))
          ∙ sym (after_after g.done [] (length piece - length (b ∷ bs)) 1 (run t bs))
          ∙ ap (after g.done (length piece - length (b ∷ bs))) (sym (run_byte s b bs h ∙ ap (λ x. go s x (λ t. run t bs)) e))
          ∙ g.so;
      within = omega (arith, g.within);
      counted = omega (arith, g.counted, fair.1);
    }

-- the loop ends where the run does
pub ends : (start : Chunk) (was piece : Text) (s : Chunk) (out : Text) (written : ℕ) (rest : Text) (t : Chunk) (n : ℕ) (o : Outcome) (m : ℕ) (r : Fed) →
    fits start (length was) (length piece) ≡ true → Going start was piece s out written rest → run s rest ≡ stop t n o → m ≡ length piece - length rest + n → r ≡ fed t written m o →
    (◌≡◌ {A = Result Fed Unfit} (Ok r) (fed_by start (length was) piece)) × (out ≡ held_by start was piece)
ends start was piece s out written rest t n o m r f g e sum is =
    let taken = length piece - length rest in
    let all : after g.done taken (stop t n o) ≡ run start piece = ap (after g.done taken) (sym e) ∙ g.so in
    let body : g.done ≡ (run start piece).body = sym (append-nil g.done) ∙ ap (λ (r : Run). r.body) all in
    let count : written ≡ length (g.done ++ []) = omega (arith, g.wrote.count, g.room, length-append g.done []) in (
      ap Ok is ∙ ap (λ k. Ok (fed t written k o)) sum ∙ ap (λ k. Ok (fed t k (taken + n) o)) count ∙ ap (λ (r : Run). Ok (told r)) all ∙ sym (cond-true _ _ _ f),
      g.wrote.holds ∙ ap (λ ys. placed ys was) body ∙ sym (cond-true _ _ _ f),
    )
