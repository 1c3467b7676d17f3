-- A chunked body is read to its end: each part of it leads from one state to the next.
use Rattle.std.proofs.Common.{◌≡◌, ℕ, suc, ◌+◌, ◌-◌, ◌*◌, ◌^◌, ◌<◌, ◌≤◌, ◌&&◌, eqb, ltb, leb, List, [], ◌∷◌, ◌++◌, length, Some, Option, sym, refl, ap, ◌∙◌, append_assoc, add-zero, zero-lt-suc, pow-suc, add-one, arith, Ok, Err}
use native.Mathlib.Nat.{sub-zero, pow-le-pow_right}
use Rattle.std.proofs.lemmas.List.{append-nil, length-append, take_at, drop_at}
use Rattle.std.proofs.lemmas.Bool.{cond-true, cond-false, lt-ltb, le-leb, ne_eqb, and_from}
use Rattle.text.specs.Bytes.{Text}
use Rattle.text.specs.Numerals.{digit_value, value_after}
use Rattle.text.specs.declared.numeral.Base.TheVariants.{Hexadecimal}
use Rattle.message.specs.declared.chunked.Chunk.{Chunk}
use Rattle.message.specs.declared.chunked.Outcome.TheVariants.{Whole}
use Rattle.message.specs.declared.chunked.Phase.TheVariants.{Size, SizeLf, Bytes, LastLf}
use Rattle.message.specs.declared.chunked.Step.TheVariants.{On}
use Rattle.message.specs.Chunked.{Stepped, in_phase, fresh, to, wrong_byte, on_size, after, stop, go, run}
use Rattle.message.proofs.Chunks.{after_none, after_after, run_bytes}
use Rattle.message_laws.specs.Chunks.{crlf, Says, Part, Right, AllRight, sent, all_sent, all_bytes}
use Rattle.message_laws.specs.Laws.{ChunksRead}
use Rattle.message_laws.proofs.Sizes.{says_so, value_on, digit_small}

-- reading xs from s on gives ys out of n bytes, and goes on from t with zs
pub record Leads (s : Chunk) (xs ys : Text) (n : ℕ) (t : Chunk) (zs : Text) : Type 0 where
  pub so : run s xs ≡ after ys n (run t zs)

then : {s t u : Chunk} {xs ys zs ys' ws : Text} {n m : ℕ} → Leads s xs ys n t zs → Leads t zs ys' m u ws → Leads s xs (ys ++ ys') (n + m) u ws
then {u = u} {ys = ys} {ys' = ys'} {ws = ws} {n = n} {m = m} h k = record { so = h.so ∙ ap (after ys n) k.so ∙ after_after ys ys' n m (run u ws) }

-- the digits of a size
digits_run : (ds rest : Text) (first k v n room read : ℕ) → v < 16 ^ k → k + length ds ≤ 5 → value_after Hexadecimal v ds ≡ Some n →
    Leads (in_phase (Size first k v) room read) (ds ++ rest) [] (length ds) (in_phase (Size first (k + length ds) n) room (read + length ds)) rest
unfolding run value_after
digits_run [] rest first k v n room read h l e =
    let same : n ≡ v = cc in
    record { so = rw (add-zero k, add-zero read, same) (sym (after_none (run (in_phase (Size first k v) room read) rest))) }
digits_run (d ∷ ds) rest first k v n room read h l e =
    let on = value_on v ds n (digit_value Hexadecimal d) e in
    let x = on.0 in
    let s = in_phase (Size first k v) room read in
    let few : k < 5 = omega arith in
    let four : k ≤ 4 = omega arith in
    let top : 16 ^ k ≤ 65536 = pow-le-pow_right (zero-lt-suc 15) four in
    let low : v < 65536 = omega arith in
    let power : 16 ^ (k + 1) ≡ 16 ^ k * 16 = ap (λ m. 16 ^ m) (add-one k) ∙ pow-suc 16 k in
    let small : on.0 < 16 = digit_small d on.0 on.1 in
    let bound : v * 16 + on.0 < 16 ^ (k + 1) = omega arith in
    let left : k + 1 + length ds ≤ 5 = omega arith in
    let one : 1 + length ds ≡ suc (length ds) = omega arith in
    let count : k + 1 + length ds ≡ k + suc (length ds) = omega arith in
    let place : read + 1 + length ds ≡ read + suc (length ds) = omega arith in
    record {
      so =
          ap (λ (o : Option ℕ). go s (on_size s first k v d o) (λ t. run t (ds ++ rest))) on.1
          ∙ ap (λ (z : Stepped). go s z (λ t. run t (ds ++ rest))) (cond-true (ltb k 5 && ltb v 65536) (Ok (to s (Size first (k + 1) (v * 16 + x)))) (Err (wrong_byte s)) (and_from (ltb k 5) (ltb v 65536) (lt-ltb k 5 few) (lt-ltb v 65536 low)))
          ∙ ap (after [] 1) (digits_run ds rest first (k + 1) (v * 16 + x) n room (read + 1) bound left on.2).so
          ∙ after_after [] [] 1 (length ds) (run (in_phase (Size first (k + 1 + length ds) n) room (read + 1 + length ds)) rest)
          ∙ rw (one, count, place);
    }

-- the CR after them
cr_run : (first k n room read : ℕ) (xs : Text) → 0 < k → Leads (in_phase (Size first k n) room read) (13 ∷ xs) [] 1 (in_phase (SizeLf first n) room (read + 1)) xs
unfolding run
cr_run first k n room read xs h =
    let s = in_phase (Size first k n) room read in
    record { so = ap (λ (z : Stepped). go s z (λ t. run t xs)) (cond-true (ltb 0 k) (Ok (to s (SizeLf first n))) (Err (wrong_byte s)) (lt-ltb 0 k h)) }

-- a whole size, with its CR
pub size_run : (ds rest : Text) (n room read : ℕ) → Says ds n →
    Leads (fresh room read) (ds ++ (13 ∷ rest)) [] (length ds + 1) (in_phase (SizeLf read n) room (read + length ds + 1)) rest
size_run ds rest n room read says =
    let so = says_so ds n says in
    let some : 0 < 0 + length ds = omega (arith, so.0) in
    let few : 0 + length ds ≤ 5 = omega (arith, so.1) in
    then (digits_run ds (13 ∷ rest) read 0 0 n room read (omega arith) few so.2) (cr_run read (0 + length ds) n room (read + length ds) rest some)

-- the LF after the size of a chunk
lf_run : (first n room read : ℕ) (xs : Text) → 0 < n → n ≤ room → Leads (in_phase (SizeLf first n) room read) (10 ∷ xs) [] 1 (in_phase (Bytes n) (room - n) (read + 1)) xs
unfolding run
lf_run first n room read xs h k =
    let s = in_phase (SizeLf first n) room read in
    let differ : n ≡ 0 → ⊥ = λ e. omega arith in
    record {
      so = ap (λ (z : Stepped). go s z (λ t. run t xs)) (cond-false (eqb n 0) _ _ (ne_eqb n 0 differ) ∙ cond-true (leb n room) (Ok (On (in_phase (Bytes n) (room - n) (read + 1)))) _ (le-leb n room k));
    }

-- its bytes
bytes_run : (bs xs : Text) (room read : ℕ) → Leads (in_phase (Bytes (length bs)) room read) (bs ++ xs) bs (length bs) (in_phase (Bytes 0) room (read + length bs)) xs
bytes_run bs xs room read =
    let n = length bs in
    let there : length bs ≤ length (bs ++ xs) = omega (arith, length-append bs xs) in
    let own : length bs ≤ length bs = omega arith in
    let none : length bs - length bs ≡ 0 = omega arith in
    record { so = run_bytes n room read n (bs ++ xs) own there ∙ rw (take_at bs xs n refl, drop_at bs xs n refl, none) }

-- the CR LF after them
end_run : (room read : ℕ) (xs : Text) → Leads (in_phase (Bytes 0) room read) (13 ∷ 10 ∷ xs) [] 2 (fresh room (read + 2)) xs
unfolding run
end_run room read xs =
    let two : read + 1 + 1 ≡ read + 2 = omega arith in
    record { so = after_after [] [] 1 1 (run (fresh room (read + 1 + 1)) xs) ∙ rw two }

pub chunk_run : (c : Part) (more : Text) (room read : ℕ) → Right c → length c.bytes ≤ room →
    Leads (fresh room read) (sent c ++ more) c.bytes (length (sent c)) (fresh (room - length c.bytes) (read + length (sent c))) more
chunk_run c more room read h fit =
    let ds = c.size in
    let bs = c.bytes in
    let n = length bs in
    let d = length ds in
    let room' = room - n in
    let text : sent c ++ more ≡ ds ++ (13 ∷ 10 ∷ (bs ++ (13 ∷ 10 ∷ more))) = simp append_assoc in
    let long : length (sent c) ≡ d + 1 + (1 + (n + 2)) = omega (arith, length-append ds (crlf ++ (bs ++ crlf)), length-append bs crlf) in
    let place : read + d + 1 + 1 + n + 2 ≡ read + length (sent c) = omega arith in
    let all = then (size_run ds (10 ∷ (bs ++ (13 ∷ 10 ∷ more))) n room read h.0) (then (lf_run read n room (read + d + 1) (bs ++ (13 ∷ 10 ∷ more)) h.1 fit) (then (bytes_run bs (13 ∷ 10 ∷ more) room' (read + d + 1 + 1)) (end_run room' (read + d + 1 + 1 + n) more))) in
    record {
      so =
          ap (run (fresh room read)) text
          ∙ all.so
          ∙ ap (λ l. after l (d + 1 + (1 + (n + 2))) (run (fresh room' (read + d + 1 + 1 + n + 2)) more)) (append-nil bs)
          ∙ ap (λ m. after bs (d + 1 + (1 + (n + 2))) (run (fresh room' m) more)) place
          ∙ ap (λ m. after bs m (run (fresh room' (read + length (sent c))) more)) (sym long);
    }

pub chunks_run : (cs : List Part) (more : Text) (room read : ℕ) → AllRight cs → length (all_bytes cs) ≤ room →
    Leads (fresh room read) (all_sent cs ++ more) (all_bytes cs) (length (all_sent cs)) (fresh (room - length (all_bytes cs)) (read + length (all_sent cs))) more
chunks_run [] more room read h fit = record { so = rw (sub-zero room, add-zero read) (sym (after_none (run (fresh room read) more))) }
chunks_run (c ∷ cs) more room read h fit =
    let all : length (all_bytes (c ∷ cs)) ≡ length c.bytes + length (all_bytes cs) = length-append c.bytes (all_bytes cs) in
    let text : length (all_sent (c ∷ cs)) ≡ length (sent c) + length (all_sent cs) = length-append (sent c) (all_sent cs) in
    let one : length c.bytes ≤ room = omega arith in
    let rest : length (all_bytes cs) ≤ room - length c.bytes = omega arith in
    let less : room - length c.bytes - length (all_bytes cs) ≡ room - length (all_bytes (c ∷ cs)) = omega arith in
    let place : read + length (sent c) + length (all_sent cs) ≡ read + length (all_sent (c ∷ cs)) = omega arith in
    let both = then (chunk_run c (all_sent cs ++ more) room read h.0 one) (chunks_run cs more (room - length c.bytes) (read + length (sent c)) h.1 rest) in
    record {
      so =
          ap (run (fresh room read)) (append_assoc (sent c) (all_sent cs) more)
          ∙ both.so
          ∙ ap (λ m. after (all_bytes (c ∷ cs)) m (run (fresh (room - length c.bytes - length (all_bytes cs)) (read + length (sent c) + length (all_sent cs))) more)) (sym text)
          ∙ ap (λ m. after (all_bytes (c ∷ cs)) (length (all_sent (c ∷ cs))) (run (fresh m (read + length (sent c) + length (all_sent cs))) more)) less
          ∙ ap (λ m. after (all_bytes (c ∷ cs)) (length (all_sent (c ∷ cs))) (run (fresh (room - length (all_bytes (c ∷ cs))) m) more)) place;
    }

-- the last chunk, from its LF on
tail_run : (first room read : ℕ) (rest : Text) → run (in_phase (SizeLf first 0) room read) (10 ∷ 13 ∷ 10 ∷ rest) ≡ stop (in_phase LastLf room (read + 1 + 1 + 1)) 3 Whole
unfolding run
tail_run first room read rest = refl

pub last_run : (z rest : Text) (room read : ℕ) → Says z 0 → run (fresh room read) (z ++ (13 ∷ 10 ∷ 13 ∷ 10 ∷ rest)) ≡ stop (in_phase LastLf room (read + (length z + 4))) (length z + 4) Whole
last_run z rest room read says =
    let count : length z + 1 + 3 ≡ length z + 4 = omega arith in
    let place : read + length z + 1 + 1 + 1 + 1 ≡ read + (length z + 4) = omega arith in
    (size_run z (10 ∷ 13 ∷ 10 ∷ rest) 0 room read says).so
    ∙ ap (after [] (length z + 1)) (tail_run read room (read + length z + 1) rest)
    ∙ ap (λ m. stop (in_phase LastLf room m) (length z + 1 + 3) Whole) place
    ∙ ap (λ m. stop (in_phase LastLf room (read + (length z + 4))) m Whole) count

pub read : ChunksRead
read t b rest room at g fits =
    let cs = g.chunks in
    let z = g.zeros in
    let a = length (all_sent cs) in
    let tail = z ++ (13 ∷ 10 ∷ 13 ∷ 10 ∷ rest) in
    let fit : length (all_bytes g.chunks) ≤ room = omega (arith, ap length g.holds) in
    let text : (all_sent cs ++ (z ++ (crlf ++ crlf))) ++ rest ≡ all_sent cs ++ tail = simp append_assoc in
    let long : length t ≡ length (all_sent g.chunks) + (length g.zeros + 4) =
    ap length g.text ∙ omega (arith, length-append (all_sent g.chunks) (g.zeros ++ (crlf ++ crlf)), length-append g.zeros (crlf ++ crlf)) in
    let place : at + length (all_sent g.chunks) + (length g.zeros + 4) ≡ at + length t = omega arith in
    ap (λ l. run (fresh room at) (l ++ rest)) g.text
    ∙ ap (run (fresh room at)) text
    ∙ (chunks_run cs tail room at g.right fit).so
    ∙ ap (after (all_bytes cs) a) (last_run z rest (room - length (all_bytes cs)) (at + a) g.last)
    ∙ ap (λ l. record { chunk = in_phase LastLf (room - length (all_bytes cs)) (at + a + (length z + 4)); body = l; taken = a + (length z + 4); outcome = Whole }) (append-nil (all_bytes cs))
    ∙ ap (λ l. record { chunk = in_phase LastLf (room - length l) (at + a + (length z + 4)); body = l; taken = a + (length z + 4); outcome = Whole }) (sym g.holds)
    ∙ ap (λ m. record { chunk = in_phase LastLf (room - length b) m; body = b; taken = a + (length z + 4); outcome = Whole }) place
    ∙ ap (λ m. record { chunk = in_phase LastLf (room - length b) (at + length t); body = b; taken = m; outcome = Whole }) (sym long)
