-- However many bytes have come, a fair reader has read the requests that lie whole in them, and no other.
use Rattle.std.proofs.Common.{◌≡◌, ℕ, zero, suc, ◌+◌, ◌-◌, ◌<◌, ◌≤◌, T, leb, List, [], ◌∷◌, ◌++◌, length, take, drop, Ok, Err, Result, sym, refl, ap, ◌∙◌, inl, inr, arith}
use lib.Seq.{take-append-add, take-nil}
use Rattle.std.proofs.lemmas.List.{append-nil, length-append, take_at, take-append-le}
use Rattle.std.proofs.lemmas.Bool.{cases_lt, cond-true, cond-false, le-leb, lt-leb}
use Rattle.text.specs.Bytes.{Text, all}
use Rattle.request.specs.Canonical.{Req, canonical, all_canonical, write, writes, head_lines, as_sent, all_sent}
use Rattle.request.specs.Writing.{Written}
use Rattle.request.specs.declared.canonical.Full.{Full}
use Rattle.reader.specs.Reader.{Reader, Fair, More, head_of, on_line, on_head, on_got, read_one, read_many, read_all}
use Rattle.reader.specs.Laws.{ReadsSo, Understood, within}
use Rattle.text.proofs.Passing.{and_l, and_r}
use Rattle.reader.proofs.Takes.{takes_one, waits, many_bytes}

module _ (r : Reader) (f : Fair r) where
  -- what comes to nothing: no bytes, and a request of which not all has come
  none_read : (k : ℕ) → read_many k r [] ≡ []
  unfolding read_many read_one head_of all
  none_read zero = refl
  none_read (suc k) = ap (λ c. on_got (λ t. read_many k r t) (on_head r (λ t. More) (on_line (λ t. head_of 0 r t) c))) (f.part_line [] tt (omega arith))

  first_part : (q : Req) → T (canonical q) → (k n : ℕ) → n < length (write q) → read_many k r (take n (write q)) ≡ []
  unfolding read_many
  first_part q c zero n h = refl
  first_part q c (suc k) n h = ap (on_got (λ t. read_many k r t)) (waits r f q c n (suc (length (take n (write q)))) h)

  -- a request that has come whole, and what is read behind it
  first_whole : (q : Req) → T (canonical q) → (k : ℕ) (t : Text) (more : List Req) → length (write q ++ t) ≤ k → ((j : ℕ) → length t ≤ j → read_many j r t ≡ more) → read_many k r (write q ++ t) ≡ as_sent q ∷ more
  unfolding read_many
  first_whole q c zero t more h e = absurd (omega (arith, many_bytes (head_lines q) q.body, length-append (write q) t))
  first_whole q c (suc k) t more h e =
      let long = length-append (write q) t in
      ap (on_got (λ t. read_many k r t)) (takes_one r f q c t (length (write q ++ t))) ∙ ap (λ qs. as_sent q ∷ qs) (e k (omega (arith, many_bytes (head_lines q) q.body)))

  reads : (qs : List Req) → T (all_canonical qs) → (n k : ℕ) → length (take n (writes qs)) ≤ k → read_many k r (take n (writes qs)) ≡ all_sent (within n qs)
  unfolding all_canonical writes within all_sent
  reads [] c n k h = ap (read_many k r) (take-nil n) ∙ none_read k
  reads (q ∷ qs) c n k h =
      let own = and_l (canonical q) (all_canonical qs) c in
      elim (cases_lt n (length (write q))) [
        | inl a ↦
            ap (read_many k r) (take-append-le n (write q) (writes qs) (omega arith)) ∙ first_part q own k n a ∙
            sym (ap all_sent (cond-false (leb (length (write q)) n) (q ∷ within (n - length (write q)) qs) [] (lt-leb (length (write q)) n a)))
        | inr a ↦
            let m : ℕ = n - length (write q) in
            let e : n ≡ length (write q) + (n - length (write q)) = omega arith in
            let cut : take n (write q ++ writes qs) ≡ write q ++ take m (writes qs) = ap (λ i. take i (write q ++ writes qs)) e ∙ take-append-add (write q) (writes qs) m in
            ap (read_many k r) cut
            ∙ first_whole q own k (take m (writes qs)) (all_sent (within m qs)) (rw cut at h) (λ j l. reads qs (and_r (canonical q) (all_canonical qs) c) m j l)
            ∙ sym (ap all_sent (cond-true (leb (length (write q)) n) (q ∷ within m qs) [] (le-leb (length (write q)) n a)))
      ]

pub reads_so : ReadsSo
reads_so r f qs c k = reads r f qs c k (length (take k (writes qs))) (omega arith)

pub understood : (q : Req) (xs then : Text) (o : Result ℕ Full) → Written (write q) xs then o → Understood q then o
understood q xs then (Err full) w = tt
understood q xs then (Ok n) w = λ c r f.
    let ys = write q in
    let rest = drop (length (write q)) xs in
    let all : take n then ≡ ys ++ [] = ap (take n) w.2 ∙ take_at ys rest n (sym w.0) ∙ sym (append-nil ys) in
    let part : (k : ℕ) → k < n → take k then ≡ take k ys = λ k h. ap (take k) w.2 ∙ take-append-le k ys rest (omega (arith, w.0)) in (
      ap (read_all r) all ∙ first_whole r f q c (length (ys ++ [])) [] [] (omega arith) (λ j l. none_read r f j),
      λ k h. ap (read_all r) (part k h) ∙ first_part r f q c (length (take k ys)) k (omega (arith, w.0)),
    )
