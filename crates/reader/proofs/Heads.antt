-- A fair reader takes the lines of a head one by one up to the empty line, and waits where the head is cut short.
use Rattle.std.proofs.Common.{◌≡◌, ℕ, zero, suc, ◌+◌, ◌-◌, ◌<◌, ◌≤◌, T, List, [], ◌∷◌, ◌++◌, length, take, refl, ap, ◌∙◌, inl, inr, arith}
use lib.Seq.{take-append-add}
use Rattle.std.specs.List.{AllByRecursion}
use Rattle.std.proofs.lemmas.List.{append_assoc, length-append, length-take-le, take-append-le}
use Rattle.std.proofs.lemmas.Bool.{cases_lt}
use Rattle.text.specs.Bytes.{Text, all, clean, nonempty}
use Rattle.message.specs.Fields.{lines_of}
use Rattle.request.specs.Canonical.{head_limit}
use Rattle.reader.specs.Reader.{Reader, Fair, Line, Head, HeadMore, HeadOf, head_of, on_line, put_line}
use Rattle.text.proofs.Passing.{not_end, all_take}

-- lines that a head can have
abbrev pub Lines : List Text → Type 0
Lines ls = AllByRecursion (λ l. T (nonempty l) × T (clean l)) ls

-- lines and the empty line, followed by s
abbrev pub headed : List Text → Text → Text
headed ls s = lines_of ls ++ (13 ∷ 10 ∷ s)

headed_more : (l : Text) (ls : List Text) (s : Text) → headed (l ∷ ls) s ≡ l ++ (13 ∷ 10 ∷ headed ls s)
unfolding lines_of
headed_more l ls s = append_assoc l (13 ∷ 10 ∷ lines_of ls) (13 ∷ 10 ∷ s)

-- a text that has an end of line behind l, cut off behind that
pub take_ended : (l s : Text) (n : ℕ) → length l + 2 ≤ n → take n (l ++ (13 ∷ 10 ∷ s)) ≡ l ++ (13 ∷ 10 ∷ take (n - (length l + 2)) s)
take_ended l s n h =
    let e : n ≡ length l + suc (suc (n - (length l + 2))) = omega arith in
    ap (λ k. take k (l ++ (13 ∷ 10 ∷ s))) e ∙ take-append-add l (13 ∷ 10 ∷ s) (suc (suc (n - (length l + 2))))

-- a line goes in front of the head behind it
put : (go : Text → Head) (l s : Text) (h : Head) → T (nonempty l) → go s ≡ h → on_line go (Line l s) ≡ put_line l h
unfolding nonempty
put go [] s h n e = absurd n
put go (c ∷ l) s h n e = ap (put_line (c ∷ l)) e

module _ (r : Reader) (f : Fair r) where
  -- a line that has come whole, and one that is cut short
  line_whole : (k : ℕ) (l s : Text) (h : Head) → T (nonempty l) × T (clean l) → length l ≤ head_limit → head_of k r s ≡ h → head_of (suc k) r (l ++ (13 ∷ 10 ∷ s)) ≡ put_line l h
  unfolding head_of
  line_whole k l s h p m e = ap (on_line (λ t. head_of k r t)) (f.whole_line l s p.1 m) ∙ put (λ t. head_of k r t) l s h p.0 e

  line_part : (k : ℕ) (l s : Text) (n : ℕ) → T (clean l) → length l ≤ head_limit → n < length l + 2 → head_of (suc k) r (take n (l ++ (13 ∷ 10 ∷ s))) ≡ HeadMore
  unfolding head_of
  line_part k l s n c m h = ap (on_line (λ t. head_of k r t)) (elim (cases_lt (length l) n) [
    | inl a ↦
        let e : n ≡ length l + 1 = omega arith in
        ap (λ i. r.split (take i (l ++ (13 ∷ 10 ∷ s)))) e ∙ ap r.split (take-append-add l (13 ∷ 10 ∷ s) 1) ∙ f.part_end l c m
    | inr a ↦ ap r.split (take-append-le n l (13 ∷ 10 ∷ s) a) ∙ f.part_line (take n l) (all_take not_end n l c) (omega (arith, length-take-le n l a))
  ])

  -- and a head, of which no line is longer than all of it
  pub head_whole : (k : ℕ) (ls : List Text) (s : Text) → Lines ls → length (lines_of ls) ≤ head_limit → length ls < k → head_of k r (headed ls s) ≡ HeadOf ls s
  unfolding head_of lines_of all
  head_whole zero ls s h m l = absurd (omega arith)
  head_whole (suc k) [] s h m l = ap (on_line (λ t. head_of k r t)) (f.whole_line [] s tt (omega arith))
  head_whole (suc k) (x ∷ ls) s h m l =
      let long = length-append x (13 ∷ 10 ∷ lines_of ls) in
      ap (head_of (suc k) r) (headed_more x ls s) ∙ line_whole k x (headed ls s) (HeadOf ls s) h.0 (omega arith) (head_whole k ls s h.1 (omega arith) (omega arith))

  pub head_part : (k : ℕ) (ls : List Text) (s : Text) (n : ℕ) → Lines ls → length (lines_of ls) ≤ head_limit → n < length (lines_of ls) + 2 → head_of k r (take n (headed ls s)) ≡ HeadMore
  unfolding head_of lines_of all
  head_part zero ls s n h m l = refl
  head_part (suc k) [] s n h m l = line_part k [] s n tt (omega arith) l
  head_part (suc k) (x ∷ ls) s n h m l =
      let long = length-append x (13 ∷ 10 ∷ lines_of ls) in
      ap (λ t. head_of (suc k) r (take n t)) (headed_more x ls s) ∙ elim (cases_lt n (length x + 2)) [
        | inl a ↦ line_part k x (headed ls s) n h.0.1 (omega arith) a
        | inr a ↦
            let i = n - (length x + 2) in
            ap (head_of (suc k) r) (take_ended x (headed ls s) n a) ∙
            line_whole k x (take i (headed ls s)) HeadMore h.0 (omega arith) (head_part k ls s i h.1 (omega arith) (omega arith))
      ]
