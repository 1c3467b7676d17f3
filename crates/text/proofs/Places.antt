-- What an output holds after one write, and after another to its free end.
use Rattle.std.proofs.Common.{◌≡◌, ℕ, ◌+◌, ◌-◌, ◌<◌, ◌≤◌, min, [], ◌++◌, map, length, take, drop, sym, ap, ap₂, ◌∙◌, ⊎_elim, append_assoc, arith}
use lib.Seq.{take-append-add, take-length}
use borrow.Rule.Slice.PartMut.{put_mid}
use Rattle.std.proofs.lemmas.List.{append-nil, length-append, length-map, length-take, length-take-le, length-drop, take-map, take_all, take-append-le, take_at, drop_at, drop_all, drop-drop, nil_from_length}
use Rattle.std.proofs.lemmas.Bool.{cases_lt}
use Rattle.text.specs.Bytes.{Text, placed, Wrote}

pub length_placed : (ys xs : Text) → length (placed ys xs) ≡ length xs
length_placed ys xs = simp (length-take, length-append, length-drop) (omega arith)

-- where there is room
pub placed_fits : (ys xs : Text) → length ys ≤ length xs → placed ys xs ≡ ys ++ drop (length ys) xs
placed_fits ys xs h = take_all (length xs) (ys ++ drop (length ys) xs) (simp (length-append, length-drop) (omega arith))

-- where there is not
pub placed_over : (ys xs : Text) → length xs ≤ length ys → placed ys xs ≡ take (length xs) ys
placed_over ys xs h = take-append-le (length xs) ys (drop (length ys) xs) h

pub wrote_front : (n : ℕ) (ys xs : Text) → n ≡ min (length ys) (length xs) → take (n - 0) ys ++ drop (n - 0) xs ≡ placed ys xs
wrote_front n ys xs e =
    ⊎_elim
    (λ h.
    let is : n - 0 ≡ length xs = omega arith in
    let all : length xs ≤ n - 0 = omega arith in
    let over : length xs ≤ length ys = omega arith in
    ap (λ zs. take (n - 0) ys ++ zs) (drop_all (n - 0) xs all) ∙ append-nil (take (n - 0) ys) ∙ ap (λ k. take k ys) is ∙ sym (placed_over ys xs over))
    (λ h.
    let is : n - 0 ≡ length ys = omega arith in
    let all : length ys ≤ n - 0 = omega arith in
    ap (λ zs. zs ++ drop (n - 0) xs) (take_all (n - 0) ys all) ∙ ap (λ k. ys ++ drop k xs) is ∙ sym (placed_fits ys xs h))
    (cases_lt (length xs) (length ys))

-- a write of two texts, where the first fits
both : (a b xs : Text) → length a ≤ length xs → placed (a ++ b) xs ≡ a ++ placed b (drop (length a) xs)
both a b xs h =
    let d = drop (length a) xs in
    let long : length xs ≡ length a + length d = simp length-drop (omega arith) in
    let rest : drop (length (a ++ b)) xs ≡ drop (length b) d = ap (λ k. drop k xs) (length-append a b) ∙ sym (drop-drop (length b) (length a) xs) in
    ap (λ zs. take (length xs) ((a ++ b) ++ zs)) rest ∙ ap (λ zs. take (length xs) zs) (append_assoc a b (drop (length b) d))
    ∙ ap (λ k. take k (a ++ (b ++ drop (length b) d))) long ∙ take-append-add a (b ++ drop (length b) d) (length d)

-- what a write of ps to the part of ys from n on leaves
at_end : (ys ps : Text) (n : ℕ) → length ys ≤ n + length ps → put_mid n (length ys - n) ys ps ≡ take n ys ++ ps
at_end ys ps n h =
    let past : length (drop n ys) ≤ length ys - n = simp length-drop (omega arith) in
    ap (λ zs. take n ys ++ (ps ++ zs)) (drop_all (length ys - n) (drop n ys) past) ∙ ap (λ zs. take n ys ++ zs) (append-nil ps)

-- nothing written
pub wrote_none : (xs : Text) → Wrote [] xs xs 0
wrote_none xs = record { holds = sym (take-length xs); count = omega arith }

-- the same write, of the same text under another form
pub wrote_as : {a b : Text} (xs ys : Text) (n : ℕ) → a ≡ b → Wrote a xs ys n → Wrote b xs ys n
wrote_as xs ys n e w = record { holds = w.holds ∙ ap (λ t. placed t xs) e; count = w.count ∙ ap (λ t. min (length t) (length xs)) e }

-- a write whose bytes are then changed one by one is a write of the changed text
pub wrote_changed : {ys xs then : Text} {n : ℕ} (f : ℕ → ℕ) → Wrote ys xs then n → Wrote (map f ys) xs (map f (take n then) ++ drop n then) n
wrote_changed {ys} {xs} {then} {n} f w =
    let none : n - 0 ≡ n = omega arith in
    let is : then ≡ take n ys ++ drop n xs = w.holds ∙ sym (wrote_front n ys xs w.count) ∙ ap (λ k. take k ys ++ drop k xs) none in
    let long : length (take n ys) ≡ n = length-take-le n ys (omega (arith, w.count)) in
    let front : map f (take n then) ≡ take n (map f ys) = ap (λ t. map f (take n t)) is ∙ ap (map f) (take_at (take n ys) (drop n xs) n long) ∙ sym (take-map f n ys) in
    let back : drop n then ≡ drop n xs = ap (drop n) is ∙ drop_at (take n ys) (drop n xs) n long in
    let count : n ≡ min (length (map f ys)) (length xs) = rw (length-map ys f) w.count in
    record {
      holds = ap₂ (λ s t. s ++ t) front back ∙ ap (λ k. take k (map f ys) ++ drop k xs) (sym none) ∙ wrote_front n (map f ys) xs count;
      count = count;
    }

module _ (a b xs ys part : Text) (n m : ℕ) (w : Wrote a xs ys n) (v : Wrote b (take (length ys - n) (drop n ys)) part m) where
  long : length ys ≡ length xs
  long = ap length w.holds ∙ length_placed a xs

  part_long : length part ≡ length ys - n
  part_long = ap length v.holds ∙ length_placed b (take (length ys - n) (drop n ys)) ∙ simp (length-take, length-drop) (omega arith)

  end : put_mid n (length ys - n) ys part ≡ take n ys ++ part
  end = at_end ys part n (omega (arith, part_long))

  more_fits : length a ≤ length xs → put_mid n (length ys - n) ys part ≡ placed (a ++ b) xs
  more_fits h =
      let is : length a ≡ n = omega (arith, w.count) in
      let d = drop (length a) xs in
      let was : ys ≡ a ++ d = w.holds ∙ placed_fits a xs h in
      let front : take n ys ≡ a = ap (take n) was ∙ take_at a d n is in
      let back : drop n ys ≡ d = ap (drop n) was ∙ drop_at a d n is in
      let past : length d ≤ length ys - n = simp length-drop (omega (arith, long)) in
      let free : take (length ys - n) (drop n ys) ≡ d = ap (take (length ys - n)) back ∙ take_all (length ys - n) d past in
      end ∙ ap (λ zs. zs ++ part) front ∙ ap (λ zs. a ++ zs) (v.holds ∙ ap (placed b) free) ∙ sym (both a b xs h)

  more_over : length xs < length a → put_mid n (length ys - n) ys part ≡ placed (a ++ b) xs
  more_over h =
      let is : n ≡ length xs = omega (arith, w.count) in
      let none : part ≡ [] = nil_from_length part (omega (arith, part_long, long)) in
      let all : length ys ≤ n = omega (arith, long) in
      let over : length xs ≤ length a = omega arith in
      let over-both : length xs ≤ length (a ++ b) = simp length-append (omega arith) in
      end ∙ ap (λ zs. take n ys ++ zs) none ∙ append-nil (take n ys) ∙ take_all n ys all ∙ w.holds ∙ placed_over a xs over
      ∙ sym (placed_over (a ++ b) xs over-both ∙ take-append-le (length xs) a b over)

  -- one write, and then another to the free end, are one write of both
  pub wrote_more : Wrote (a ++ b) xs (put_mid n (length ys - n) ys part) (n + m)
  wrote_more =
      record {
        holds = ⊎_elim more_over more_fits (cases_lt (length xs) (length a));
        count = simp length-append (omega (arith, w.count, simp (length-take, length-drop) at v.count, long));
      }

-- A write byte by byte, under way: n bytes are written, they and what is left to write are the whole, and what lies behind them is as it was.
pub record Writing (whole left xs out : Text) (n : ℕ) : Type 0 where
  pub long : length out ≡ length xs
  pub room : n ≤ length xs
  pub joined : take n out ++ left ≡ whole
  pub behind : drop n out ≡ drop n xs
