-- What a memory holds after a write to a place in it.
use Rattle.std.proofs.Common.{◌≡◌, ℕ, ◌+◌, ◌-◌, ◌≤◌, ◌++◌, length, take, drop, sym, refl, ap, ◌∙◌, arith}
use borrow.Rule.Slice.PartMut.{put_mid}
use Rattle.std.proofs.lemmas.List.{length-append, length-take-le, length-drop, take-take, drop_at, drop-drop, drop-take}
use Rattle.std.proofs.lemmas.Slice.{take-put_mid_below, take-put_mid, drop-put_mid}
use Rattle.text.specs.Bytes.{Text}
use Rattle.request.specs.Reading.{placed_at}

-- a part that lies in the front of a text
pub part_within : (n m k : ℕ) (xs : Text) → m + n ≤ k → take n (drop m (take k xs)) ≡ take n (drop m xs)
part_within n m k xs h =
    let far : k ≡ m + (k - m) = omega arith in
    let le : n ≤ k - m = omega arith in
    ap (λ i. take n (drop m (take i xs))) far ∙ ap (take n) (drop-take m (k - m) xs) ∙ take-take n (k - m) (drop m xs) le

-- texts that agree in front agree in a shorter front
pub front_within : (n k : ℕ) (xs ys : Text) → n ≤ k → take k xs ≡ ys → take n xs ≡ take n ys
front_within n k xs ys h e = sym (take-take n k xs h) ∙ ap (take n) e

module _ (n : ℕ) (ys xs : Text) (room : n + length ys ≤ length xs) where
  front_long : length (take n xs) ≡ n
  front_long = length-take-le n xs (omega arith)

  pub placed_long : length (placed_at n ys xs) ≡ length xs
  placed_long = simp (length-append, length-drop) (omega (arith, front_long))

  -- as the library has it
  is_put : placed_at n ys xs ≡ put_mid n (length ys) xs ys
  is_put = ap (λ zs. take n xs ++ (ys ++ zs)) (sym (drop-drop (length ys) n xs))

  inside : n ≤ length xs
  inside = omega arith

  -- what lies before it is as it was
  pub placed_before : (k : ℕ) → k ≤ n → take k (placed_at n ys xs) ≡ take k xs
  placed_before k h = ap (take k) is_put ∙ take-put_mid_below n (length ys) xs ys k h inside

  -- and what was written stands behind it
  pub placed_there : drop n (placed_at n ys xs) ≡ ys ++ drop (n + length ys) xs
  placed_there = drop_at (take n xs) (ys ++ drop (n + length ys) xs) n front_long

  pub placed_upto : take (n + length ys) (placed_at n ys xs) ≡ take n xs ++ ys
  placed_upto = ap (take (n + length ys)) is_put ∙ take-put_mid n (length ys) xs ys (n + length ys) refl inside

  -- what lies behind that is as it was
  pub placed_behind : (k : ℕ) → n + length ys ≤ k → drop k (placed_at n ys xs) ≡ drop k xs
  placed_behind k h = ap (drop k) is_put ∙ drop-put_mid n (length ys) xs ys k h inside refl
