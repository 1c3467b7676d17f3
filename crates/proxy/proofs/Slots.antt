-- The slots of a slab of which one is written.
use Rattle.std.proofs.Common.{◌≡◌, ◌≢◌, ℕ, suc, ◌+◌, ◌*◌, ◌<◌, ◌≤◌, length, take, drop, sym, ap, ◌∙◌, inl, inr, arith}
use borrow.Rule.Slice.PartMut.{put_mid}
use Rattle.std.proofs.Math.Nat.{suc-mul, mul-le-mul_right}
use Rattle.std.proofs.lemmas.Bool.{cases_lt}
use Rattle.std.proofs.lemmas.List.{length-append, length-take-le, length-drop, drop_at, drop-take}
use Rattle.std.proofs.lemmas.Slice.{take-put_mid_below, take-put_mid, drop-put_mid}
use Rattle.text.specs.Bytes.{Text}
use Rattle.request.specs.Reading.{memory_size}
use Rattle.proxy.specs.Slots.{slot_in, slab_size}

-- slots of any size n: one that stands before another ends before it begins
slot_before : (n i j : ℕ) → i < j → i * n + n ≤ j * n
slot_before n i j h = omega (arith, suc-mul i n, mul-le-mul_right {m = suc i} {n = j} n h)

-- a place of n bytes from a on, in a memory that has it, is written
module _ (a n k : ℕ) (xs ys : Text) (room : a + n ≤ length xs) (long : length ys ≡ n) where
  -- it begins in the memory, with so many bytes before it
  inside : a ≤ length xs
  inside = omega arith

  front_long : length (take a xs) ≡ a
  front_long = length-take-le a xs inside

  -- what was written stands there
  part_here : take n (drop a (put_mid a k xs ys)) ≡ ys
  part_here =
      sym (drop-take a n (put_mid a k xs ys)) ∙ ap (drop a) (take-put_mid a k xs ys (a + n) (ap (λ m. a + m) (sym long)) inside) ∙ drop_at (take a xs) ys a front_long

  -- a place that ends before it is as it was
  part_below : (b : ℕ) → b + n ≤ a → take n (drop b (put_mid a k xs ys)) ≡ take n (drop b xs)
  part_below b h =
      sym (drop-take b n (put_mid a k xs ys)) ∙ ap (drop b) (take-put_mid_below a k xs ys (b + n) h inside) ∙ drop-take b n xs

  -- and so is one that begins behind it
  part_behind : (b : ℕ) → k ≡ n → a + n ≤ b → take n (drop b (put_mid a k xs ys)) ≡ take n (drop b xs)
  part_behind b e h = ap (take n) (drop-put_mid a k xs ys b (omega arith) inside (omega arith))

  -- the memory stays as long as it was
  part_long : k ≡ n → length (put_mid a k xs ys) ≡ length xs
  part_long e = simp (length-append, length-drop) (omega (arith, front_long))

-- a place that lies in a memory is as long as it should be
place_long : (a n : ℕ) (xs : Text) → a + n ≤ length xs → length (take n (drop a xs)) ≡ n
place_long a n xs h = length-take-le n (drop a xs) (omega (arith, length-drop a xs))

-- a slot of any size n, where another is written
part_there : (n i j k : ℕ) (xs ys : Text) → k ≡ n → length ys ≡ n → i * n + n ≤ length xs → j ≢ i →
    take n (drop (j * n) (put_mid (i * n) k xs ys)) ≡ take n (drop (j * n) xs)
part_there n i j k xs ys e long room other =
    elim (cases_lt j i) [
      | inl h ↦ part_below (i * n) n k xs ys room long (j * n) (slot_before n j i h)
      | inr h ↦ let more : i < j = omega (arith, other) in part_behind (i * n) n k xs ys room long (j * n) e (slot_before n i j more)
    ]

-- THE SLOTS OF THE SLAB

-- the slot that is written holds what was written
pub slot_here : (i k : ℕ) (memory ys : Text) → k ≡ memory_size → length ys ≡ memory_size → i * memory_size + memory_size ≤ length memory →
    slot_in i (put_mid (i * memory_size) k memory ys) ≡ ys
slot_here i k memory ys e long room = part_here (i * memory_size) memory_size k memory ys room long

-- each other slot is as it was
pub slot_there : (i j k : ℕ) (memory ys : Text) → k ≡ memory_size → length ys ≡ memory_size → i * memory_size + memory_size ≤ length memory → j ≢ i →
    slot_in j (put_mid (i * memory_size) k memory ys) ≡ slot_in j memory
slot_there i j k memory ys e long room other = part_there memory_size i j k memory ys e long room other

-- the slab is as long as it was
pub put_long : (i k : ℕ) (memory ys : Text) → k ≡ memory_size → length ys ≡ memory_size → i * memory_size + memory_size ≤ length memory →
    length (put_mid (i * memory_size) k memory ys) ≡ length memory
put_long i k memory ys e long room = part_long (i * memory_size) memory_size k memory ys room long e

-- each of the 24 slots lies in the slab
pub slot_within : (i : ℕ) (memory : Text) → length memory ≡ slab_size → i < 24 → i * memory_size + memory_size ≤ length memory
unfolding slab_size
slot_within i memory size h = rw size (slot_before memory_size i 24 h)

-- and has the size of a slot
pub slot_long : (i : ℕ) (memory : Text) → length memory ≡ slab_size → i < 24 → length (slot_in i memory) ≡ memory_size
slot_long i memory size h = place_long (i * memory_size) memory_size memory (slot_within i memory size h)
