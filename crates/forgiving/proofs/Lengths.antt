-- Values, and what they are worth, taken one by one.
use Rattle.std.proofs.Common.{◌≡◌, ℕ, ◌+◌, ◌*◌, ◌^◌, ◌<◌, ◌≤◌, true, false, cond, List, [], ◌∷◌, ◌++◌, length, get_or, drop, Some, refl, sym, ap, ◌∙◌, append_assoc, arith, pow-add}
use native.Mathlib.Nat.{pow-le-pow_right}
use Rattle.std.proofs.lemmas.List.{drop_more, drop_all}
use Rattle.std.proofs.lemmas.Bool.{cond-true, cond-false}
use Rattle.text.specs.Bytes.{Text, same, capped}
use Rattle.text.specs.Numerals.{on_digit, number_of}
use Rattle.text.specs.declared.numeral.Base.TheVariants.{Decimal}
use Rattle.std.specs.Borrow.{Bor}
use Rattle.reader.specs.Strict.{values_of}
use Rattle.forgiving.specs.Readers.{octal_digit, octal_after, added_after}
use Rattle.forgiving.specs.Parts.{length_by}
use Rattle.forgiving.specs.Held.{texts, view_field, view_fields}
use Rattle.forgiving.specs.declared.habit.Habit.{Habit}
use Rattle.forgiving.specs.declared.habit.Habit.TheVariants.{LoneLf, LoneCr, EmptyLines, SpaceBeforeColon, LowLine, GoesOn, Octal, FirstLength, LastLength, AddedLengths, GetBody, NoChunks, UndoneTwice, CutParts}
use Rattle.forgiving.specs.declared.field.Field.{Field as Held}

-- the values of fields from the i-th on
pub all_values : (n : Text) (fs : List Held) (i : ℕ) → length fs ≤ i → values_of n (view_fields (drop i fs)) ≡ []
unfolding values_of
all_values n fs i h = rw (drop_all i fs h)

one_value : (n : Text) (fs : List Held) (i : ℕ) (d : Held) → i < length fs →
    values_of n (view_fields (drop i fs)) ≡ cond (same (view_field (get_or fs i d)).name n) ((view_field (get_or fs i d)).value ∷ values_of n (view_fields (drop (i + 1) fs))) (values_of n (view_fields (drop (i + 1) fs)))
unfolding values_of
one_value n fs i d h = rw (drop_more fs i d h)

-- a field of the name, and one of another
module _ (n : Text) (fs : List Held) (i : ℕ) (f : Held) (vs all : List Text) (h : i < length fs) (is : f ≡ get_or fs i f) (so : all ≡ vs ++ values_of n (view_fields (drop i fs))) where
  abbrev later : List Text
  later = values_of n (view_fields (drop (i + 1) fs))

  here : all ≡ vs ++ cond (same (view_field f).name n) ((view_field f).value ∷ later) later
  here = so ∙ ap (λ ts. vs ++ ts) (one_value n fs i f h ∙ ap (λ g. cond (same (view_field g).name n) ((view_field g).value ∷ later) later) (sym is))

  pub this_value : same (view_field f).name n ≡ true → all ≡ (vs ++ ((view_field f).value ∷ [])) ++ later
  this_value e = here ∙ ap (λ ts. vs ++ ts) (cond-true _ _ _ e) ∙ sym (append_assoc vs ((view_field f).value ∷ []) later)

  pub other_value : same (view_field f).name n ≡ false → all ≡ vs ++ later
  other_value e = here ∙ ap (λ ts. vs ++ ts) (cond-false _ _ _ e)

-- octal digits from the i-th on
pub one_octal : (n i : ℕ) (t : Text) → i < length t → octal_after n (drop i t) ≡ on_digit (octal_digit (get_or t i 0)) (λ d. octal_after (n * 8 + d) (drop (i + 1) t))
unfolding octal_after
one_octal n i t h = rw (drop_more t i 0 h)

pub all_octal : (n i : ℕ) (t : Text) → length t ≤ i → octal_after n (drop i t) ≡ Some n
unfolding octal_after
all_octal n i t h = rw (drop_all i t h)

-- few digits are worth little
pub grows : (v d i : ℕ) → v < 8 ^ i → d < 8 → v * 8 + d < 8 ^ (i + 1)
grows v d i h l = rw (pow-add 8 i 1) (omega arith)

pub bounded : (i : ℕ) → i ≤ 6 → 8 ^ i ≤ 262144
bounded i h = pow-le-pow_right {n = 8} (omega arith) {i = i} {j = 6} h

-- lengths from the i-th on
pub one_added : (n i : ℕ) (vs : List (Bor Text)) (d : Bor Text) → i < length vs → added_after n (texts (drop i vs)) ≡ on_digit (number_of Decimal (get_or vs i d).now) (λ m. added_after (capped (n + m)) (texts (drop (i + 1) vs)))
unfolding added_after
one_added n i vs d h = rw (drop_more vs i d h)

pub all_added : (n i : ℕ) (vs : List (Bor Text)) → length vs ≤ i → added_after n (texts (drop i vs)) ≡ Some n
unfolding added_after
all_added n i vs h = rw (drop_all i vs h)

-- no length
pub no_lengths : (h : Habit) (vs : List (Bor Text)) → length vs < 1 → Some 0 ≡ length_by h (texts vs)
unfolding added_after
no_lengths h (v ∷ vs) l = absurd (omega arith)
no_lengths LoneLf [] l = refl
no_lengths LoneCr [] l = refl
no_lengths EmptyLines [] l = refl
no_lengths SpaceBeforeColon [] l = refl
no_lengths LowLine [] l = refl
no_lengths GoesOn [] l = refl
no_lengths Octal [] l = refl
no_lengths FirstLength [] l = refl
no_lengths LastLength [] l = refl
no_lengths AddedLengths [] l = refl
no_lengths GetBody [] l = refl
no_lengths NoChunks [] l = refl
no_lengths UndoneTwice [] l = refl
no_lengths CutParts [] l = refl
