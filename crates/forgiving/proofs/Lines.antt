-- Lines as they are searched for: an end at a place, and none before it.
use Rattle.std.proofs.Common.{◌≡◌, ℕ, zero, suc, ◌+◌, ◌<◌, Bool, true, false, cond, ◌&&◌, eqb, ltb, [], ◌∷◌, length, take, drop, refl, ap, ◌∙◌, arith}
use Rattle.std.proofs.lemmas.Bool.{cond-true, lt-ltb}
use Rattle.text.specs.Bytes.{Text}
use Rattle.reader.specs.Reader.{Cut, Short, Line}
use Rattle.reader.specs.Strict.{before, split_line}
use Rattle.forgiving.specs.Readers.{common_end, split_by, reader_with}
use Rattle.forgiving.specs.Parts.{end_by}
use Rattle.forgiving.specs.declared.habit.Habit.{Habit}
use Rattle.forgiving.specs.declared.habit.Habit.TheVariants.{LoneLf, LoneCr, EmptyLines, SpaceBeforeColon, LowLine, GoesOn, Octal, FirstLength, LastLength, AddedLengths, GetBody, NoChunks, UndoneTwice, CutParts}

module _ (ends : Text → ℕ) where
  -- where the first end stands
  pub split_at : (t : Text) (i : ℕ) → i < length t → ((k : ℕ) → k < i → ends (drop k t) ≡ 0) → 0 < ends (drop i t) → split_by ends t ≡ Line (take i t) (drop (i + ends (drop i t)) t)
  unfolding split_by
  split_at [] i h none some = absurd (omega arith)
  split_at (c ∷ t) zero h none some = cond-true (ltb 0 (ends (c ∷ t))) _ _ (lt-ltb 0 (ends (c ∷ t)) some) ∙ ap (λ n. Line [] (drop n (c ∷ t))) (omega arith)
  split_at (c ∷ t) (suc i) h none some =
      let later : suc i + ends (drop i t) ≡ suc (i + ends (drop i t)) = omega arith in
      let first : ends (c ∷ t) ≡ 0 = none 0 (omega arith) in
      rw (first, later) (ap (before c) (split_at t i (omega arith) (λ k l. none (suc k) (omega arith)) some))

  pub split_none : (t : Text) → ((k : ℕ) → k < length t → ends (drop k t) ≡ 0) → split_by ends t ≡ Short
  unfolding split_by
  split_none [] none = refl
  split_none (c ∷ t) none =
      let first : ends (c ∷ t) ≡ 0 = none 0 (omega arith) in
      rw first (ap (before c) (split_none t (λ k l. none (suc k) (omega arith))))

-- lines that CR LF ends
at_pair : (b : Bool) (c : ℕ) (s : Text) (more : Cut) → cond b (Line [] (drop 2 s)) more ≡ cond (ltb 0 (cond b 2 0)) (Line [] (drop (cond b 2 0) s)) more
at_pair true c s more = refl
at_pair false c s more = refl

strictly : (t : Text) → split_line t ≡ split_by common_end t
unfolding split_line split_by
strictly [] = refl
strictly (c ∷ []) = refl
strictly (c ∷ d ∷ t) = at_pair (eqb c 13 && eqb d 10) c (c ∷ d ∷ t) (before c (split_line (d ∷ t))) ∙ ap (λ m. cond (ltb 0 (common_end (c ∷ d ∷ t))) (Line [] (drop (common_end (c ∷ d ∷ t)) (c ∷ d ∷ t))) (before c m)) (strictly (d ∷ t))

-- each reader cuts lines at the ends that its habit knows
pub split_with : (h : Habit) (t : Text) → (reader_with h).split t ≡ split_by (end_by h) t
split_with LoneLf t = refl
split_with LoneCr t = refl
split_with EmptyLines t = strictly t
split_with SpaceBeforeColon t = strictly t
split_with LowLine t = strictly t
split_with GoesOn t = strictly t
split_with Octal t = strictly t
split_with FirstLength t = strictly t
split_with LastLength t = strictly t
split_with AddedLengths t = strictly t
split_with GetBody t = strictly t
split_with NoChunks t = strictly t
split_with UndoneTwice t = strictly t
split_with CutParts t = strictly t
