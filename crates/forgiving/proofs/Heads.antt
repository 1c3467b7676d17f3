-- The lines of a head, taken one by one.
use Rattle.std.proofs.Common.{◌≡◌, ℕ, zero, suc, ◌<◌, ltb, List, [], ◌∷◌, ◌++◌, length, drop, refl, sym, ap, ◌∙◌, subst, append_assoc, append-nil, arith}
use Rattle.std.proofs.lemmas.List.{length-drop}
use Rattle.std.proofs.lemmas.Bool.{cond_both, ltb-true}
use Rattle.text.specs.Bytes.{Text}
use Rattle.reader.specs.Reader.{Cut, Short, Line, Head, HeadMore, HeadOf, head_of, on_line, put_line}
use Rattle.reader.specs.Strict.{before}
use Rattle.forgiving.specs.Readers.{split_by, reader_with}
use Rattle.forgiving.specs.Parts.{end_by}
use Rattle.forgiving.specs.declared.habit.Habit.{Habit}
use Rattle.forgiving.proofs.Lines.{split_with}

-- what follows a line is shorter than what it was cut off
abbrev pub Shorter : ℕ → Cut → Type 0
Shorter n Short = Unit {0}
Shorter n (Line l rest) = length rest < n

shorter_before : (c n : ℕ) (x : Cut) → Shorter n x → Shorter (suc n) (before c x)
shorter_before c n Short h = tt
shorter_before c n (Line l rest) h = omega arith

split_shorter : (ends : Text → ℕ) (t : Text) → Shorter (length t) (split_by ends t)
unfolding split_by
split_shorter ends [] = tt
split_shorter ends (c ∷ t) =
    let n = ends (c ∷ t) in
    cond_both (ltb 0 n) (Line [] (drop n (c ∷ t))) (before c (split_by ends t)) (Shorter (suc (length t))) (λ e. omega (arith, ltb-true 0 n e, length-drop n (c ∷ t))) (λ _. shorter_before c (length t) (split_by ends t) (split_shorter ends t))

pub shorter : (h : Habit) (t : Text) → Shorter (length t) ((reader_with h).split t)
shorter h t = subst (Shorter (length t)) (sym (split_with h t)) (split_shorter (end_by h) t)

pub shorter_at : (h : Habit) (t l rest : Text) → Line l rest ≡ (reader_with h).split t → length rest < length t
shorter_at h t l rest e = subst (Shorter (length t)) (sym e) (shorter h t)

-- more turns than a text has bytes change nothing
on_same : (go on : Text → Head) (n : ℕ) (x : Cut) → Shorter n x → ((t : Text) → length t < n → go t ≡ on t) → on_line go x ≡ on_line on x
on_same go on n Short h f = refl
on_same go on n (Line [] rest) h f = refl
on_same go on n (Line (c ∷ cs) rest) h f = ap (put_line (c ∷ cs)) (f rest h)

pub head_same : (h : Habit) (k j : ℕ) (t : Text) → length t < k → length t < j → head_of k (reader_with h) t ≡ head_of j (reader_with h) t
unfolding head_of
head_same h zero j t a b = absurd (omega arith)
head_same h (suc k) zero t a b = absurd (omega arith)
head_same h (suc k) (suc j) t a b =
    let r = reader_with h in
    on_same (λ s. head_of k r s) (λ s. head_of j r s) (length t) (r.split t) (shorter h t) (λ s l. head_same h k j s (omega arith) (omega arith))

-- lines before what is found behind them
abbrev pub behind : List Text → Head → Head
behind ls HeadMore = HeadMore
behind ls (HeadOf ms s) = HeadOf (ls ++ ms) s

behind_put : (ls : List Text) (l : Text) (x : Head) → behind ls (put_line l x) ≡ behind (ls ++ (l ∷ [])) x
behind_put ls l HeadMore = refl
behind_put ls l (HeadOf ms s) = ap (λ ns. HeadOf ns s) (sym (append_assoc ls (l ∷ []) ms))

pub behind_none : (x : Head) → behind [] x ≡ x
behind_none HeadMore = refl
behind_none (HeadOf ms s) = refl

-- all of a head, where some of its lines were taken and the rest is still to be read
abbrev pub head_at : Habit → Text → Head
head_at h t = head_of (suc (length t)) (reader_with h) t

module _ (h : Habit) (t : Text) (ls : List Text) (rest : Text) (so : head_at h t ≡ behind ls (head_at h rest)) where
  -- one line more
  pub head_more : (l more : Text) → (length l ≡ 0 → ⊥) → Line l more ≡ (reader_with h).split rest → head_at h t ≡ behind (ls ++ (l ∷ [])) (head_at h more)
  unfolding head_of
  head_more [] more some e = absurd (some refl)
  head_more (c ∷ cs) more some e =
      let r = reader_with h in
      so ∙ ap (behind ls) (ap (on_line (λ s. head_of (length rest) r s)) (sym e) ∙ ap (put_line (c ∷ cs)) (head_same h (length rest) (suc (length more)) more (shorter_at h rest (c ∷ cs) more e) (omega arith)))
      ∙ behind_put ls (c ∷ cs) (head_at h more)

  -- the empty line
  pub head_ended : (l more : Text) → length l ≡ 0 → Line l more ≡ (reader_with h).split rest → HeadOf ls more ≡ head_at h t
  unfolding head_of
  head_ended [] more none e =
      let r = reader_with h in
      ap (λ ms. HeadOf ms more) (sym (append-nil ls)) ∙ ap (λ x. behind ls (on_line (λ s. head_of (length rest) r s) x)) e ∙ sym so
  head_ended (c ∷ cs) more none e = absurd (omega arith)

  -- no line any more
  pub head_short : Short ≡ (reader_with h).split rest → HeadMore ≡ head_at h t
  unfolding head_of
  head_short e =
      let r = reader_with h in
      ap (λ x. behind ls (on_line (λ s. head_of (length rest) r s) x)) e ∙ sym so
