-- Words cut off a line, and pieces that a mark separates, are those that give the line when they are joined.
use Rattle.std.proofs.Common.{◌≡◌, ℕ, zero, suc, ◌≤◌, Bool, not, T, eqb, List, [], ◌∷◌, ◌++◌, length, IfOk, Some, None, Ok, Err, Result, sym, refl, ap, ◌∙◌, ap₂, arith}
use Rattle.std.specs.Option.{option_map}
use Rattle.std.specs.List.{AllByRecursion}
use Rattle.std.proofs.lemmas.Bool.{cond_both, eqb-true, eq-eqb}
use Rattle.text.specs.Bytes.{Text, all}
use Rattle.text.proofs.Passing.{is_true, is_false, and_i, and_l, and_r, all_append}
use Rattle.text.specs.Marks.{rest_after, cut_at, split, on_first}
use Rattle.script.specs.Words.{good_word}
use Rattle.script.specs.Series.{judged, on_rest}
use Rattle.script.specs.declared.problem.Problem.{Problem}
use Rattle.script.specs.declared.series.Series.{Series}
use Rattle.script.specs.declared.word.Word.{Word}
use Rattle.text.proofs.Marking.{split_cut, pieced, cut_at_so}
use Rattle.script_laws.specs.Grammar.{joined_by}
use Rattle.script_laws.proofs.Given.{Gives, gives_mapped}

-- a word in front, and the rest
pub on_rest_so : {X : Type 0} (P : X → Type 0) (w t : Text) (f : Text → Result X Problem) (x : Result X Problem) → ((r : Text) → t ≡ w ++ r → IfOk (f r) P) → IfOk x P → IfOk (on_rest (rest_after w t) f x) P
unfolding rest_after
on_rest_so P [] t f x go h = go t refl
on_rest_so P (w ∷ ws) [] f x go h = h
on_rest_so P (w ∷ ws) (c ∷ cs) f x go h = cond_both (eqb c w) (rest_after ws cs) None (λ o. IfOk (on_rest o f x) P) (λ e. on_rest_so P ws cs f x (λ r g. go r (ap₂ (λ d ds. d ∷ ds) (eqb-true c w e) g)) h) (λ _. h)

-- a cut at a mark
pub cut_joins : (m : ℕ) (t : Text) → Gives (λ p. t ≡ p.0 ++ (m ∷ p.1)) (cut_at m t)
unfolding cut_at
cut_joins m [] = tt
cut_joins m (c ∷ cs) =
    cond_both (eqb c m) (Some ([], cs)) (option_map (λ p. (c ∷ p.0, p.1)) (cut_at m cs)) (Gives (λ p. c ∷ cs ≡ p.0 ++ (m ∷ p.1))) (λ e. ap (λ d. d ∷ cs) (eqb-true c m e))
    (λ _. gives_mapped (λ p. cs ≡ p.0 ++ (m ∷ p.1)) (λ p. c ∷ cs ≡ p.0 ++ (m ∷ p.1)) (λ p. (c ∷ p.0, p.1)) (cut_at m cs) (λ p e. ap (λ u. c ∷ u) e) (cut_joins m cs))

-- a byte that is no mark
abbrev pub other : ℕ → ℕ → Bool
other m c = not (eqb c m)

pub cut_before : (m : ℕ) (a b : Text) → T (all (other m) a) → cut_at m (a ++ (m ∷ b)) ≡ Some (a, b)
cut_before m a b h = cut_at_so m (other m) (ap not (eq-eqb m m refl)) a b h

cut_none : (m : ℕ) (a : Text) → T (all (other m) a) → cut_at m a ≡ None
unfolding all cut_at
cut_none m [] h = refl
cut_none m (c ∷ a) h = rw (is_false (eqb c m) (and_l (other m c) (all (other m) a) h), cut_none m a (and_r (other m c) (all (other m) a) h))

-- the pieces of a text, joined again
joined_on : (m c : ℕ) (ts : List Text) → joined_by m (on_first c ts) ≡ c ∷ joined_by m ts
unfolding joined_by
joined_on m c [] = refl
joined_on m c (t ∷ []) = refl
joined_on m c (t ∷ u ∷ ts) = refl

joined_next : (m : ℕ) (ts : List Text) → 1 ≤ length ts → joined_by m ([] ∷ ts) ≡ m ∷ joined_by m ts
unfolding joined_by
joined_next m [] h = absurd (omega arith)
joined_next m (t ∷ ts) h = refl

some_on : (c : ℕ) (ts : List Text) → 1 ≤ length (on_first c ts)
some_on c [] = omega arith
some_on c (t ∷ ts) = omega arith

pub join_split : (m : ℕ) (t : Text) → (t ≡ joined_by m (split m t)) × (1 ≤ length (split m t))
unfolding split
join_split m [] = (unfold joined_by in refl, omega arith)
join_split m (c ∷ cs) =
    let h = join_split m cs in
    cond_both (eqb c m) ([] ∷ split m cs) (on_first c (split m cs)) (λ ts. (c ∷ cs ≡ joined_by m ts) × (1 ≤ length ts))
    (λ e. (ap₂ (λ d ds. d ∷ ds) (eqb-true c m e) h.0 ∙ sym (joined_next m (split m cs) h.1), omega arith))
    (λ _. (ap (λ ds. c ∷ ds) h.0 ∙ sym (joined_on m c (split m cs)), some_on c (split m cs)))

-- pieces without the mark, joined and taken apart again
pub split_joined : (m : ℕ) (ts : List Text) → AllByRecursion (λ t. T (all (other m) t)) ts → 1 ≤ length ts → split m (joined_by m ts) ≡ ts
unfolding joined_by
split_joined m [] h some = absurd (omega arith)
split_joined m (t ∷ []) h some = split_cut m t ∙ ap (pieced m t) (cut_none m t h.0)
split_joined m (t ∷ u ∷ ts) h some =
    let rest = joined_by m (u ∷ ts) in
    split_cut m (t ++ (m ∷ rest)) ∙ ap (pieced m (t ++ (m ∷ rest))) (cut_before m t rest h.0) ∙ ap (λ us. t ∷ us) (split_joined m (u ∷ ts) h.1 (omega arith))

pub all_joined : (p : ℕ → Bool) (m : ℕ) (ts : List Text) → T (p m) → AllByRecursion (λ t. T (all p t)) ts → T (all p (joined_by m ts))
unfolding all joined_by
all_joined p m [] g h = tt
all_joined p m (t ∷ []) g h = h.0
all_joined p m (t ∷ u ∷ ts) g h = all_append p t (m ∷ joined_by m (u ∷ ts)) h.0 (and_i (p m) (all p (joined_by m (u ∷ ts))) g (all_joined p m (u ∷ ts) g h.1))

-- pieces that pass are good and not too many
abbrev pub Good : Word → List Text → Type 0
Good w ts = AllByRecursion (λ t. T (good_word w t)) ts

pub judged_made : {X : Type 0} (s : Series) (x : X) (P : X → Type 0) (k : ℕ) (ts : List Text) → (Good s.word ts → length ts ≤ k → P x) → IfOk (judged s x k ts) P
unfolding judged
judged_made s x P zero [] f = f tt (omega arith)
judged_made s x P (suc k) [] f = f tt (omega arith)
judged_made s x P zero (t ∷ ts) f = tt
judged_made s x P (suc k) (t ∷ ts) f =
    cond_both (good_word s.word t) (judged s x k ts) (Err s.wrong) (λ r. IfOk r P) (λ e. judged_made s x P k ts (λ g h. f (rw e tt, g) (omega arith))) (λ _. tt)

pub judged_good : {X : Type 0} (s : Series) (x : X) (k : ℕ) (ts : List Text) → Good s.word ts → length ts ≤ k → judged s x k ts ≡ Ok x
unfolding judged
judged_good s x zero [] g h = refl
judged_good s x (suc k) [] g h = refl
judged_good s x zero (t ∷ ts) g h = absurd (omega arith)
judged_good s x (suc k) (t ∷ ts) g h = rw (is_true (good_word s.word t) g.0) (judged_good s x k ts g.1 (omega arith))
