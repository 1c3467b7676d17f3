-- The methods and the path of a rule are read as the grammar says.
use Rattle.std.proofs.Common.{◌≡◌, ℕ, ◌≤◌, false, T, eqb, List, [], ◌∷◌, ◌++◌, length, IfOk, None, Ok, Err, codes, refl, ◌∙◌, arith}
use Rattle.std.specs.List.{AllByRecursion}
use Rattle.std.proofs.lemmas.List.Elements.{All-from_recursion, recursion_from_All, All-weaker}
use Rattle.std.proofs.lemmas.Result.{IfOk-weaker}
use Rattle.text.specs.Bytes.{Text, all}
use Rattle.text.proofs.Passing.{is_false, and_l, and_r, differs, all_weaker}
use Rattle.text.specs.Marks.{rest_after, split}
use Rattle.script.specs.Words.{allows, fits, good_word}
use Rattle.script.specs.Series.{methods, parts, pieces_of, on_none, methods_of, parts_of}
use Rattle.script.specs.declared.problem.Problem.TheVariants as problem
use Rattle.script.specs.declared.series.Series.{Series}
use Rattle.script.specs.declared.word.Word.{Word}
use Rattle.script.specs.declared.word.Word.TheVariants.{Method, Part}
use Rattle.script_laws.specs.Grammar.{joined_by, MethodsWord, no_method, some_methods, PathWord, no_part, some_parts}
use Rattle.script_laws.proofs.Words.{on_rest_so, other, join_split, split_joined, all_joined, Good, judged_made, judged_good}

-- good words lack what they may not be made of
lack : (w : Word) (m : ℕ) → allows w m ≡ false → (ts : List Text) → Good w ts → AllByRecursion (λ t. T (all (other m) t)) ts
lack w m e ts h =
    let P : Text → Type 0 = λ t. T (good_word w t) in
    let Q : Text → Type 0 = λ t. T (all (other m) t) in
    let each : (t : Text) → P t → Q t = λ t g. all_weaker (allows w) (other m) (λ c k. rw (differs (allows w) m c e k) tt) t (and_r (fits w (length t)) (all (allows w) t) g) in
    recursion_from_All Q ts (All-weaker P Q each ts (All-from_recursion P ts h))

-- the pieces of a series
abbrev Pieces : Series → Text → List Text → Type 0
Pieces s t ts = (t ≡ joined_by s.mark ts) × Good s.word ts × (1 ≤ length ts) × (length ts ≤ s.most)

pieces_made : (s : Series) (t : Text) → IfOk (pieces_of s t) (Pieces s t)
pieces_made s t = let ts = split s.mark t in let j = join_split s.mark t in judged_made s ts (Pieces s t) s.most ts (λ g h. (j.0, g, j.1, h))

pieces_read : (s : Series) (ts : List Text) → allows s.word s.mark ≡ false → Good s.word ts → 1 ≤ length ts → length ts ≤ s.most → pieces_of s (joined_by s.mark ts) ≡ Ok ts
pieces_read s ts no_mark g some few = rw (split_joined s.mark ts (lack s.word s.mark no_mark ts g) some) (judged_good s ts s.most ts g few)

-- methods
alone : (t r : Text) → t ≡ codes "-" ++ r → IfOk (on_none r (Ok []) (Err problem.Methods)) (λ ms. MethodsWord ms t)
alone t [] e = rw e no_method
alone t (c ∷ r) e = tt

pub methods_made : (t : Text) → IfOk (methods_of t) (λ ms. MethodsWord ms t)
methods_made t =
    on_rest_so (λ ms. MethodsWord ms t) (codes "-") t (λ r. on_none r (Ok []) (Err problem.Methods)) (pieces_of methods t) (alone t)
    (IfOk-weaker (pieces_of methods t) (Pieces methods t) (λ ms. MethodsWord ms t) (λ ms h. rw h.0 (some_methods ms h.1 h.2 h.3)) (pieces_made methods t))

not_after : (m : ℕ) (t : Text) → T (all (other m) t) → rest_after (m ∷ []) t ≡ None
unfolding all rest_after
not_after m [] h = refl
not_after m (c ∷ t) h = rw (is_false (eqb c m) (and_l (other m c) (all (other m) t) h))

pub methods_read : (ms : List Text) (t : Text) → MethodsWord ms t → methods_of t ≡ Ok ms
methods_read ms t no_method = unfold rest_after in refl
methods_read ms t (some_methods _ g some few) = rw (not_after 45 (joined_by 44 ms) (all_joined (other 45) 44 ms tt (lack Method 45 refl ms g))) (pieces_read methods ms refl g some few)

-- and no space stands in them
pub methods_close : (ms : List Text) (t : Text) → MethodsWord ms t → T (all (other 32) t)
unfolding all
methods_close ms t no_method = tt
methods_close ms t (some_methods _ g some few) = all_joined (other 32) 44 ms tt (lack Method 32 refl ms g)

-- a path
behind_slash : (t r : Text) → t ≡ codes "/" ++ r → IfOk (on_none r (Ok []) (pieces_of parts r)) (λ ps. PathWord ps t)
behind_slash t [] e = rw e no_part
behind_slash t (c ∷ r) e = IfOk-weaker (pieces_of parts (c ∷ r)) (Pieces parts (c ∷ r)) (λ ps. PathWord ps t) (λ ps h. rw (e, h.0) (some_parts ps h.1 h.2 h.3)) (pieces_made parts (c ∷ r))

pub parts_made : (t : Text) → IfOk (parts_of t) (λ ps. PathWord ps t)
parts_made t = on_rest_so (λ ps. PathWord ps t) (codes "/") t (λ r. on_none r (Ok []) (pieces_of parts r)) (Err problem.Path) (behind_slash t) tt

not_none : {X : Type 0} (ps : List Text) (x y : X) → Good Part ps → 1 ≤ length ps → on_none (joined_by 47 ps) x y ≡ y
unfolding joined_by
not_none [] x y g some = absurd (omega arith)
not_none ([] ∷ ps) x y g some = absurd g.0
not_none ((c ∷ p) ∷ []) x y g some = refl
not_none ((c ∷ p) ∷ q ∷ ps) x y g some = refl

pub parts_read : (ps : List Text) (t : Text) → PathWord ps t → parts_of t ≡ Ok ps
unfolding rest_after
parts_read ps t no_part = refl
parts_read ps t (some_parts _ g some few) = not_none ps (Ok []) (pieces_of parts (joined_by 47 ps)) g some ∙ pieces_read parts ps refl g some few
