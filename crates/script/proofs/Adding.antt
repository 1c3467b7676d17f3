-- When a server can have one more rule, and the servers one more of them.
use Rattle.std.proofs.Common.{◌≡◌, ℕ, zero, suc, ◌≤◌, Bool, ◌||◌, List, [], ◌∷◌, ◌++◌, map, length, get_or, take, set, is_ok, Ok, Err, vec_items, Result, sym, refl, ap, ◌∙◌, inl, inr, ⊎_elim, arith}
use Rattle.std.proofs.lemmas.List.{set-get_or}
use Rattle.std.specs.List.{list_any}
use Rattle.text.specs.Bytes.{Text, same_no_case}
use Rattle.script.specs.Statements.{RuleText}
use Rattle.script.specs.Settings.{ServerText, server_with, named, one, more, with_rule, server_in, Took}
use Rattle.script.specs.declared.settings.Server.{Server}
use Rattle.script.specs.declared.problem.Problem.{Problem}
use Rattle.script.specs.declared.problem.Problem.TheVariants as problem

-- the last server changed, or not
abbrev pub placed_last : List ServerText → Result ServerText Problem → Result (List ServerText) Problem
placed_last front (Ok s) = Ok (front ++ s ∷ [])
placed_last front (Err e) = Err e

placed_one : (o : Result ServerText Problem) → one o ≡ placed_last [] o
placed_one (Ok s) = refl
placed_one (Err e) = refl

placed_more : (s : ServerText) (front : List ServerText) (o : Result ServerText Problem) → more s (placed_last front o) ≡ placed_last (s ∷ front) o
placed_more s front (Ok t) = refl
placed_more s front (Err e) = refl

placed_ok : (front : List ServerText) (o : Result ServerText Problem) → is_ok (placed_last front o) ≡ is_ok o
placed_ok front (Ok t) = refl
placed_ok front (Err e) = refl

pub no_server : {X : Type 0} (v : X → ServerText) (r : RuleText) (xs : List X) → length xs ≤ 0 → with_rule r (map v xs) ≡ Err problem.RuleWithoutServer
unfolding with_rule
no_server v r [] h = refl
no_server v r (x ∷ xs) h = absurd (omega arith)

module _ {X : Type 0} (v : X → ServerText) (r : RuleText) (x : X) where
  at_last : (i : ℕ) (xs : List X) → length xs ≡ suc i → x ≡ get_or xs i x → with_rule r (map v xs) ≡ placed_last (take i (map v xs)) (server_with r (v x))
  unfolding with_rule
  at_last i [] h e = let no : ⊥ = omega arith in elim no [ ]
  at_last zero (y ∷ []) h e = ap (λ z. one (server_with r (v z))) (sym e) ∙ placed_one (server_with r (v x))
  at_last zero (y ∷ z ∷ xs) h e = let no : ⊥ = omega arith in elim no [ ]
  at_last (suc i) (y ∷ []) h e = let no : ⊥ = omega arith in elim no [ ]
  at_last (suc i) (y ∷ z ∷ xs) h e = ap (more (v y)) (at_last i (z ∷ xs) (omega arith) e) ∙ placed_more (v y) (take i (map v (z ∷ xs))) (server_with r (v x))

  set_last : (i : ℕ) (xs : List X) (y : X) → length xs ≡ suc i → map v (set xs i y) ≡ take i (map v xs) ++ v y ∷ []
  set_last i [] y h = let no : ⊥ = omega arith in elim no [ ]
  set_last zero (z ∷ []) y h = refl
  set_last zero (z ∷ w ∷ xs) y h = let no : ⊥ = omega arith in elim no [ ]
  set_last (suc i) (z ∷ xs) y h = ap (λ ss. v z ∷ ss) (set_last i xs y (omega arith))

  same_last : (i : ℕ) (xs : List X) → length xs ≡ suc i → x ≡ get_or xs i x → map v xs ≡ take i (map v xs) ++ v x ∷ []
  same_last i xs h e = ap (map v) (sym (set-get_or xs i x)) ∙ set_last i xs (get_or xs i x) h ∙ ap (λ z. take i (map v xs) ++ v z ∷ []) (sym e)

  -- a step of the last server is a step of them all
  pub took_last : {U : Type 0} (needs : Bool) (i : ℕ) (xs : List X) (y : X) (res : Result U Problem) → length xs ≡ suc i → x ≡ get_or xs i x → Took needs (v x) (server_with r (v x)) (v y) res → Took needs (map v xs) (with_rule r (map v xs)) (map v (set xs i y)) res
  took_last needs i xs y (Ok u) h e t = at_last i xs h e ∙ ap (placed_last (take i (map v xs))) t ∙ ap Ok (sym (set_last i xs y h))
  took_last needs i xs y (Err p) h e t =
      let front = take i (map v xs) in (
        set_last i xs y h ∙ ap (λ s. front ++ s ∷ []) t.0 ∙ sym (same_last i xs h e),
        ⊎_elim (λ q. inl (at_last i xs h e ∙ ap (placed_last front) q)) (λ q. inr (q.0, q.1, ap is_ok (at_last i xs h e) ∙ placed_ok front (server_with r (v x)) ∙ q.2)) t.1,
      )

-- a name is looked for among the servers that are held
pub named_held : (n : Text) (xs : List Server) → named n (map server_in xs) ≡ list_any (λ x. same_no_case (vec_items x.name) n) xs
named_held n [] = refl
named_held n (x ∷ xs) = ap (λ b. same_no_case (vec_items x.name) n || b) (named_held n xs)
