use Rattle.std.proofs.Common.{◌≡◌, ℕ, ◌+◌, suc, Bool, true, false, not, cond, ltb, List, [], ◌∷◌, length, map, Some, None, Option, refl, sym, ap, zero-add, ◌∙◌, arith, rules, Bor}
use Rattle.std.proofs.lemmas.Bool.Decides.{nat_tests}
use borrow.Author.Tests.{tests}
use Rattle.std.specs.List.{position_or_len}
use Rattle.std.proofs.lemmas.Iterator.{YieldsList-from_slice}
use Rattle.std.proofs.lemmas.Iterator.Search.{position_from_yields_List}
use Rattle.text.specs.Bytes.{Text, same_no_case}
use Rattle.request.specs.Hosts.{server_from}
use Rattle.request.proofs.host.server_named.Goals as goal

-- one name more in front
one : (k n m : ℕ) (b : Bool) (o : Option ℕ) → cond (ltb n m) (Some (k + 1 + n)) None ≡ o → cond (ltb (cond (not b) (1 + n) 0) (suc m)) (Some (k + cond (not b) (1 + n) 0)) None ≡ cond b (Some k) o
one k n m true o e = grind (arith, nat_tests)
one k n m false o e = let far : k + 1 + n ≡ k + (1 + n) = omega arith in let less : ltb (1 + n) (suc m) ≡ ltb n m = grind (arith, nat_tests) in rw less (ap (λ j. cond (ltb n m) (Some j) None) (sym far) ∙ e)

-- the place of the first of that name, counted from k
placed : (k : ℕ) (name : Text) (ts : List (Bor Text)) → let n : ℕ = position_or_len (λ t. same_no_case t.now name) ts in cond (ltb n (length ts)) (Some (k + n)) None ≡ server_from k name (map (λ x. x.now) ts)
unfolding server_from
placed k name [] = refl
placed k name (t ∷ ts) = one k (position_or_len (λ t. same_no_case t.now name) ts) (length ts) (same_no_case t.now name) _ (placed (k + 1) name ts)

pub returns : goal.returns
returns c =
    let ts = c.args.servers.now in
    let name = c.args.name.now in
    position_from_yields_List (λ t. same_no_case t.now name) _ _ c.position.result c.position.ensures.ran (YieldsList-from_slice ts cc) (λ x b q k. search (rules, tests)) ∙ simp zero-add at (placed 0 name ts)
