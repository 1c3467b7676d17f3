use Rattle.std.proofs.Common.{◌≡◌, eqb, [], ◌∷◌, refl, ap, ◌∙◌, rules, cond, ◌+◌}
use borrow.Author.Tests.{tests}
use Rattle.std.specs.List.{prefix_len, zip}
use Rattle.std.proofs.lemmas.Iterator.{YieldsList-from_slice, YieldsList-from_zip}
use Rattle.std.proofs.lemmas.Iterator.Consumers.{count_from_yields_List}
use Rattle.std.proofs.lemmas.Iterator.Search.{YieldsList-from_take_while}
use Rattle.std.proofs.lemmas.List.Folds.{length-prefix_len}
use Rattle.text.specs.Bytes.{Text}
use Rattle.request.specs.First.{agree}
use Rattle.request.proofs.first.agreeing.Goals as goal

-- the pairs in front that are the same
paired : (s t : Text) → prefix_len (λ p. eqb p.0 p.1) (zip s t) ≡ agree s t
unfolding agree
paired [] t = refl
paired (c ∷ s) [] = refl
paired (c ∷ s) (d ∷ t) = ap (λ n. cond (eqb c d) (1 + n) 0) (paired s t)

pub returns-clause-is : goal.returns-clause-is
returns-clause-is c =
    let s = c.args.s.now in
    let t = c.args.t.now in
    count_from_yields_List c.take_while.result _ c.count.ensures.ran
    (YieldsList-from_take_while _ (λ p. eqb p.0 p.1) (YieldsList-from_zip (YieldsList-from_slice s cc) (YieldsList-from_slice t cc)) c.take_while.ensures.closure c.take_while.ensures.done (λ x b q k. search (rules, tests)))
    ∙ length-prefix_len (λ p. eqb p.0 p.1) (zip s t) ∙ paired s t
