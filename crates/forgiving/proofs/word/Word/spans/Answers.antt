use Rattle.std.proofs.Common.{rules, ◌∙◌}
use Rattle.std.proofs.lemmas.Iterator.{YieldsList-from_slice}
use Rattle.std.proofs.lemmas.Iterator.Search.{all_from_yields_List}
use Rattle.forgiving.specs.Parts.{allowed}
use Rattle.forgiving.proofs.Words.{all_listed}
use Rattle.forgiving.proofs.word.Word.spans.Goals as goal

pub returns : goal.returns
returns c =
    let t = c.args.t.now in
    all_from_yields_List (allowed c.args.self) _ _ c.all.result c.all.ensures.ran (YieldsList-from_slice t cc) (λ x b q k. search rules) ∙ all_listed (allowed c.args.self) t
