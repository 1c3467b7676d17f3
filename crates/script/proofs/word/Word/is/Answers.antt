use Rattle.std.proofs.Common.{rules, sym, ◌∙◌}
use Rattle.std.proofs.lemmas.Iterator.{YieldsList-from_slice}
use Rattle.std.proofs.lemmas.Iterator.Search.{all_from_yields_List}
use Rattle.script.specs.Words.{allows}
use Rattle.script.proofs.Wording.{good_so}
use Rattle.script.proofs.word.Word.is.Goals as goal

pub returns-then-fits : goal.returns-then-fits
returns-then-fits c =
    let w = c.args.self in
    let t = c.args.t.now in
    good_so w t c.all.result (sym c.fits.ensures ∙ c.if-fits.true) (all_from_yields_List (allows w) _ _ c.all.result c.all.ensures.ran (YieldsList-from_slice t cc) (λ x b q k. search rules))
