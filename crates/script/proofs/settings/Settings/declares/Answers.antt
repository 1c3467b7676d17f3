use Rattle.std.proofs.Common.{rules, vec_items, sym, ◌∙◌}
use Rattle.std.proofs.lemmas.Iterator.{YieldsList-from_slice}
use Rattle.std.proofs.lemmas.Iterator.Search.{any_from_yields_List}
use Rattle.text.specs.Bytes.{same_no_case}
use Rattle.script.proofs.Adding.{named_held}
use Rattle.script.proofs.settings.Settings.declares.Goals as goal

pub returns : goal.returns
returns c =
    let n = c.args.name.now in
    let servers = vec_items c.args.self.now.servers in
    any_from_yields_List (λ x. same_no_case (vec_items x.name) n) _ _ c.any.result c.any.ensures.ran (YieldsList-from_slice servers cc) (λ x b q k. search rules) ∙ sym (named_held n servers)
