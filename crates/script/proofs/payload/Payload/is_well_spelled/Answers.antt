use Rattle.std.proofs.Common.{is_some, rules, ap, ◌∙◌}
use Rattle.std.proofs.lemmas.Iterator.Consumers.{YieldsList-from_first}
use Rattle.std.proofs.lemmas.Iterator.Search.{all_from_yields_List}
use Rattle.script.specs.Payloads.{start_of, text_of, bytes_from, bytes_left}
use Rattle.script.proofs.Spelling.{whole_spelled, all_spelled}
use Rattle.script.proofs.payload.Payload.is_well_spelled.Goals as goal

pub returns : goal.returns
returns c =
    let m = start_of c.args.self in
    let t = text_of c.args.self in
    let bytes = bytes_from m t in
    all_from_yields_List is_some _ _ c.all.result c.all.ensures.ran (YieldsList-from_first (λ x. x) bytes_left bytes c.bytes.ensures) (λ x b q k. search rules) ∙ all_spelled bytes ∙ ap is_some (whole_spelled m t)
