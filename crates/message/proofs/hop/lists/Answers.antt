use Rattle.std.proofs.Common.{rules, tests}
use Rattle.std.proofs.lemmas.Iterator.Consumers.{YieldsList-from_first}
use Rattle.std.proofs.lemmas.Iterator.Search.{any_from_yields_List}
use Rattle.text.specs.Bytes.{same_no_case}
use Rattle.text.specs.Marks.{pieces_left}
use Rattle.text.specs.Trims.{trimmed}
use Rattle.message.proofs.hop.lists.Goals as goal

pub returns : goal.returns
returns c =
    any_from_yields_List (λ t. same_no_case (trimmed t) c.args.name.now) _ _ _ c.any.ensures.ran
    (YieldsList-from_first (λ x. x.now) pieces_left _ c.pieces.ensures) (λ x b q k. search (rules, tests))
