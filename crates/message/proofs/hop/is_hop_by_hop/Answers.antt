use Rattle.std.proofs.Common.{rules, tests}
use Rattle.std.proofs.lemmas.Iterator.{YieldsList-from_slice}
use Rattle.std.proofs.lemmas.Iterator.Search.{any_from_yields_List}
use Rattle.text.specs.Bytes.{lowered, among, same_no_case}
use Rattle.message.proofs.hop.is_hop_by_hop.Goals as goal

pub returns : goal.returns
unfolding among lowered
returns c = any_from_yields_List (λ x. same_no_case c.args.name.now x.now) _ _ c.any.result c.any.ensures.ran (YieldsList-from_slice _ c.iter.ensures.rest) (λ x b q k. search (rules, tests))
