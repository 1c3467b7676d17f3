use Rattle.std.proofs.Common.{rules, tests, sym, ◌∙◌}
use Rattle.std.proofs.lemmas.Iterator.{YieldsList-from_slice}
use Rattle.std.proofs.lemmas.Iterator.Search.{any_from_yields_List}
use Rattle.message.specs.Hops.{names, held_as}
use Rattle.message.proofs.Hopping.{any-map}
use Rattle.message.proofs.hop.is_named.Goals as goal

pub returns : goal.returns
returns c =
    any_from_yields_List (λ l. names c.args.name.now (held_as l)) _ _ _ c.any.ensures.ran (YieldsList-from_slice c.args.lines.now cc) (λ x b q k. search (rules, tests))
    ∙ sym (any-map (names c.args.name.now) held_as c.args.lines.now)
