use Rattle.std.proofs.Common.{◌≡◌, rules, ap, sym, ◌∙◌, ◌&&◌, not}
use Rattle.std.proofs.lemmas.Iterator.Consumers.{YieldsList-from_first}
use Rattle.std.proofs.lemmas.Iterator.Search.{any_from_yields_List}
use Rattle.std.specs.List.{list_any}
use Rattle.text.specs.Bytes.{same}
use Rattle.text.specs.Marks.{split, pieces_left}
use Rattle.rules.proofs.Methods.{listed}
use Rattle.rules.proofs.lists.Goals as goal

pub returns-then-not-eq : goal.returns-then-not-eq
returns-then-not-eq c =
    let m = c.args.method.now in
    let w = c.args.methods.now in
    let any : c.any.result ≡ list_any (same m) (split 44 w) = any_from_yields_List (same m) _ _ c.any.result c.any.ensures.ran (YieldsList-from_first (λ x. x.now) pieces_left (split 44 w) c.pieces.ensures) (λ x b q k. search rules) in
    any ∙ sym (listed m w ∙ ap (λ b. not b && list_any (same m) (split 44 w)) (sym c.if-not-eq.ensures))
