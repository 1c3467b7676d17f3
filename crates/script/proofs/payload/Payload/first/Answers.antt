use Rattle.std.proofs.Common.{Some, None, ◌∷◌, sym, ap, ◌∙◌}
use Rattle.script.specs.Payloads.{bytes_of}
use Rattle.script.proofs.Spelling.{hex_first, quoted_first, digits_behind}
use Rattle.script.proofs.payload.Payload.first.Goals as goal

pub returns-in_err-b-in-Hex : goal.returns-in_err-b-in-Hex
returns-in_err-b-in-Hex c = let h = hex_first c.args.self c.in-Hex.digits None c.in-Hex.is c.in_err-b-in-Hex.ensures in rw c.from_residual.ensures (λ _. h)

pub returns-in_ok-b-in-Hex : goal.returns-in_ok-b-in-Hex
returns-in_ok-b-in-Hex c =
    let b = c.in_ok-b-in-Hex.b in
    let rest = c.in_ok-b-in-Hex.rest in
    hex_first c.args.self c.in-Hex.digits (Some (b, rest.now)) c.in-Hex.is c.in_ok-b-in-Hex.ensures
    ∙ ap (λ os. Some b ∷ os) (sym (ap bytes_of c.then_some.ensures ∙ digits_behind rest c.is_empty.result c.is_empty.ensures))

pub returns-in_err-b-in-Quoted : goal.returns-in_err-b-in-Quoted
returns-in_err-b-in-Quoted c = let h = quoted_first c.args.self c.in-Quoted.text None c.in-Quoted.is c.in_err-b-in-Quoted.ensures in rw c.from_residual-in_err-b-in-Quoted.ensures h

pub returns-in_ok-b-in-Quoted : goal.returns-in_ok-b-in-Quoted
returns-in_ok-b-in-Quoted c = quoted_first c.args.self c.in-Quoted.text (Some (c.in_ok-b-in-Quoted.b, c.in_ok-b-in-Quoted.rest.now)) c.in-Quoted.is c.in_ok-b-in-Quoted.ensures
