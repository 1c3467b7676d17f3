use Rattle.std.proofs.Common.{◌≡◌, Ok, sym, ◌∙◌, arith}
use Rattle.std.proofs.lemmas.List.{take_rest}
use Rattle.message.specs.Sent.{check_line}
use Rattle.message.proofs.Reading.{checked_some}
use Rattle.message.proofs.sent.CutLine.field.Goals as goal

pub returns-clause-is : goal.returns-clause-is
returns-clause-is c =
    let good : check_line c.args.left c.args.self.at c.args.self.bytes.now c.args.self.ended ≡ Ok c.in_ok-colon.colon = checked_some _ _ _ _ (omega arith) ∙ sym c.in_ok-colon.ensures.is in
    rw (good, c.trim.ensures, c.span.ensures.is) (simp take_rest)
