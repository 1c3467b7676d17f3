use Rattle.std.proofs.Common.{arith}
use Rattle.request.specs.Writing.{request_by}
use Rattle.request.proofs.Parts.{first_len, head_len}
use Rattle.request.proofs.canonical.Request.head_len.Goals as goal

pub returns : goal.returns
returns g c =
    let q = request_by g.F.FieldLine.view c.args.self.now in
    let first = first_len q in
    let parts = head_len q in
    omega (arith, c.saturating_add.ensures, c.saturating_add-first.ensures, c.fields_len.ensures, c.saturating_add-2.ensures, c.length_len.ensures, c.saturating_add-3.ensures, c.saturating_add-4.ensures)
