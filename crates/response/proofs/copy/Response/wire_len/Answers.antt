use Rattle.std.proofs.Common.{length, ap, arith}
use Rattle.response.specs.Copies.{view_response}
use Rattle.response.proofs.Copying.{copy_len}
use Rattle.response.proofs.copy.Response.wire_len.Goals as goal

pub returns : goal.returns
returns c =
    omega (arith, copy_len (view_response c.args.self.now), c.saturating_add.ensures, c.fields_len.ensures, c.saturating_add-2.ensures, c.length_len.ensures, c.saturating_add-3.ensures, c.saturating_add-4.ensures, ap length c.body.ensures, c.saturating_add-5.ensures)
