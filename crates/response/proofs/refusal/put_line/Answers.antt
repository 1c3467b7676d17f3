use Rattle.std.proofs.Common.{ap, ◌∙◌}
use Rattle.text.specs.Numerals.{decimal}
use Rattle.text.proofs.Places.{wrote_more, wrote_as}
use Rattle.response.proofs.refusal.put_line.Goals as goal

pub returns : goal.returns
returns c =
    wrote_more _ _ _ _ _ _ _
    (wrote_more _ _ _ _ _ _ _ (wrote_more _ _ _ _ _ _ _ c.put-n.ensures (wrote_as _ _ _ (ap decimal (c.from.ensures ∙ c.status.ensures)) c.put_number.ensures)) c.put.ensures)
    (wrote_as _ _ _ (ap decimal (c.from-2.ensures ∙ c.number.ensures)) c.put_number-2.ensures)
