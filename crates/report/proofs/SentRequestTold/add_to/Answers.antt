use Rattle.std.proofs.Common.{sym}
use Rattle.request.specs.SentWriting.{view_sent_request}
use Rattle.report.proofs.Growing.{grown, grown_as}
use Rattle.report.proofs.Telling.{with_body}
use Rattle.report.proofs.SentRequestTold.add_to.Goals as goal

pub returns-in_ok-add_body : goal.returns-in_ok-add_body
returns-in_ok-add_body c =
    grown_as (with_body (view_sent_request c.args.self.now) (sym c.if-carries_body.ensures))
    (grown (grown (grown c.in_ok-add_first.ensures c.in_ok-add_fields.ensures) c.in_ok-add_length.ensures) c.in_ok-add_body.ensures)
