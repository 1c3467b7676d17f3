-- What the code holds of a request whose fields are as they were sent, as the canonical request that it stands for.
use Rattle.message.specs.SentViews.{view_sent_field}
use Rattle.message.specs.declared.sent_field.SentField.{SentField}
use Rattle.request.specs.Canonical.{Req}
use Rattle.request.specs.Writing.{request_by}
use Rattle.request.specs.declared.canonical.Request.{Request}

abbrev pub view_sent_request : Request SentField → Req
view_sent_request q = request_by view_sent_field q
