use Rattle.request_laws.proofs.LineFaults.{fields}
use Rattle.request_laws.proofs.head.fields_read.Goals as goal

pub returns : goal.returns
returns c = fields
