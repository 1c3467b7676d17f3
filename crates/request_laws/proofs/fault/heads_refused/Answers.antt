use Rattle.request_laws.proofs.fault.heads_refused.Goals as goal
use Rattle.request_laws.proofs.Refused.{refused}

pub returns : goal.returns
returns c = refused
