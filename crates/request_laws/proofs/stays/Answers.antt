use Rattle.request_laws.proofs.OutcomeStays.{outcome_stays}
use Rattle.request_laws.proofs.stays.Goals as goal

pub returns : goal.returns
returns c = outcome_stays
