use Rattle.message_laws.proofs.Parts.{fit}
use Rattle.message_laws.proofs.body_fits.Goals as goal

pub returns : goal.returns
returns c = fit
