use Rattle.connection_laws.proofs.Main.{main}
use Rattle.connection_laws.proofs.main_promise.Goals as goal

pub returns : goal.returns
returns c = main
