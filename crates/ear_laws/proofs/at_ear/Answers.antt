use Rattle.connection_laws.proofs.Lost.{settled}
use Rattle.connection_laws.proofs.Main.{main}
use Rattle.connection_laws.proofs.Runs.{at_rest, cut_free}
use Rattle.connection_laws.proofs.Served.{to_owner}
use Rattle.response_laws.specs.Ear.{ear}
use Rattle.response_laws.proofs.Steadily.{steady_ear}
use Rattle.ear_laws.proofs.at_ear.Goals as goal

pub returns : goal.returns
returns c = record { reached = at_rest ear steady_ear; settled = settled ear steady_ear; cut_free = cut_free ear steady_ear; to_owner = to_owner ear steady_ear; promised = main ear steady_ear }
