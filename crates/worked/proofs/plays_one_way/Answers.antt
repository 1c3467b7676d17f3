use Rattle.worked.proofs.OneWay.{plays_one_way}
use Rattle.worked.proofs.plays_one_way.Goals as goal

pub returns : goal.returns
returns c = plays_one_way
