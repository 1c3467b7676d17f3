use Rattle.forgiving_laws.proofs.each_view_fair.Goals as goal
use Rattle.forgiving_laws.proofs.Views.{each_view_fair}

pub returns : goal.returns
returns c = each_view_fair
