use Rattle.request.specs.Writing.{view_request}
use Rattle.reader.proofs.write_one.Goals as goal
use Rattle.reader.proofs.Moments.{understood}

pub returns-clause-reads : goal.returns-clause-reads
returns-clause-reads c = understood (view_request c.args.request.now) _ _ _ c.write.ensures
