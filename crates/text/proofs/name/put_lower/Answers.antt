use Rattle.std.specs.Char.{to_ascii_lowercase}
use Rattle.text.proofs.Places.{wrote_changed}
use Rattle.text.proofs.Folding.{lowered_is}
use Rattle.text.proofs.name.put_lower.Goals as goal

pub returns : goal.returns
returns c = rw (c.make_ascii_lowercase.ensures.after, lowered_is c.args.name.now) (wrote_changed to_ascii_lowercase c.put-n.ensures)
