use Rattle.std.proofs.Common.{length, subst, sym, rules}
use Rattle.connection.specs.Hearing.{Within, Hears}
use Rattle.ear.specs.Ways.{ear_way}
use Rattle.ear.proofs.Hears.{within, not_unfit, hears}
use Rattle.ear.proofs.EarHearing.hear.Goals as goal

pub returns-in_default-clause-heard : goal.returns-in_default-clause-heard
returns-in_default-clause-heard c part size held = not_unfit c.args.method.now c.args.memory.now c.args.piece.now part c.args.self.0 size held _ c.in_default.ensures.told

pub returns-clause-within : goal.returns-clause-within
returns-clause-within c = subst (Within (length c.args.piece.now)) (sym c.heard.ensures) (within c.in-Ok.fed (length c.args.piece.now) c.in-Ok.ensures.within)

pub returns-clause-heard : goal.returns-clause-heard
returns-clause-heard c part size held =
    subst (Hears ear_way c.args.method.now part c.args.piece.now (record { 0 = c.in-Ok.fed.reading }) c.feed.new.memory) (sym c.heard.ensures)
    (hears c.args.method.now c.args.memory.now c.args.piece.now part c.args.self.0 size held (search rules) c.in-Ok.fed c.feed.new.memory c.in-Ok.ensures.told c.feed.ensures.held)
