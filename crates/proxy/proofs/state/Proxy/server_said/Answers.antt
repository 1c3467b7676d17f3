use Rattle.std.proofs.Common.{◌≡◌, ap, true, Bool, cond, sym, Some, None, List, Option, ◌∙◌}
use Rattle.connection.specs.declared.state.Idle.{Idle}
use Rattle.ear.specs.declared.Ear.{Ear}
use Rattle.proxy.specs.Calls.{rests_now}
use Rattle.proxy.specs.Steps.{there_at}
use Rattle.proxy.specs.declared.state.Misuse.TheVariants.{Early, Nobody}
use Rattle.proxy.proofs.Saying.{none_taken, rests_then, nobody_there, hears_then}
use Rattle.proxy.proofs.state.Proxy.server_said.Goals as goal

-- there is no such server, and the state is as it was
pub returns-in_default : goal.returns-in_default
returns-in_default c =
    let old = c.args.self.now in
    let s = c.args.server in
    let none : there_at s old.connections.places ≡ None = cc in
    let rests : rests_now old ≡ true = cc in (
      ap (λ (ps : List (Option (Idle Ear))). record old { connections = record { places = ps } }) c.take.ensures.after ∙ none_taken old s none,
      ap (λ (b : Bool). cond b Nobody Early) (sym rests),
      λ servers memory g h quiet. nobody_there servers old memory g h s quiet none,
    )

-- its piece is to be heard
pub returns : goal.returns
returns c =
    let old = c.args.self.now in
    let s = c.args.server in
    let there : there_at s old.connections.places ≡ Some c.in-Some.idle = cc in
    let rests : rests_now old ≡ true = cc in
    λ servers memory g h. (
      rests_then servers old memory g h s rests,
      hears_then servers old memory g h s rests c.in-Some.idle there c.take.new.self.places c.take.ensures.after c.args.piece.now c.hear-busy.result c.hear-busy.ensures,
    )
