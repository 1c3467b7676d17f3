use Rattle.std.proofs.Common.{sym, ◌∙◌, arith}
use Rattle.std.proofs.lemmas.Grind.{common_steps}
use Rattle.request.specs.Reading.{memory_size}
use Rattle.connection.proofs.Turning.{gives_whole}
use Rattle.connection.proofs.state.Busy.next.Goals as goal

pub returns-in-Whole-clause-turns : goal.returns-in-Whole-clause-turns
unfolding memory_size
returns-in-Whole-clause-turns g c =
    let way = g.H.Hearing.way in
    let o = c.in-Some.owner in
    let then = c.hear-heard.new.memory in
    gives_whole way g.met.H.Hearing.begins c.args.self c.gave.result c.args.memory.now then o record { last = c.in-Whole.last; text = way.text c.hear-heard.result.0 then } c.in-Whole.taken
    c.if-not-connection.false (sym c.first.ensures ∙ c.in-Some.is) (λ part held. grind (arith, common_steps, c.hear-heard.ensures.heard part)) c.gave.ensures
