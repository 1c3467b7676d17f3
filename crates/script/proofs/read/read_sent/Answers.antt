use Rattle.std.proofs.Common.{Err, codes, ap, ◌∙◌}
use Rattle.text.specs.Marks.{rest_after}
use Rattle.script.specs.Series.{on_rest}
use Rattle.script.specs.Statements.{event_of}
use Rattle.script.specs.declared.problem.Problem.TheVariants.{UnknownStatement}
use Rattle.script.specs.declared.read.Side.TheVariants.{Client, Server}
use Rattle.script.proofs.read.read_sent.Goals as goal

pub returns-in-Some : goal.returns-in-Some
returns-in-Some c =
    record {
      is = c.read_event.ensures.is ∙ ap (λ o. on_rest o (event_of Client) (on_rest (rest_after (codes "from server ") c.args.line.now) (event_of Server) (Err UnknownStatement))) c.in-Some.ensures;
      sound = c.read_event.ensures.sound;
    }

pub returns-in-Some-after : goal.returns-in-Some-after
returns-in-Some-after c =
    let t = c.args.line.now in
    record {
      is =
          c.read_event-in-Some-after.ensures.is ∙ ap (λ o. on_rest o (event_of Server) (Err UnknownStatement)) c.in-Some-after.ensures
          ∙ ap (λ o. on_rest o (event_of Client) (on_rest (rest_after (codes "from server ") t) (event_of Server) (Err UnknownStatement))) c.in_default.ensures;
      sound = c.read_event-in-Some-after.ensures.sound;
    }

pub returns : goal.returns
returns c =
    let t = c.args.line.now in
    record {
      is =
          ap (λ o. on_rest o (event_of Server) (Err UnknownStatement)) c.in_default-after.ensures
          ∙ ap (λ o. on_rest o (event_of Client) (on_rest (rest_after (codes "from server ") t) (event_of Server) (Err UnknownStatement))) c.in_default.ensures;
      sound = tt;
    }
