use Rattle.std.proofs.Common.{◌≡◌, Some, None, Ok, sym, ap, ◌∙◌}
use Rattle.request.specs.Heads.{window}
use Rattle.response.specs.Reading.{After, fed_by, in_body}
use Rattle.response.proofs.Storing.{stepped}
use Rattle.response.proofs.reading.feed_head.Goals as goal

pub returns-in-Err-clause-told : goal.returns-in-Err-clause-told
unfolding window
returns-in-Err-clause-told c = ap fed_by (stepped c.args.method.now c.args.filled c.min-n.result c.args.memory.now c.args.piece.now c.store.new.memory c.requires.0 c.min-n.ensures c.store.ensures _ c.in-Err.ensures.is)

pub returns-in-Err-clause-held : goal.returns-in-Err-clause-held
unfolding window
returns-in-Err-clause-held c = ap (λ (a : After). a.memory) (stepped c.args.method.now c.args.filled c.min-n.result c.args.memory.now c.args.piece.now c.store.new.memory c.requires.0 c.min-n.ensures c.store.ensures _ c.in-Err.ensures.is)

pub returns-in-Ok-None-clause-told : goal.returns-in-Ok-None-clause-told
unfolding window
returns-in-Ok-None-clause-told c = let none : c.judge_head.result ≡ Ok None = cc in ap fed_by (stepped c.args.method.now c.args.filled c.min-n.result c.args.memory.now c.args.piece.now c.store.new.memory c.requires.0 c.min-n.ensures c.store.ensures (Ok None) (sym none ∙ c.judge_head.ensures.is))

pub returns-in-Ok-None-clause-held : goal.returns-in-Ok-None-clause-held
unfolding window
returns-in-Ok-None-clause-held c = let none : c.judge_head.result ≡ Ok None = cc in ap (λ (a : After). a.memory) (stepped c.args.method.now c.args.filled c.min-n.result c.args.memory.now c.args.piece.now c.store.new.memory c.requires.0 c.min-n.ensures c.store.ensures (Ok None) (sym none ∙ c.judge_head.ensures.is))

pub returns-in-Ok-Some-clause-told : goal.returns-in-Ok-Some-clause-told
unfolding window
returns-in-Ok-Some-clause-told c =
    let j = c.in-Ok-Some.judged in
    let some : c.judge_head.result ≡ Ok (Some j) = cc in
    ap (λ k. record { reading = in_body j.head j.head.len j.due; taken = k }) c.saturating_sub.ensures ∙ ap fed_by (stepped c.args.method.now c.args.filled c.min-n.result c.args.memory.now c.args.piece.now c.store.new.memory c.requires.0 c.min-n.ensures c.store.ensures (Ok (Some j)) (sym some ∙ c.judge_head.ensures.is))

pub returns-in-Ok-Some-clause-held : goal.returns-in-Ok-Some-clause-held
unfolding window
returns-in-Ok-Some-clause-held c =
    let j = c.in-Ok-Some.judged in
    let some : c.judge_head.result ≡ Ok (Some j) = cc in
    ap (λ (a : After). a.memory) (stepped c.args.method.now c.args.filled c.min-n.result c.args.memory.now c.args.piece.now c.store.new.memory c.requires.0 c.min-n.ensures c.store.ensures (Ok (Some j)) (sym some ∙ c.judge_head.ensures.is))
