use Rattle.std.proofs.Common.{◌≡◌, ◌+◌, take, drop, sym, ap, ◌∙◌, arith}
use Rattle.std.proofs.lemmas.List.{take_rest}
use Rattle.reader.specs.Reader.{Line}
use Rattle.forgiving.specs.Parts.{end_by}
use Rattle.forgiving.proofs.Lines.{split_with, split_at, split_none}
use Rattle.forgiving.proofs.habit.Habit.split.Goals as goal

pub returns-then-n-gt0-clause-is : goal.returns-then-n-gt0-clause-is
returns-then-n-gt0-clause-is c =
    let h = c.args.self in
    let t = c.args.bytes.now in
    let i = c.loop-i.i in
    let n = c.end_len-n.result in
    let here : n ≡ end_by h (drop i t) = c.end_len-n.ensures.is ∙ ap (end_by h) (take_rest t i) in
    ap (Line (take i t)) (take_rest t (i + n)) ∙ ap (λ m. Line (take i t) (drop (i + m) t)) here
    ∙ sym (split_with h t ∙ split_at (end_by h) t i c.loop-i-test.true c.loop-i.invariant (omega arith))

pub returns-clause-is : goal.returns-clause-is
returns-clause-is c = sym (split_with c.args.self c.args.bytes.now ∙ split_none (end_by c.args.self) c.args.bytes.now (λ k l. c.loop-i.invariant k (omega arith)))
