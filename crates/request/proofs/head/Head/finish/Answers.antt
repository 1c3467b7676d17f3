use Rattle.std.proofs.Common.{◌≡◌, ℕ, ◌+◌, ◌-◌, length, take, drop, Ok, Err, Result, ap, ◌∙◌, arith}
use Rattle.text.specs.Bytes.{Text}
use Rattle.message.specs.declared.fault.Flaw.{Flaw}
use Rattle.request.specs.Reading.{Settled, placed_at, target_in, with_target, on_target, finished}
use Rattle.request.specs.Targets.{check_target, undone}
use Rattle.request.specs.declared.head.Head.{Head}
use Rattle.request.specs.declared.reading.Reading.TheVariants.{Whole, Refused}
use Rattle.request.proofs.Memory.{front_placed}
use Rattle.request.proofs.head.Head.finish.Goals as goal

-- the target, cut out by the code
module _ (head : Head) (end : ℕ) (memory : Text) where
  abbrev start : ℕ
  start = head.method + 1

  abbrev target : Text
  target = take (start + head.target - start) (drop start memory)

  is_target : target ≡ target_in head memory
  is_target = let same : start + head.target - start ≡ head.target = omega arith in ap (λ k. take k (drop start memory)) same

  judged_so_so : (r : Result Unit Flaw) → r ≡ check_target target → on_target head end memory r ≡ finished head end memory
  judged_so_so r e = ap (on_target head end memory) (e ∙ ap check_target is_target)

pub returns-in-Err : goal.returns-in-Err
returns-in-Err c =
    let so = judged_so_so c.args.self c.args.end c.args.memory.now (Err c.in-Err.flaw) c.in-Err.ensures.is in
    record { told = ap Refused c.at.ensures ∙ ap (λ (s : Settled). s.reading) so; held = ap (λ (s : Settled). s.memory) so }

pub returns : goal.returns
returns c =
    let head = c.args.self in
    let memory = c.args.memory.now in
    let n = head.method + 1 in
    let undoing : undone (target head c.args.end memory) ≡ undone (target_in head memory) = ap undone (is_target head c.args.end memory) in
    let so = judged_so_so head c.args.end memory (Ok tt) c.in_default.ensures.is in
    record {
      told = ap (λ k. Whole (with_target head k) c.args.end) (c.undo-target.ensures.value ∙ ap length undoing) ∙ ap (λ (s : Settled). s.reading) so;
      held =
          front_placed n (n + head.target - n) (undone (target head c.args.end memory)) memory c.undo-target.new.target c.undo-target.ensures.within c.undo-target.ensures.after
          ∙ ap (λ ys. placed_at n ys memory) undoing ∙ ap (λ (s : Settled). s.memory) so;
    }
