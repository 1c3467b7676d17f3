use Rattle.std.proofs.Common.{◌≡◌, ℕ, ◌-◌, false, take, None, Ok, Err, Option, Result, ap, ◌∙◌}
use native.Mathlib.Nat.{sub-zero}
use Rattle.std.proofs.lemmas.Result.{err_from_is_err_and}
use Rattle.text.specs.Bytes.{Text}
use Rattle.text.specs.Cuts.{stray, cut_line}
use Rattle.message.specs.Faults.{onward}
use Rattle.message.specs.declared.fault.Flaw.{Flaw}
use Rattle.request.specs.First.{check_first}
use Rattle.request.specs.Heads.{unlined}
use Rattle.request.specs.declared.first.First.{First}
use Rattle.request.specs.declared.head.Judged.{Judged}
use Rattle.request.proofs.head.judge_unended.Goals as goal

-- a first line that a stray byte ends
strayed : (w : Text) (n : ℕ) (r : Result First Flaw) → stray n ≡ cut_line w → r ≡ check_first (take (n - 0) w) false → onward r (λ first. Ok None) ≡ unlined w (cut_line w)
strayed w n r cut e =
    let go : Result First Flaw → Result (Option Judged) Flaw = λ s. onward s (λ first. Ok None) in
    ap go (e ∙ ap (λ k. check_first (take k w) false) (sub-zero n)) ∙ ap (unlined w) cut

pub returns-in_err-check_first : goal.returns-in_err-check_first
returns-in_err-check_first c =
    let p = err_from_is_err_and c.from_residual.result c.from_residual.ensures.1 in
    rw (p.1, p.2) (strayed c.args.window.now c.in-Stray.n (Err c.in_err-check_first.field-0.0) c.in-Stray.ensures.is c.in_err-check_first.ensures.is)
