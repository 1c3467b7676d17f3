use Rattle.std.proofs.Common.{◌≡◌, ℕ, ◌+◌, ◌<◌, ◌≤◌, true, false, cond, List, length, get_or, drop, is_some, Some, None, Ok, Err, Option, Result, sym, refl, ap, ◌∙◌}
use Rattle.std.proofs.lemmas.List.{drop_more, drop_all}
use Rattle.std.proofs.lemmas.Bool.{cond-true, cond-false, both_ways}
use Rattle.message.specs.Faults.{flaw}
use Rattle.message.specs.Sent.{Sent, view_line, view_lines}
use Rattle.message.specs.declared.fault.Fault.TheVariants.{Host}
use Rattle.message.specs.declared.fault.Flaw.{Flaw}
use Rattle.message.specs.declared.sent.Line.{Line}
use Rattle.request.specs.Hosts.{is_host, second, host_among, view_one}
use Rattle.request.proofs.host.one_host.Goals as goal
use Rattle.request.proofs.host.one_host.Goals.{then-eq_ignore_case+else-is_some, else-eq_ignore_case}

-- what the next line decides
one : (o : Option Sent) (ls : List Line) (i : ℕ) (d : Line) → i < length ls →
    host_among o (view_lines (drop i ls)) ≡ cond (is_host (view_line (get_or ls i d))) (second o (view_line (get_or ls i d)) (host_among (Some (view_line (get_or ls i d))) (view_lines (drop (i + 1) ls)))) (host_among o (view_lines (drop (i + 1) ls)))
unfolding host_among
one o ls i d h = ap (λ ys. host_among o (view_lines ys)) (drop_more ls i d h)

none_left : (o : Option Sent) (ls : List Line) (i : ℕ) → length ls ≤ i → host_among o (view_lines (drop i ls)) ≡ Ok o
unfolding host_among
none_left o ls i h = ap (λ ys. host_among o (view_lines ys)) (drop_all i ls h)

-- a second one, and the first
again : (o : Option Line) (f : Sent) (next : Result (Option Sent) Flaw) → true ≡ is_some o → second (view_one o) f next ≡ Err (flaw Host f.at)
again None f next e = absurd (both_ways _ refl (sym e))
again (Some g) f next e = refl

first : (o : Option Line) (f : Sent) (next : Result (Option Sent) Flaw) → false ≡ is_some o → second (view_one o) f next ≡ next
first None f next e = refl
first (Some g) f next e = absurd (both_ways _ (sym e) refl)

pub returns-then-is_some : goal.returns-then-is_some
returns-then-is_some c =
    let o = c.loop-line.host in
    ap Err c.at.ensures ∙ sym (one (view_one o) c.args.lines.now c.loop-line.line-index _ c.loop-line-test.true ∙ cond-true _ _ _ (sym c.if-eq_ignore_case.ensures) ∙ again o _ _ c.if-is_some.ensures) ∙ c.loop-line.invariant

pub loop-line-preserved : goal.loop-line-preserved
loop-line-preserved c =
    let o = c.loop-line.host in
    let ls = c.args.lines.now in
    let i = c.loop-line.line-index in
    let next = one (view_one o) ls i _ c.loop-line-test.true in
    elim c.if-eq_ignore_case.branch [
      | then-eq_ignore_case+else-is_some w ↦
          ap (λ p. host_among (view_one p) (view_lines (drop (i + 1) ls))) w.host-is ∙ sym (next ∙ cond-true _ _ _ (sym w.if-eq_ignore_case.ensures) ∙ first o _ _ w.if-is_some.ensures) ∙ c.loop-line.invariant
      | else-eq_ignore_case w ↦
          ap (λ p. host_among (view_one p) (view_lines (drop (i + 1) ls))) w.host-is ∙ sym (next ∙ cond-false _ _ _ (sym w.if-eq_ignore_case.ensures)) ∙ c.loop-line.invariant
    ]

pub returns : goal.returns
returns c = sym (none_left (view_one c.loop-line.host) c.args.lines.now c.loop-line.line-index c.loop-line-test.false) ∙ c.loop-line.invariant
