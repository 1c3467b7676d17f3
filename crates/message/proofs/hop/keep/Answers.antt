use Rattle.std.proofs.Common.{◌≡◌, Bor, not, map, length, take, rules, tests, sym, ap, ◌∙◌}
use mathlib.Core.List.{map-map}
use Rattle.std.proofs.lemmas.List.{take-map}
use Rattle.std.proofs.lemmas.Iterator.{YieldsList-from_slice, YieldsList-from_take}
use Rattle.std.proofs.lemmas.Iterator.Consumers.{YieldsList-at, YieldsList-from_filter, YieldsList-end}
use Rattle.message.specs.Hops.{is_dropped, kept_of, held_all}
use Rattle.message.specs.SentViews.{view_sent_field, view_sent_fields}
use Rattle.message.specs.declared.sent.Line.{Line}
use Rattle.message.proofs.Hopping.{kept_is, all_kept}
use Rattle.message.proofs.hop.keep.Goals as goal

pub returns : goal.returns
returns c =
    let lines = c.args.lines.now in
    let n = length c.args.table.now in
    let on = λ (l : Line). view_sent_field l.field in
    let seen = YieldsList-end
    (YieldsList-at c.into_iter-line-iterator.ensures.into_iter_gives
    (YieldsList-from_take n
    (YieldsList-at c.take-line-items.ensures.source
    (YieldsList-from_filter _ (λ (l : Line). not (is_dropped (held_all lines) l.field.name.now)) (YieldsList-from_slice lines cc) c.filter-sent_on.ensures.closure (λ x r q k. search (rules, tests))))
    c.take-line-items.ensures.count))
    c.loop-line.yielded _ c.loop-line.yielded_by _ _ c.in-None.is c.next.ensures.steps in
    let (_, _, _, holds) = c.loop-line.invariant in
    let front : view_sent_fields (take c.loop-line.count c.loop-line.table) ≡ take n (kept_of (held_all lines)) =
    holds ∙ sym (map-map on (λ (x : Bor Line). x.now) c.loop-line.yielded) ∙ ap (map on) seen.0 ∙ sym (take-map on n _) ∙ ap (take n) (kept_is (held_all lines) lines) in
    record { front = front; all = λ h. front ∙ all_kept lines n h }
