use Rattle.std.proofs.Common.{◌≡◌, ◌<◌, [], ◌∷◌, ◌++◌, length, vec_items, sym, ap, ◌∙◌, append_assoc, append-nil}
use Rattle.std.proofs.lemmas.List.{map-append}
use Rattle.forgiving.specs.Held.{view_request, view_requests, view_got}
use Rattle.forgiving.proofs.Reading.{all_at, all_more, all_read}
use Rattle.forgiving.proofs.habit.Habit.read_all.Goals as goal

pub loop-requests-preserved : goal.loop-requests-preserved
loop-requests-preserved c =
    let h = c.args.self in
    let s = c.loop-requests.rest.now in
    let qs = vec_items c.loop-requests.requests in
    let q = view_request c.in-Whole.request in
    let rest = c.in-Whole.more.now in
    let less : length c.in-Whole.more.now < length c.loop-requests.rest.now = rw c.in-Whole.is at c.in_ok-request.ensures.shorter in
    let found = sym (ap view_got c.in-Whole.is) ∙ c.in_ok-request.ensures.is in
    let pushed : view_requests (vec_items c.push.new.self) ≡ view_requests qs ++ (q ∷ []) = ap view_requests c.in_ok-push.ensures.items ∙ map-append view_request qs (c.in-Whole.request ∷ []) in
    rw pushed (c.loop-requests.invariant ∙ ap (λ ps. view_requests qs ++ ps) (all_more h s q rest found less) ∙ sym (append_assoc (view_requests qs) (q ∷ []) (all_at h rest)))

pub returns : goal.returns
returns c =
    let h = c.args.self in
    let s = c.loop-requests.rest.now in
    let qs = view_requests (vec_items c.loop-requests.requests) in
    sym (c.loop-requests.invariant ∙ ap (λ ps. qs ++ ps) (sym (all_read h s c.in_ok-request.field-0 c.in_ok-request.ensures.is c.in_default.not-Whole)) ∙ append-nil qs)
