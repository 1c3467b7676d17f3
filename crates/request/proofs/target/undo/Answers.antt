use Rattle.std.proofs.Common.{◌≡◌, ℕ, ◌+◌, ◌-◌, ◌<◌, ◌≤◌, Bool, true, false, cond, not, eqb, [], ◌∷◌, ◌++◌, length, get_or, take, drop, sym, refl, ap, ◌∙◌, append_assoc, append-nil, one-add, arith}
use native.Mathlib.Nat.{sub-zero}
use Rattle.std.proofs.lemmas.List.{length-append, length-take, length-take-le, length-drop, take-append-drop, take_rest, drop_all, drop-append-le, drop_at, drop-drop, drop_more}
use Rattle.std.proofs.lemmas.List.Sums.{prefix_len-le-length}
use Rattle.std.proofs.lemmas.Bool.{eqb-true}
use Rattle.text.specs.Bytes.{Text, Wrote}
use Rattle.text.specs.Marks.{before}
use Rattle.text.proofs.Places.{length_placed, placed_fits, wrote_as, wrote_more}
use Rattle.request.specs.Targets.{path_of, query_of, marked, undone_path, undone}
use Rattle.request.proofs.target.undo.Goals as goal

-- a write to the front part of an output is one to the output, where there is room in the part
widened : (ys e part : Text) (m n : ℕ) → m ≤ length e → length ys ≤ m → Wrote ys (take m e) part n → Wrote ys e (part ++ drop m e) n
widened ys e part m n h f w =
    let k = length ys in
    let long = length-take-le m e h in
    let room : k ≤ length (take m e) = omega arith in
    let in_e : k ≤ length e = omega arith in
    let back : drop k (take m e) ++ drop m e ≡ drop k e = sym (drop-append-le k (take m e) (drop m e) room) ∙ ap (drop k) (take-append-drop m e) in
    record {
      holds = ap (λ zs. zs ++ drop m e) (w.holds ∙ placed_fits ys (take m e) room) ∙ append_assoc ys (drop k (take m e)) (drop m e) ∙ ap (λ zs. ys ++ zs) back ∙ sym (placed_fits ys e in_e);
      count = omega (arith, w.count);
    }

-- what stands at the first mark is the mark
mark_one : (m c : ℕ) (cs : Text) (b : Bool) → (before m cs < length cs → get_or cs (before m cs) 0 ≡ m) → eqb c m ≡ b → cond (not b) (1 + before m cs) 0 < length (c ∷ cs) → get_or (c ∷ cs) (cond (not b) (1 + before m cs) 0) 0 ≡ m
mark_one m c cs true f e h = eqb-true c m e
mark_one m c cs false f e h = ap (λ k. get_or (c ∷ cs) k 0) (one-add (before m cs)) ∙ f (omega arith)

at_mark : (m : ℕ) (t : Text) → before m t < length t → get_or t (before m t) 0 ≡ m
at_mark m [] h = absurd (omega arith)
at_mark m (c ∷ cs) h = mark_one m c cs (eqb c m) (at_mark m cs) refl h

marked_some : (q : Text) → 0 < length q → marked q ≡ 63 ∷ q
marked_some [] h = absurd (omega arith)
marked_some (c ∷ cs) h = refl

marked_short : (q : Text) (n : ℕ) → length q ≡ n - 1 → length (marked q) ≤ n
marked_short [] n e = omega arith
marked_short (c ∷ cs) n e = omega arith

module _ (e : Text) (m : ℕ) (is : m ≡ before 63 e) where
  path_is : take (m - 0) e ≡ path_of e
  path_is = ap (λ k. take k e) (sub-zero m ∙ is)

  in_e : m ≤ length e
  in_e = omega (arith, prefix_len-le-length (λ c. not (eqb c 63)) e)

  -- the path's canonical form is no longer than the path, and so the target's
  module _ (fits : length (undone_path (take (m - 0) e)) ≤ length (take (m - 0) e)) where
    path_fits : length (undone_path (take (m - 0) e)) ≤ m
    path_fits = omega (arith, simp (length-take) at fits)

    all_fits : length (undone e) ≤ length e
    all_fits =
        let same = ap (λ p. length (undone_path p)) path_is in
        let query : length (query_of e) ≡ length e - before 63 e - 1 = simp length-drop (omega arith) in
        simp length-append (omega (arith, path_fits, in_e, marked_short (query_of e) (length e - before 63 e) query))

    module _ (part : Text) (n : ℕ) (w : Wrote (undone_path (take (m - 0) e)) (take (m - 0) e) part n) where
      path_done : Wrote (undone_path (take (m - 0) e)) e (part ++ drop (m - 0) e) n
      path_done = widened _ e part (m - 0) n (omega (arith, in_e)) (omega (arith, path_fits)) w

      long : length (part ++ drop (m - 0) e) ≡ length e
      long = ap length path_done.holds ∙ length_placed (undone_path (take (m - 0) e)) e

      -- no query, or an empty one
      path_alone : length e ≤ m + 1 → undone_path (take (m - 0) e) ≡ undone e
      path_alone h =
          let past : length e ≤ before 63 e + 1 = omega arith in
          ap undone_path path_is ∙ sym (append-nil (undone_path (path_of e))) ∙ ap (λ q. undone_path (path_of e) ++ marked q) (sym (drop_all (before 63 e + 1) e past))

      -- the query with its mark, as it still stands behind the path
      query_left : m + 1 < length e → drop (m - n) (take (length (part ++ drop (m - 0) e) - n) (drop n (part ++ drop (m - 0) e))) ≡ marked (query_of e)
      query_left h =
          let v = part ++ drop (m - 0) e in
          let here : before 63 e < length e = omega arith in
          let some : 0 < length (query_of e) = simp length-drop (omega arith) in
          let few : n ≤ m = omega (arith, w.count, path_fits) in
          let far : n + (m - n) ≡ m = omega arith in
          let size : length part ≡ m = ap length w.holds ∙ length_placed (undone_path (take (m - 0) e)) (take (m - 0) e) ∙ length-take-le (m - 0) e (omega (arith, in_e)) ∙ sub-zero m in
          ap (drop (m - n)) (take_rest v n) ∙ drop-drop (m - n) n v ∙ ap (λ k. drop k v) far ∙ drop_at part (drop (m - 0) e) m size ∙ ap (λ k. drop k e) (sub-zero m ∙ is)
          ∙ drop_more e (before 63 e) 0 here ∙ ap (λ x. x ∷ query_of e) (at_mark 63 e here) ∙ sym (marked_some (query_of e) some)

      both : m + 1 < length e → undone_path (take (m - 0) e) ++ drop (m - n) (take (length (part ++ drop (m - 0) e) - n) (drop n (part ++ drop (m - 0) e))) ≡ undone e
      both h = ap (λ p. undone_path p ++ drop (m - n) (take (length (part ++ drop (m - 0) e) - n) (drop n (part ++ drop (m - 0) e)))) path_is ∙ ap (λ q. undone_path (path_of e) ++ q) (query_left h)

counted : (e v : Text) (r : ℕ) → length (undone e) ≤ length e → Wrote (undone e) e v r → r ≡ length (undone e)
counted e v r h w = omega (arith, w.count)

pub returns-then-mark-target : goal.returns-then-mark-target
returns-then-mark-target c =
    let e = c.args.target.now in
    let m = c.span_before-mark.result in
    let is = c.span_before-mark.ensures.is in
    let fits = c.undo_path-n.ensures.within in
    let part = c.undo_path-n.new.path in
    let n = c.undo_path-n.result in
    let w = c.undo_path-n.ensures.is in
    let short : length e ≤ m + 1 = omega (arith, c.if-mark-target.true, long e m is fits part n w) in
    let all = wrote_as e _ n (path_alone e m is fits part n w short) (path_done e m is fits part n w) in
    record { value = counted e _ n (all_fits e m is fits) all; after = all.holds; within = all_fits e m is fits }

pub returns : goal.returns
returns c =
    let e = c.args.target.now in
    let m = c.span_before-mark.result in
    let is = c.span_before-mark.ensures.is in
    let fits = c.undo_path-n.ensures.within in
    let part = c.undo_path-n.new.path in
    let n = c.undo_path-n.result in
    let w = c.undo_path-n.ensures.is in
    let more : m + 1 < length e = omega (arith, c.if-mark-target.false, long e m is fits part n w) in
    let all = wrote_as e _ _ (both e m is fits part n w more) (wrote_more _ _ e _ _ n c.move_down.result (path_done e m is fits part n w) c.move_down.ensures) in
    record { value = counted e _ _ (all_fits e m is fits) all; after = all.holds; within = all_fits e m is fits }
