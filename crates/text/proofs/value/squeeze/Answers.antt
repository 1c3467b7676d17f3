use Rattle.std.proofs.Common.{◌≡◌, ℕ, ◌+◌, ◌-◌, ◌<◌, ◌≤◌, Bool, [], ◌∷◌, ◌++◌, length, get_or, take, drop, set, Some, None, sym, ap, ◌∙◌, append_assoc, arith}
use Rattle.std.proofs.lemmas.List.{append-nil, length-set, length-take-le, take-append-drop, take_more_set, drop_more, drop_all, drop-drop, drop-set-lt, get_or-drop}
use Rattle.text.specs.Bytes.{Text, blank, placed}
use Rattle.text.specs.Trims.{before, squeezed, squeezed_byte, squeezed_after}
use Rattle.text.proofs.Places.{placed_fits}
use Rattle.text.proofs.value.squeeze.Goals as goal
use Rattle.text.proofs.value.squeeze.Goals.{in-Some, in_default}

So : Text → Text → ℕ → Bool → ℕ → Type 0
So e v k run i = (k ≤ i) × (length v ≡ length e) × (take k v ++ squeezed_after run (drop i e) ≡ squeezed e) × (drop k v ≡ drop k e)

-- what lies behind the kept bytes is read as it was
untouched : (e v : Text) (k i : ℕ) → k ≤ i → drop k v ≡ drop k e → get_or v i 0 ≡ get_or e i 0
untouched e v k i h d =
    let is : k + (i - k) ≡ i = omega arith in
    ap (λ j. get_or v j 0) (sym is) ∙ sym (get_or-drop k v (i - k) 0) ∙ ap (λ zs. get_or zs (i - k) 0) d ∙ get_or-drop k e (i - k) 0 ∙ ap (λ j. get_or e j 0) is

opened : (e : Text) (i : ℕ) (run : Bool) → i < length e → squeezed_after run (drop i e) ≡ before (squeezed_byte run (get_or e i 0)) (squeezed_after (blank (get_or e i 0)) (drop (i + 1) e))
unfolding squeezed_after
opened e i run h = rw (drop_more e i 0 h)

kept : (e v : Text) (k i x : ℕ) (run : Bool) → i < length e → So e v k run i → squeezed_byte run (get_or e i 0) ≡ Some x → So e (set v k x) (k + 1) (blank (get_or e i 0)) (i + 1)
unfolding So
kept e v k i x run h s is =
    let there : k < length v = omega (arith, s.0, s.1) in
    let rest = squeezed_after (blank (get_or e i 0)) (drop (i + 1) e) in
    let below : k < k + 1 = omega arith in (
      omega (arith, s.0),
      length-set v k x ∙ s.1,
      ap (λ zs. zs ++ rest) (take_more_set v k x there) ∙ append_assoc (take k v) (x ∷ []) rest ∙ ap (λ o. take k v ++ before o rest) (sym is) ∙ ap (λ zs. take k v ++ zs) (sym (opened e i run h)) ∙ s.2,
      drop-set-lt (k + 1) v k x below ∙ sym (drop-drop 1 k v) ∙ ap (drop 1) s.3 ∙ drop-drop 1 k e,
    )

passed : (e v : Text) (k i : ℕ) (run : Bool) → i < length e → So e v k run i → squeezed_byte run (get_or e i 0) ≡ None → So e v k (blank (get_or e i 0)) (i + 1)
unfolding So
passed e v k i run h s is =
    let rest = squeezed_after (blank (get_or e i 0)) (drop (i + 1) e) in
    (omega (arith, s.0), s.1, ap (λ o. take k v ++ before o rest) (sym is) ∙ ap (λ zs. take k v ++ zs) (sym (opened e i run h)) ∙ s.2, s.3)

done : (e v : Text) (k i : ℕ) (run : Bool) → length e ≤ i → k ≤ length e → So e v k run i → (take k v ≡ squeezed e) × (k ≡ length (squeezed e))
unfolding So squeezed_after
done e v k i run h b s =
    let is : take k v ≡ squeezed e = sym (append-nil (take k v)) ∙ ap (λ zs. take k v ++ squeezed_after run zs) (sym (drop_all i e h)) ∙ s.2 in
    let room : k ≤ length v = omega (arith, s.1) in
    (is, sym (length-take-le k v room) ∙ ap length is)

whole : (e v : Text) (k i : ℕ) (run : Bool) → length e ≤ i → k ≤ length e → So e v k run i → v ≡ placed (squeezed e) e
unfolding So
whole e v k i run h b s =
    let d = done e v k i run h b s in
    let room : length (squeezed e) ≤ length e = omega (arith, d.1) in
    sym (take-append-drop k v) ∙ ap (λ zs. zs ++ drop k v) d.0 ∙ ap (λ zs. squeezed e ++ zs) s.3 ∙ ap (λ j. squeezed e ++ drop j e) d.1 ∙ sym (placed_fits (squeezed e) e room)

moved : (e v w : Text) (k j i : ℕ) (p q : Bool) → v ≡ w → k ≡ j → p ≡ q → So e w j q i → So e v k p i
moved e v w k j i p q vw kj pq s = rw (vw, kj, pq) s

pub loop-i-preserved : goal.loop-i-preserved
unfolding So
loop-i-preserved c =
    let e = c.args.v.now in
    let v = c.loop-i.v in
    let k = c.loop-i.at in
    let i = c.loop-i.i in
    let run = c.loop-i.run in
    let h : i < length e = c.loop-i-test.true in
    let read = untouched e v k i c.loop-i.invariant.0 c.loop-i.invariant.3 in
    let run_is = c.is_blank-run.ensures ∙ ap blank read in
    elim c.match-squeezed_byte.branch [
      | in-Some w ↦
          let x = w.in-Some.x in
          moved e _ (set v k x) _ (k + 1) (i + 1) _ _ w.v-is w.at-is run_is (kept e v k i x run h c.loop-i.invariant (ap (squeezed_byte run) (sym read) ∙ sym w.in-Some.ensures))
      | in_default w ↦ moved e _ v _ k (i + 1) _ _ w.v-is w.at-is run_is (passed e v k i run h c.loop-i.invariant (ap (squeezed_byte run) (sym read) ∙ sym w.in_default.ensures))
    ]

pub returns : goal.returns
unfolding So
returns c =
    let e = c.args.v.now in
    let b : c.loop-i.at ≤ length e = omega arith in
    record {
      value = (done e c.loop-i.v c.loop-i.at c.loop-i.i c.loop-i.run c.loop-i-test.false b c.loop-i.invariant).1;
      after = whole e c.loop-i.v c.loop-i.at c.loop-i.i c.loop-i.run c.loop-i-test.false b c.loop-i.invariant;
    }
