use Rattle.std.proofs.Common.{◌≡◌, ℕ, ◌+◌, ◌-◌, ◌^◌, ◌<◌, ◌≤◌, min, true, eqb, leb, List, length, take, Some, None, Ok, Err, Option, Result, sym, refl, ap, ◌∙◌, subst, ⊎_elim, le_trans, arith, lit≤, lit<}
use native.Mathlib.Nat.{sub-zero}
use Rattle.std.proofs.lemmas.List.{length-take, take_all}
use Rattle.std.proofs.lemmas.Bool.{cases_lt, le-leb, eq-eqb, and_from}
use Rattle.text.specs.Bytes.{Text}
use Rattle.message.specs.Bodies.{fits}
use Rattle.message.specs.Chunked.{most_bytes}
use Rattle.message.specs.declared.fault.Flaw.{Flaw}
use Rattle.message.proofs.Bodies.{start_fits}
use Rattle.request.specs.Heads.{window, judged, Sound}
use Rattle.request.specs.Hosts.{names_of}
use Rattle.request.specs.Reading.{After, memory_size, placed_at, in_body, on_judged, head_step, fits_head, fits_due, fits_state, fits_in, fed_by}
use Rattle.request.specs.declared.head.Judged.{Judged}
use Rattle.request.specs.declared.reading.Reading.{Reading}
use Rattle.request.specs.declared.reading.Reading.TheVariants.{InHead, Refused}
use Rattle.request.proofs.reading.feed_head.Goals as goal

-- as much of a piece as there is room for
cut_is : (n k : ℕ) (xs : Text) → n ≡ min (length xs) k → take (n - 0) xs ≡ take k xs
cut_is n k xs e =
    ⊎_elim
    (λ h. let all : length xs ≤ n - 0 = omega arith in let past : length xs ≤ k = omega arith in take_all (n - 0) xs all ∙ sym (take_all k xs past))
    (λ h. let is : n - 0 ≡ k = omega arith in ap (λ m. take m xs) is)
    (cases_lt (length xs) k)

-- the sums, over any window
module _ (filled n w size : ℕ) (piece : Text) (room : filled ≤ w) (less : w ≤ size) (e : n ≡ min (length piece) (w - filled)) where
  cut_long : n ≡ length (take (w - filled) piece)
  cut_long = simp length-take (omega arith)

  in_window : filled + n ≤ w
  in_window = omega arith

  in_piece : n ≤ length piece
  in_piece = omega arith

window_less : window ≤ memory_size
unfolding window memory_size
window_less = lit≤ tt

head_and_body : window + most_bytes ≤ memory_size
unfolding window most_bytes memory_size
head_and_body = lit≤ tt

window_counted : window < 2 ^ 64
unfolding window
window_counted = lit< tt

-- what is stored, and what is said of it
module _ (names : List Text) (filled n : ℕ) (memory piece then : Text) (room : filled ≤ window) (e : n ≡ min (length piece) (window - filled)) (is : then ≡ placed_at filled (take (n - 0) piece) memory) where
  step_so : (r : Result (Option Judged) Flaw) → r ≡ judged names (take (filled + n - 0) then) → on_judged filled n then r ≡ head_step names filled memory piece
  step_so r h =
      let part = take (window - filled) piece in
      let stored : then ≡ placed_at filled part memory = is ∙ ap (λ ys. placed_at filled ys memory) (cut_is n (window - filled) piece e) in
      ap (on_judged filled n then) (h ∙ ap (λ k. judged names (take k then)) (sub-zero (filled + n)))
      ∙ ap (λ m. on_judged filled n m (judged names (take (filled + n) m))) stored
      ∙ ap (λ k. on_judged filled k (placed_at filled part memory) (judged names (take (filled + k) (placed_at filled part memory)))) (cut_long filled n window memory_size piece room window_less e)

fits_state_so : (size : ℕ) (r : Reading) → size ≡ memory_size → fits_state size r ≡ true → fits_in size r ≡ true
fits_state_so size r e h = and_from (eqb size memory_size) (fits_state size r) (eq-eqb size memory_size e) h

judged_fits : (size n : ℕ) (j : Judged) → size ≡ memory_size → n ≤ window → Sound n (Ok (Some j)) → fits_in size (in_body j.head j.head.len j.due) ≡ true
judged_fits size n j e h s =
    let len = j.head.len in
    let behind : j.head.len ≤ size = omega (arith, s.2, window_less) in
    let here : j.head.method + 1 + j.head.target ≤ size = omega (arith, s.0, s.1) in
    let most : most_bytes ≤ size - j.head.len = omega (arith, head_and_body, s.2) in
    let counted : j.head.len + 0 < 2 ^ 64 = omega (arith, window_counted, s.2) in
    let due : fits_due size len j.due ≡ true = and_from (leb len size) (fits j.due (size - len) 0) (le-leb len size behind) (start_fits len j.due (size - len) 0 s.3 most counted) in
    fits_state_so size (in_body j.head len j.due) e (and_from (fits_head size j.head) (fits_due size len j.due) (le-leb _ size here) due)

-- how much of a piece belongs to a head that ends in it
sub_within : (len filled n seen long : ℕ) → len ≤ seen → seen ≤ filled + n → n ≤ long → len - filled ≤ long
sub_within len filled n seen long a b c = omega arith

seen_long : (n : ℕ) (xs : Text) → length (take (n - 0) xs) ≤ n
seen_long n xs = simp length-take (omega arith)

pub returns-in-Err : goal.returns-in-Err
unfolding window
returns-in-Err c =
    let so = step_so (names_of c.args.servers.now) c.args.filled c.min-n.result c.args.memory.now c.args.piece.now c.store.new.memory c.requires.0 c.min-n.ensures c.store.ensures (Err c.in-Err.flaw) c.in-Err.ensures.is in
    record {
      told = ap fed_by so;
      held = ap (λ (a : After). a.memory) so;
      fits = fits_state_so (length c.store.new.memory) (Refused c.in-Err.flaw) (c.store.auto.memory ∙ c.requires.1) refl;
      within = in_piece c.args.filled c.min-n.result window memory_size c.args.piece.now c.requires.0 window_less c.min-n.ensures;
    }

pub returns-in-Ok-None : goal.returns-in-Ok-None
unfolding window
returns-in-Ok-None c =
    let none : c.judge_head.result ≡ Ok None = cc in
    let so = step_so (names_of c.args.servers.now) c.args.filled c.min-n.result c.args.memory.now c.args.piece.now c.store.new.memory c.requires.0 c.min-n.ensures c.store.ensures (Ok None) (sym none ∙ c.judge_head.ensures.is) in
    let there = in_window c.args.filled c.min-n.result window memory_size c.args.piece.now c.requires.0 window_less c.min-n.ensures in
    record {
      told = ap fed_by so;
      held = ap (λ (a : After). a.memory) so;
      fits = fits_state_so (length c.store.new.memory) (InHead (c.args.filled + c.min-n.result)) (c.store.auto.memory ∙ c.requires.1) (le-leb (c.args.filled + c.min-n.result) window there);
      within = in_piece c.args.filled c.min-n.result window memory_size c.args.piece.now c.requires.0 window_less c.min-n.ensures;
    }

pub returns-in-Ok-Some : goal.returns-in-Ok-Some
unfolding window
returns-in-Ok-Some c =
    let j = c.in-Ok-Some.judged in
    let seen = take (c.args.filled + c.min-n.result - 0) c.store.new.memory in
    let some : c.judge_head.result ≡ Ok (Some j) = cc in
    let so = step_so (names_of c.args.servers.now) c.args.filled c.min-n.result c.args.memory.now c.args.piece.now c.store.new.memory c.requires.0 c.min-n.ensures c.store.ensures (Ok (Some j)) (sym some ∙ c.judge_head.ensures.is) in
    let sound : Sound (length seen) (Ok (Some j)) = subst (λ (r : Result (Option Judged) Flaw). Sound (length seen) r) some c.judge_head.ensures.sound in
    let there = in_window c.args.filled c.min-n.result window memory_size c.args.piece.now c.requires.0 window_less c.min-n.ensures in
    let long = seen_long (c.args.filled + c.min-n.result) c.store.new.memory in
    let less = in_piece c.args.filled c.min-n.result window memory_size c.args.piece.now c.requires.0 window_less c.min-n.ensures in
    record {
      told = ap (λ k. record { reading = in_body j.head j.head.len j.due; taken = k }) c.saturating_sub.ensures ∙ ap fed_by so;
      held = ap (λ (a : After). a.memory) so;
      fits = judged_fits (length c.store.new.memory) (length seen) j (c.store.auto.memory ∙ c.requires.1) (le_trans long there) sound;
      within = rw c.saturating_sub.ensures (sub_within j.head.len c.args.filled c.min-n.result (length seen) (length c.args.piece.now) sound.2 long less);
    }
