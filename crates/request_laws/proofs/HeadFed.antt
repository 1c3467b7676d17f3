-- A piece that comes while the head is read: all that has come of the head is judged, and the rest of the piece is the body's.
use Rattle.std.proofs.Common.{◌≡◌, ℕ, ◌+◌, ◌-◌, ◌^◌, ◌<◌, ◌≤◌, List, [], ◌++◌, length, take, drop, Some, None, Ok, Err, Option, Result, sym, refl, ap, ◌∙◌, subst, ap₂, ⊎_elim, append-nil, arith}
use lib.Seq.{drop-append-add}
use Rattle.std.proofs.lemmas.List.{length-append, length-take, length-take-le, take_all, take-take, take-append-le, take-append-drop, drop_all}
use Rattle.std.proofs.lemmas.Bool.{cases_lt}
use Rattle.text.specs.Bytes.{Text}
use Rattle.message.specs.declared.fault.Flaw.{Flaw}
use Rattle.message_laws.proofs.Standing.{DueAt, begins}
use Rattle.request.specs.Heads.{window, judged}
use Rattle.request.specs.Reading.{memory_size, placed_at, on_judged, head_step, due_step, body_after}
use Rattle.request.specs.declared.head.Judged.{Judged}
use Rattle.request_laws.specs.Outcome.{broken, on_head}
use Rattle.request_laws.proofs.BodyFed.{body_fed}
use Rattle.request_laws.proofs.HeadPasses.{room_left}
use Rattle.request_laws.proofs.HeadSound.{sound}
use Rattle.request_laws.proofs.HeadStays.{head_stays}
use Rattle.request_laws.proofs.Leads.{take_joined}
use Rattle.request_laws.proofs.MemoryPlaced.{front_within, placed_long, placed_upto}
use Rattle.request_laws.proofs.Stands.{capacity, Body, At, going, resting, Comes}

-- a head that is let pass ends behind bytes of which more was wanted
ends_behind : (names : List Text) (s t : Text) (j : Judged) → judged names s ≡ Ok None → judged names (s ++ t) ≡ Ok (Some j) → length s ≤ j.head.len
ends_behind names s t j unended passed =
    ⊎_elim
    (λ (h : j.head.len < length s).
    let n = j.head.len in
    let le : n ≤ length s = omega arith in
    let first : judged names (take n s) ≡ Ok (Some j) = ap (judged names) (sym (take-append-le n s t le)) ∙ (sound names (s ++ t) j passed).alone in
    let whole = take-append-drop n s in
    let room : length (take n s ++ drop n s) ≤ window = rw whole (let short = room_left names s unended in omega arith) in
    let same : judged names s ≡ judged names (take n s) = ap (judged names) (sym whole) ∙ head_stays names (take n s) (drop n s) room (λ e. cc) in
    cc)
    (λ (h : length s ≤ j.head.len). h)
    (cases_lt j.head.len (length s))

module _ (names : List Text) (s piece : Text) (filled : ℕ) (memory : Text) (size : length memory ≡ memory_size) (fill : filled ≡ length s) (held : take filled memory ≡ s) (unended : judged names s ≡ Ok None) (counted : length (s ++ piece) < 2 ^ 64) where
  short : length s < window
  short = room_left names s unended

  abbrev stored : Text
  stored = take (window - filled) piece

  room : filled + length stored ≤ length memory
  room = omega (arith, size, short, fill, length-take (window - filled) piece, capacity)

  abbrev then : Text
  then = placed_at filled stored memory

  then_size : length then ≡ memory_size
  then_size = placed_long filled stored memory room ∙ size

  -- all that has come, as far as the window goes
  seen : take (filled + length stored) then ≡ take window (s ++ piece)
  seen =
      placed_upto filled stored memory room
      ∙ ap₂ (λ u n. u ++ take (window - n) piece) (held ∙ sym (take_all window s (omega (arith, short)))) fill
      ∙ sym (take_joined window s piece)

  front : take window (s ++ piece) ≡ s ++ stored
  front = take_joined window s piece ∙ ap₂ (λ u n. u ++ take (window - n) piece) (take_all window s (omega (arith, short))) (sym fill)

  on_fault : (w : Flaw) → judged names (take window (s ++ piece)) ≡ Err w → Comes names (s ++ piece) (length s) (body_after piece (on_judged filled (length stored) then (Err w)))
  on_fault w e =
      resting record {
        over = tt;
        size = then_size;
        final = broken w;
        is = ap (on_head (s ++ piece)) e;
        ends = λ z. cc;
        finds = refl;
        took = λ n. tt;
      }

  on_none_so : judged names (take window (s ++ piece)) ≡ Ok None → Comes names (s ++ piece) (length s) (body_after piece (on_judged filled (length stored) then (Ok None)))
  on_none_so e =
      let left = room_left names (take window (s ++ piece)) e in
      let less : length (s ++ piece) ≤ window = omega (arith, left, length-take window (s ++ piece)) in
      let all = take_all window (s ++ piece) less in
      let count : filled + length stored ≡ length (s ++ piece) = ap (λ n. n + length stored) fill ∙ sym (length-append s stored) ∙ ap length (sym front ∙ all) in
      going (omega (arith, count, fill)) (ap (on_head (s ++ piece)) e) (then_size, count, seen ∙ all, ap (judged names) (sym all) ∙ e)

  on_some : (j : Judged) → judged names (take window (s ++ piece)) ≡ Ok (Some j) → Comes names (s ++ piece) (length s) (body_after piece (on_judged filled (length stored) then (Ok (Some j))))
  on_some j e =
      let n = j.head.len in
      let k = sound names (take window (s ++ piece)) j e in
      let behind = ends_behind names s stored j unended (ap (judged names) (sym front) ∙ e) in
      let in_window : n ≤ window = omega (arith, k.within, length-take window (s ++ piece)) in
      let in_all : n ≤ length (s ++ piece) = omega (arith, k.within, length-take window (s ++ piece)) in
      let in-seen : n ≤ filled + length stored = omega (arith, k.within, ap length front, length-append s stored, fill) in
      let first = take n (s ++ piece) in
      let rest = drop (n - filled) piece in
      let far : n ≡ length s + (n - filled) = omega arith in
      let joined : first ++ rest ≡ s ++ piece = ap (λ t. first ++ t) (sym (drop-append-add s piece (n - filled)) ∙ ap (λ i. drop i (s ++ piece)) (sym far)) ∙ take-append-drop n (s ++ piece) in
      let long : length first ≡ n = length-take-le n (s ++ piece) in_all in
      let alone : first ≡ take n (take window (s ++ piece)) = sym (take-take n window (s ++ piece) in_window) in
      let own = take_all n first (omega arith) in
      let b : Body names first j.head n j.due j.due then = record {
        judges = ap (judged names) (take_all window first (omega arith) ∙ alone) ∙ k.alone;
        size = then_size;
        body = [];
        holds = record {
          fill = omega (arith, ap length own);
          held = front_within n (filled + length stored) then (take window (s ++ piece)) in-seen seen ∙ sym alone ∙ sym (append-nil (take n first) ∙ own);
        };
        at = subst (λ t. DueAt j.due t j.due []) (sym (drop_all n first (omega arith))) (begins j.due);
      } in
      let x = due_step (record { head = j.head; filled = n; due = j.due }) then rest in
      let count : length first + x.taken ≡ length s + (n - filled + x.taken) = omega arith in
      let fed = body_fed names first rest j.head n j.due j.due then b (rw joined counted) in
      subst (λ m. At names (s ++ piece) m x.reading x.memory) count (subst (λ t. At names t (length first + x.taken) x.reading x.memory) joined fed)

  on_judged_so : (r : Result (Option Judged) Flaw) → judged names (take window (s ++ piece)) ≡ r → Comes names (s ++ piece) (length s) (body_after piece (on_judged filled (length stored) then r))
  on_judged_so (Err w) e = on_fault w e
  on_judged_so (Ok None) e = on_none_so e
  on_judged_so (Ok (Some j)) e = on_some j e

  pub head_fed : Comes names (s ++ piece) (length s) (body_after piece (head_step names filled memory piece))
  head_fed = on_judged_so (judged names (take (filled + length stored) then)) (ap (judged names) (sym seen))
