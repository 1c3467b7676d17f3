-- A piece that comes while a head is being read: all that has come of the head is judged, and the rest of the piece is the body's.
use Rattle.std.proofs.Common.{◌≡◌, ℕ, ◌+◌, ◌-◌, ◌^◌, ◌<◌, ◌≤◌, true, eqb, [], ◌++◌, length, take, drop, Some, None, Ok, Err, Option, Result, take_at, drop_at, sym, refl, ap, ap₂, ◌∙◌, subst, inl, inr, append-nil, length-append, take-append-drop, zero-add, arith}
use lib.Seq.{drop-append-add, drop-drop}
use Rattle.std.proofs.lemmas.List.{length-take, length-drop, take_all, take-take, take-append-le}
use Rattle.std.proofs.lemmas.Bool.{cases_lt, and_from, le-leb, eq-eqb}
use Rattle.text.specs.Bytes.{Text, all}
use Rattle.message.specs.Bodies.{part_of, bare}
use Rattle.request.specs.Heads.{window}
use Rattle.request.specs.Reading.{memory_size, placed_at}
use Rattle.request_laws.proofs.Leads.{take_joined}
use Rattle.request_laws.proofs.MemoryPlaced.{front_within, placed_long, placed_upto}
use Rattle.response.specs.Found.{copied, response_in}
use Rattle.response.specs.Heads.{judged}
use Rattle.response.specs.Status.{is_last}
use Rattle.response.specs.Reading.{After, further, on_judged as judged_after, head_step, due_step, body_after, step, fits_state, fits_in}
use Rattle.response.specs.declared.head.Judged.{Judged}
use Rattle.response.specs.declared.head.Unreadable.{Unreadable as NoResponse}
use Rattle.response.specs.declared.reading.Reading.{Reading}
use Rattle.response.specs.declared.reading.Reading.TheVariants.{InHead, InBody, Whole, Unreadable}
use Rattle.connection.specs.Model.{whole}
use Rattle.response_laws.specs.Ear.{on_judged, ear}
use Rattle.response_laws.specs.Held.{BodyHeld, Held, Brings}
use Rattle.response_laws.proofs.Front.{unended_room}
use Rattle.response_laws.proofs.Steadily.{Headed, headed}
use Rattle.response_laws.proofs.BodyHeard.{capacity, body_brings, body_size}

-- of two ways to cut one text, the shorter front begins the longer
cut_front : (p s t u : Text) → p ++ s ≡ t ++ u → length t ≤ length p → p ≡ t ++ drop (length t) p
cut_front p s t u e l =
    let same : take (length t) p ≡ t = sym (take-append-le (length t) p s l) ∙ ap (take (length t)) e ∙ take_at t u (length t) refl in
    sym (take-append-drop (length t) p) ∙ ap (λ z. z ++ drop (length t) p) same

-- what a piece brings, where a front of it belongs to bytes before
carried : (m part piece first rest : Text) (n : ℕ) (a : After) (r : Reading) → part ++ piece ≡ first ++ rest → rest ≡ drop n piece → n ≤ length piece → Brings m first rest a r → Brings m part piece (further n a) r
carried m part piece first rest n a (InHead k) same is less (more_now, all_taken, held) = (ap (ear m) same ∙ more_now, omega (arith, all_taken, ap length is, length-drop n piece), subst (λ s. Held (InHead k) a.memory m s) (sym same) held)
carried m part piece first rest n a (InBody b) same is less (more_now, all_taken, held) = (ap (ear m) same ∙ more_now, omega (arith, all_taken, ap length is, length-drop n piece), subst (λ s. BodyHeld b a.memory m s) (sym same) held)
carried m part piece first rest n a (Whole head end) same is less (found, within) =
    (ap (ear m) same ∙ found ∙ ap (whole (record { last = is_last head.status; text = copied (response_in (Whole head end) a.memory) })) (ap (drop a.taken) is ∙ drop-drop a.taken n piece), omega (arith, ap length is, length-drop n piece))
carried m part piece first rest n a Unreadable same is less wrong = ap (ear m) same ∙ wrong

module _ (m memory part piece : Text) (n : ℕ) (size : length memory ≡ memory_size) (counted : length piece < 2 ^ 64) (fill : n ≡ length part) (held : take n memory ≡ part) (unended : judged m part ≡ Ok None) where
  short : length part < window
  short = unended_room m part unended

  abbrev stored : Text
  stored = take (window - n) piece

  stored_long : n + length stored ≤ window
  stored_long = omega (arith, short, fill, length-take (window - n) piece)

  room : n + length stored ≤ length memory
  room = omega (arith, stored_long, size, capacity)

  abbrev then : Text
  then = placed_at n stored memory

  then_size : length then ≡ memory_size
  then_size = placed_long n stored memory room ∙ size

  abbrev all_come : Text
  all_come = part ++ piece

  -- all that has come, as far as the window goes
  front_is : take window all_come ≡ part ++ stored
  front_is = take_joined window part piece ∙ ap₂ (λ u k. u ++ take (window - k) piece) (take_all window part (omega (arith, short))) (sym fill)

  seen : take (n + length stored) then ≡ take window all_come
  seen = placed_upto n stored memory room ∙ ap (λ u. u ++ stored) held ∙ sym front_is

  on_err : judged m (take window all_come) ≡ Err record {} → Brings m part piece (body_after piece (judged_after n (length stored) then (Err record {}))) Unreadable
  on_err e = ap (on_judged all_come) e

  on_none : judged m (take window all_come) ≡ Ok None → Brings m part piece (body_after piece (judged_after n (length stored) then (Ok None))) (InHead (n + length stored))
  on_none e =
      let left = unended_room m (take window all_come) e in
      let less : length all_come ≤ window = omega (arith, left, length-take window all_come) in
      let all = take_all window all_come less in
      let count : n + length stored ≡ length all_come = ap (λ k. k + length stored) fill ∙ sym (length-append part stored) ∙ ap length (sym front_is ∙ all) in
      (ap (on_judged all_come) e, omega (arith, count, length-append part piece, fill), (count, seen ∙ all, ap (judged m) (sym all) ∙ e))

  module _ (j : Judged) (e : judged m (take window all_come) ≡ Ok (Some j)) where
    abbrev top : Headed m all_come j
    top = headed m all_come j e

    -- the head ends behind the bytes of which more was wanted
    ends_behind : n ≤ j.head.len
    ends_behind = elim (cases_lt j.head.len n) [
      | inl lt ↦
          let cut : part ≡ top.front ++ drop (length top.front) part = cut_front part piece top.front top.behind top.joined (omega (arith, top.long, fill)) in
          let again : judged m (take window part) ≡ Ok (Some j) = ap (λ z. judged m (take window z)) cut ∙ top.judges (drop (length top.front) part) in
          let no : judged m part ≡ Ok (Some j) = ap (judged m) (sym (take_all window part (omega (arith, short)))) ∙ again in
          cc
      | inr ge ↦ ge
    ]

    abbrev own : ℕ
    own = j.head.len - n

    own_within : own ≤ length piece
    own_within = omega (arith, ap length top.joined, length-append top.front top.behind, top.long, length-append part piece, fill)

    abbrev rest : Text
    rest = drop own piece

    joined : all_come ≡ top.front ++ rest
    joined =
        let far : j.head.len ≡ length part + own = omega (arith, ends_behind, fill) in
        let left : top.behind ≡ rest =
        sym (drop_at top.front top.behind j.head.len top.long) ∙ ap (drop j.head.len) (sym top.joined) ∙ ap (λ k. drop k all_come) far ∙ drop-append-add part piece own in
        top.joined ∙ ap (λ z. top.front ++ z) left

    front_lies : take j.head.len then ≡ top.front
    front_lies =
        let sum : length (take window all_come) ≡ n + length stored = ap length front_is ∙ length-append part stored ∙ ap (λ k. k + length stored) (sym fill) in
        let all_long : length all_come ≡ j.head.len + length top.behind = ap length top.joined ∙ length-append top.front top.behind ∙ ap (λ k. k + length top.behind) top.long in
        let less : j.head.len ≤ n + length stored = omega (arith, sum, length-take window all_come, top.within, top.long, all_long) in
        front_within j.head.len (n + length stored) then (take window all_come) less seen
        ∙ take-take j.head.len window all_come (omega (arith, top.within, top.long))
        ∙ ap (take j.head.len) top.joined ∙ take_at top.front top.behind j.head.len top.long

    b : BodyHeld record { head = j.head; filled = j.head.len; due = j.due } then m top.front
    b = record {
      front = top.front;
      come = [];
      start = j.due;
      body = [];
      joined = sym (append-nil top.front);
      long = top.long;
      within = top.within;
      line_in = top.line_in;
      judges = top.judges;
      goes_on = λ y. ap bare (rw (zero-add (part_of j.due y).taken) refl);
      room = omega (arith, top.room);
      placeless = top.unplaced_due;
      fill = omega (arith, top.long);
      held = front_lies ∙ sym (append-nil top.front);
    }

    on_some : Brings m part piece (body_after piece (judged_after n (length stored) then (Ok (Some j)))) (body_after piece (judged_after n (length stored) then (Ok (Some j)))).reading
    on_some =
        let x = due_step record { head = j.head; filled = j.head.len; due = j.due } then rest in
        let less : length rest < 2 ^ 64 = omega (arith, length-drop own piece) in
        carried m part piece top.front rest own x x.reading joined refl own_within (body_brings m then top.front rest record { head = j.head; filled = j.head.len; due = j.due } b then_size less)

    some_size : length (body_after piece (judged_after n (length stored) then (Ok (Some j)))).memory ≡ memory_size
    some_size =
        let less : length rest < 2 ^ 64 = omega (arith, length-drop own piece) in
        body_size m then top.front rest record { head = j.head; filled = j.head.len; due = j.due } b then_size less

  size_by : (r : Result (Option Judged) NoResponse) → judged m (take window all_come) ≡ r → length (body_after piece (judged_after n (length stored) then r)).memory ≡ memory_size
  size_by (Err u) e = then_size
  size_by (Ok None) e = then_size
  size_by (Ok (Some j)) e = some_size j e

  pub head_size : length (body_after piece (head_step m n memory piece)).memory ≡ memory_size
  head_size = size_by (judged m (take (n + length stored) then)) (ap (judged m) (sym seen))

  by_judged : (r : Result (Option Judged) NoResponse) → judged m (take window all_come) ≡ r → Brings m part piece (body_after piece (judged_after n (length stored) then r)) (body_after piece (judged_after n (length stored) then r)).reading
  by_judged (Err u) e = on_err e
  by_judged (Ok None) e = on_none e
  by_judged (Ok (Some j)) e = on_some j e

  pub head_brings : Brings m part piece (body_after piece (head_step m n memory piece)) (body_after piece (head_step m n memory piece)).reading
  head_brings =
      by_judged (judged m (take (n + length stored) then)) (ap (judged m) (sym seen))

-- before the first byte nothing has come, whatever the memory holds
pub none_held : (memory m : Text) → Held (InHead 0) memory m []
unfolding all window
none_held memory m = (refl, refl, refl)

pub fits_so : (size : ℕ) (r : Reading) → size ≡ memory_size → fits_state size r ≡ true → fits_in size r ≡ true
fits_so size r e h = and_from (eqb size memory_size) (fits_state size r) (eq-eqb size memory_size e) h

-- A piece of a response of which a part is held.
module _ (m memory part piece : Text) (size : length memory ≡ memory_size) where
  pub held_fits : (r : Reading) → Held r memory m part → fits_in (length memory) r ≡ true
  held_fits (InHead n) (fill, held, unended) = fits_so (length memory) (InHead n) size (le-leb n window (let less = unended_room m part unended in omega arith))
  held_fits (InBody b) h = fits_so (length memory) (InBody b) size (le-leb b.filled (length memory) (omega (arith, h.fill, h.within, h.room, size, capacity)))
  held_fits (Whole head end) h = absurd h
  held_fits Unreadable h = absurd h

  pub brings : (r : Reading) → length piece < 2 ^ 64 → Held r memory m part → Brings m part piece (step m r memory piece) (step m r memory piece).reading
  brings (InHead n) counted (fill, held, unended) = head_brings m memory part piece n size counted fill held unended
  brings (InBody b) counted h =
      let a = due_step b memory piece in
      carried m part piece part piece 0 a a.reading refl refl (omega arith) (body_brings m memory part piece b h size counted)
  brings (Whole head end) counted h = absurd h
  brings Unreadable counted h = absurd h

  pub step_size : (r : Reading) → length piece < 2 ^ 64 → Held r memory m part → length (step m r memory piece).memory ≡ memory_size
  step_size (InHead n) counted (fill, held, unended) = head_size m memory part piece n size counted fill held unended
  step_size (InBody b) counted h = body_size m memory part piece b h size counted
  step_size (Whole head end) counted h = absurd h
  step_size Unreadable counted h = absurd h
