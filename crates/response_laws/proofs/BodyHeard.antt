-- A piece that comes while a body is being read.
use Rattle.std.proofs.Common.{◌≡◌, ℕ, ◌+◌, ◌-◌, ◌^◌, ◌<◌, ◌≤◌, true, ◌&&◌, leb, ◌++◌, map, length, take, drop, Some, None, Ok, Err, sym, refl, ap, ap₂, ◌∙◌, subst, append_assoc, add_assoc, length-append, take_at, drop_at, arith}
use lib.Seq.{drop-append-add}
use Rattle.std.proofs.lemmas.List.{length-drop, take-take, drop-take}
use Rattle.std.proofs.lemmas.Bool.{cond-true, leb-true, le-leb, and_from}
use Rattle.text.specs.Bytes.{Text, placed}
use Rattle.message.specs.Bodies.{Part, part_of, unplaced, bare_outcome, bare, room_of, fits, told, fed_by as body_fed, held_by as body_held}
use Rattle.message.specs.Chunked.{most_bytes}
use Rattle.message.specs.Hops.{field_of, kept_of}
use Rattle.message.specs.Sent.{Found as Fields, ended, more as more_fields, wrong, fields_in}
use Rattle.message.specs.declared.chunked.Outcome.{Outcome}
use Rattle.message.specs.declared.chunked.Outcome.TheVariants.{More, Whole as AllOfIt, Wrong}
use Rattle.message.proofs.Bodies.{part_bounded}
use Rattle.message_laws.specs.Laws.{behind, on_part as onward_at}
use Rattle.message_laws.proofs.Parts.{cut_free, all_read}
use Rattle.message_laws.proofs.Standing.{Holds, then_long, then_holds}
use Rattle.message_laws.proofs.Unplaced.{part_unplaced, unplaced_again, room_unplaced, unplaced_fits, room_left}
use Rattle.request.specs.Canonical.{field_limit}
use Rattle.request.specs.Heads.{window}
use Rattle.request.specs.Reading.{memory_size}
use Rattle.response.specs.Found.{body_if, copied, with_fields, holds, response_in}
use Rattle.response.specs.Reading.{After, in_body, on_outcome, on_fed, due_step}
use Rattle.response.specs.Status.{is_last}
use Rattle.response.specs.declared.head.Head.{Head}
use Rattle.response.specs.declared.reading.Body.{Body}
use Rattle.response.specs.declared.reading.Reading.TheVariants.{Whole}
use Rattle.connection.specs.Model.{whole}
use Rattle.response_laws.specs.Ear.{meant, with_fields as meaning_by, on_part, on_body, on_judged, ear}
use Rattle.response_laws.specs.Held.{BodyHeld, Brings}

-- a head and a body have room in the memory
pub capacity : window + most_bytes ≤ memory_size
unfolding window most_bytes memory_size
capacity = leb-true (20480 + 262143) 282624 refl

-- of a part without places the same is found
bare_reads : (head : Head) (h x : Text) (p : Part) (o : Outcome) → on_part head h x p o ≡ on_part head h x (bare p) (bare_outcome o)
bare_reads head h x p More = refl
bare_reads head h x p AllOfIt = refl
bare_reads head h x p (Wrong w) = refl

-- what lies in the memory is what the bytes mean
module _ (head : Head) (front body memory : Text) (end : ℕ) (long : length front ≡ head.len) (line_in : head.line + 2 ≤ head.len) (fill : end ≡ length front + length body) (held : take end memory ≡ front ++ body) (fits : end ≤ length memory) where
  head_lies : take head.len memory ≡ front
  head_lies = sym (take-take head.len end memory (omega arith)) ∙ ap (take head.len) held ∙ take_at front body head.len long

  line_lies : take head.line memory ≡ take head.line front
  line_lies = sym (take-take head.line head.len memory (omega arith)) ∙ ap (take head.line) head_lies

  body_lies : take (end - head.len) (drop head.len memory) ≡ body
  body_lies =
      let far : head.len + (end - head.len) ≡ end = omega (arith, fill, long) in
      sym (drop-take head.len (end - head.len) memory) ∙ ap (λ n. drop head.len (take n memory)) far ∙ ap (drop head.len) held ∙ drop_at front body head.len long

  fields_lie : (f : Fields) → with_fields head end memory f ≡ meaning_by head front body f
  fields_lie (ended fs n) = ap₂ (λ l b. Some record { line = l; fields = kept_of (map field_of fs); body = body_if head.bodied b }) line_lies body_lies
  fields_lie more_fields = refl
  fields_lie (wrong w) = refl

  there : holds (length memory) head end ≡ true
  there =
      and_from (leb (head.line + 2) head.len && leb head.len end) (leb end (length memory))
      (and_from (leb (head.line + 2) head.len) (leb head.len end) (le-leb (head.line + 2) head.len line_in) (le-leb head.len end (omega arith))) (le-leb end (length memory) fits)

  pub lies : response_in (Whole head end) memory ≡ meant head front body
  lies =
      cond-true (holds (length memory) head end) (with_fields head end memory (fields_in field_limit (take head.len memory) (head.line + 2))) None there
      ∙ ap (λ h. with_fields head end memory (fields_in field_limit h (head.line + 2))) head_lies
      ∙ fields_lie (fields_in field_limit front (head.line + 2))

behind_more : (xs ys : Text) (m n : ℕ) (p : Part) → behind xs m (behind ys n p) ≡ behind (xs ++ ys) (m + n) p
behind_more xs ys m n p = rw (append_assoc xs ys p.body, add_assoc m n p.taken)

module _ (m memory part piece : Text) (b : Body) (h : BodyHeld b memory m part) (size : length memory ≡ memory_size) (counted : length piece < 2 ^ 64) where
  abbrev next : Part
  next = part_of b.due piece

  abbrev rest : Text
  rest = drop b.filled memory

  abbrev then : Text
  then = take b.filled memory ++ placed next.body rest

  room : b.filled + room_of b.due ≤ length memory
  room = omega (arith, h.fill, h.within, h.room, capacity)

  free : fits b.due (length rest) (length piece) ≡ true
  free = unplaced_fits b.due (length rest) (length piece) h.placeless (omega (arith, room, length-drop b.filled memory)) counted

  kept : length next.body ≤ length rest
  kept = (part_bounded b.due piece (length rest) (length piece) free).kept

  read : next.taken ≤ length piece
  read = (part_bounded b.due piece (length rest) (length piece) free).read

  pub stepped : due_step b memory piece ≡ on_outcome b.head b.filled (told next) then next.outcome
  stepped =
      let fed : body_fed b.due (length rest) piece ≡ Ok (told next) = cond-true (fits b.due (length rest) (length piece)) (Ok (told next)) (Err record {}) free in
      let put : body_held b.due rest piece ≡ placed next.body rest = cond-true (fits b.due (length rest) (length piece)) (placed next.body rest) rest free in
      ap (on_fed b memory (body_held b.due rest piece)) fed ∙ ap (λ xs. on_outcome b.head b.filled (told next) (take b.filled memory ++ xs) next.outcome) put

  -- how the ear reads all of it
  abbrev all_of_it : Part
  all_of_it = behind h.body (length h.come) next

  reads : ear m (part ++ piece) ≡ on_part b.head h.front (h.come ++ piece) (bare all_of_it) (bare_outcome next.outcome)
  reads =
      let x = h.come ++ piece in
      let s = h.front ++ x in
      let p = part_of h.start x in
      ap (ear m) (ap (λ z. z ++ piece) h.joined ∙ append_assoc h.front h.come piece)
      ∙ ap (on_judged s) (h.judges x)
      ∙ ap₂ (λ f y. on_body b.head f h.start y) (take_at h.front x b.head.len h.long) (drop_at h.front x b.head.len h.long)
      ∙ bare_reads b.head h.front x p p.outcome
      ∙ ap (λ (q : Part). on_part b.head h.front x q q.outcome) (h.goes_on piece)

  lying : Holds h.front h.body b.filled memory
  lying = record { fill = h.fill; held = h.held }

  memory_holds : Holds h.front (h.body ++ next.body) (b.filled + length next.body) then
  memory_holds = then_holds lying next.body (omega (arith, kept, room, length-drop b.filled memory))

  pub then_size : length then ≡ memory_size
  then_size = then_long lying next.body ∙ size

  on_more : next.outcome ≡ More → Brings m part piece (on_outcome b.head b.filled (told next) then More) (in_body b.head (b.filled + length next.body) (unplaced next.due))
  on_more e = (
    reads ∙ ap (λ o. on_part b.head h.front (h.come ++ piece) (bare all_of_it) (bare_outcome o)) e,
    all_read b.due piece e,
    record {
      front = h.front;
      come = h.come ++ piece;
      start = h.start;
      body = h.body ++ next.body;
      joined = ap (λ z. z ++ piece) h.joined ∙ append_assoc h.front h.come piece;
      long = h.long;
      within = h.within;
      line_in = h.line_in;
      judges = h.judges;
      goes_on = λ y.
          let on : part_of b.due (piece ++ y) ≡ behind next.body next.taken (part_of next.due y) = cut_free b.due piece y ∙ ap (λ o. onward_at o next (λ t. part_of t y)) e in
          let count : length h.come + next.taken ≡ length (h.come ++ piece) = omega (arith, all_read b.due piece e, length-append h.come piece) in
          ap (λ z. bare (part_of h.start z)) (append_assoc h.come piece y)
          ∙ h.goes_on (piece ++ y)
          ∙ ap (λ q. bare (behind h.body (length h.come) q)) on
          ∙ ap bare (behind_more h.body next.body (length h.come) next.taken (part_of next.due y))
          ∙ ap (λ n. behind (h.body ++ next.body) n (bare (part_of next.due y))) count
          ∙ ap (behind (h.body ++ next.body) (length (h.come ++ piece))) (sym (part_unplaced next.due y));
      room = omega (arith, h.room, room_left b.due piece e, room_unplaced next.due, length-append h.body next.body);
      placeless = unplaced_again next.due;
      fill = memory_holds.fill;
      held = memory_holds.held;
    },
  )

  on_whole : next.outcome ≡ AllOfIt → Brings m part piece (on_outcome b.head b.filled (told next) then AllOfIt) (Whole b.head (b.filled + length next.body))
  on_whole e =
      let end : ℕ = b.filled + length next.body in
      let inside : end ≤ length then = omega (arith, then_size, size, kept, room, length-drop b.filled memory) in
      let there = lies b.head h.front (h.body ++ next.body) then end h.long h.line_in memory_holds.fill memory_holds.held inside in (
        reads ∙ ap (λ o. on_part b.head h.front (h.come ++ piece) (bare all_of_it) (bare_outcome o)) e
            ∙ ap₂ (λ t r. whole record { last = is_last b.head.status; text = copied t } r) (sym there) (drop-append-add h.come piece next.taken),
        read,
      )

  on_wrong : (o : Outcome) → next.outcome ≡ o → Brings m part piece (on_outcome b.head b.filled (told next) then o) (on_outcome b.head b.filled (told next) then o).reading
  on_wrong More e = on_more e
  on_wrong AllOfIt e = on_whole e
  on_wrong (Wrong w) e = reads ∙ ap (λ o. on_part b.head h.front (h.come ++ piece) (bare all_of_it) (bare_outcome o)) e

  pub body_brings : Brings m part piece (due_step b memory piece) (due_step b memory piece).reading
  body_brings = subst (λ a. Brings m part piece a a.reading) (sym stepped) (on_wrong next.outcome refl)

  -- the memory keeps its size
  outcome_memory : (o : Outcome) → (on_outcome b.head b.filled (told next) then o).memory ≡ then
  outcome_memory More = refl
  outcome_memory AllOfIt = refl
  outcome_memory (Wrong w) = refl

  pub body_size : length (due_step b memory piece).memory ≡ memory_size
  body_size = ap (λ (a : After). length a.memory) stepped ∙ ap length (outcome_memory next.outcome) ∙ then_size
