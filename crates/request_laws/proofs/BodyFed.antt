-- A piece of a body: it goes behind what the memory holds, and with the last of it the request is whole.
use Rattle.std.proofs.Common.{◌≡◌, ℕ, ◌+◌, ◌-◌, ◌^◌, ◌<◌, ◌≤◌, true, List, ◌++◌, length, take, drop, sym, refl, ap, ◌∙◌, subst, ap₂, arith}
use Rattle.std.proofs.lemmas.List.{length-append, length-take-le, length-drop, take-append-le, drop-append-le}
use Rattle.text.specs.Bytes.{Text}
use Rattle.message.specs.Bodies.{Part, part_of, fits, told}
use Rattle.message.specs.declared.body.Due.{Due}
use Rattle.message.specs.declared.chunked.Outcome.{Outcome as Ran}
use Rattle.message.specs.declared.chunked.Outcome.TheVariants.{More, Whole, Wrong}
use Rattle.message_laws.specs.Laws.{behind}
use Rattle.message_laws.proofs.Parts.{all_read}
use Rattle.message_laws.proofs.Standing.{DueAt, Holds, within, then_held, then_long, goes_on, fed, put, put_holds}
use Rattle.request.specs.Reading.{memory_size, on_outcome, on_part as on_fed, due_step}
use Rattle.request.specs.declared.head.Head.{Head}
use Rattle.request_laws.specs.Outcome.{broken, whole, judged_whole, on_ran, on_part, outcome}
use Rattle.request_laws.proofs.RequestFinished.{Lies, finished_finds, finished_over}
use Rattle.request_laws.proofs.Stands.{Body, going, resting, Comes, in_all, lies, still, outcome_is, has_room}

module _ (names : List Text) (s piece : Text) (head : Head) (filled : ℕ) (start due : Due) (memory : Text) (b : Body names s head filled start due memory) (counted : length (s ++ piece) < 2 ^ 64) where
  abbrev len : ℕ
  len = head.len

  abbrev sofar : Text
  sofar = drop len s

  abbrev front : Text
  front = take len s

  abbrev next : Part
  next = part_of due piece

  abbrev then : Text
  then = then_held filled memory next.body

  all : len ≤ length s
  all = in_all names s head start b.judges

  front_long : length front ≡ len
  front_long = length-take-le len s all

  same_front : front ≡ take len (s ++ piece)
  same_front = sym (take-append-le len s piece all)

  same_behind : sofar ++ piece ≡ drop len (s ++ piece)
  same_behind = sym (drop-append-le len s piece all)

  enough : fits start (length memory - length front) (length (sofar ++ piece)) ≡ true
  enough = ap₂ (λ n m. fits start (n - m) (length (sofar ++ piece))) b.size front_long ∙ has_room names s head start b.judges piece counted

  size : length then ≡ memory_size
  size = then_long b.holds next.body ∙ b.size

  holds : Holds (take len (s ++ piece)) (b.body ++ next.body) (filled + length next.body) then
  holds = subst (λ t. Holds t (b.body ++ next.body) (filled + length next.body) then) same_front (put_holds piece b.at b.holds enough)

  -- what all the bytes mean
  outcome_so : (o : Ran) → next.outcome ≡ o → outcome names (s ++ piece) ≡ on_ran head (s ++ piece) (behind b.body (length sofar) next) o
  outcome_so o e =
      outcome_is names s head start b.judges piece ∙ ap (on_part head (s ++ piece)) (ap (part_of start) (sym same_behind) ∙ b.at.on piece)
      ∙ ap (on_ran head (s ++ piece) (behind b.body (length sofar) next)) e

  total : len + (length sofar + next.taken) ≡ length s + next.taken
  total = simp length-drop (omega (arith, all))

  comes : (o : Ran) → next.outcome ≡ o → Comes names (s ++ piece) (length s) (on_outcome head filled (told next) then o)
  comes More e =
      going (omega (arith, all_read due piece e, length-append s piece)) (outcome_so More e) (
        start,
        record {
          judges = still names s head start b.judges piece;
          size = size;
          body = b.body ++ next.body;
          holds = holds;
          at = subst (λ t. DueAt start t next.due (b.body ++ next.body)) same_behind (goes_on piece b.at e);
        },
      )
  comes Whole e =
      let h = take len (s ++ piece) in
      let body = b.body ++ next.body in
      let end = filled + length next.body in
      let lie : Lies head (take len (s ++ piece)) = subst (Lies head) same_front (lies names s head start b.judges) in
      let fill : filled + length next.body ≡ len + length (b.body ++ next.body) = omega (arith, holds.fill, lie.long) in
      let room = within holds in
      let over = finished_over head h body then end lie fill room holds.held in
      resting record {
        over = over.0;
        size = over.1 ∙ size;
        final = whole (judged_whole head h body) (length s + next.taken);
        is = outcome_so Whole e ∙ ap (whole (judged_whole head h body)) total;
        ends = λ z. cc;
        finds = finished_finds head h body then end lie fill room holds.held;
        took = λ n. refl;
      }
  comes (Wrong w) e = resting record { over = tt; size = size; final = broken w; is = outcome_so (Wrong w) e; ends = λ z. cc; finds = refl; took = λ n. tt }

  pub body_fed : Comes names (s ++ piece) (length s) (due_step (record { head = head; filled = filled; due = due }) memory piece)
  body_fed =
      subst (Comes names (s ++ piece) (length s))
      (sym (ap₂ (on_fed (record { head = head; filled = filled; due = due }) memory) (put piece b.at b.holds enough) (fed piece b.at b.holds enough))) (comes next.outcome refl)
