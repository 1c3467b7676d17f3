-- Where the reading of a body stands once some of its bytes have come, and what a piece more brings. The body goes to a lent memory, behind what else lies
-- there.
use Rattle.std.proofs.Common.{◌≡◌, ℕ, ◌+◌, ◌-◌, ◌≤◌, true, [], ◌++◌, length, take, drop, Ok, sym, refl, ap, ap₂, ◌∙◌, append_assoc, add_assoc, zero-add, arith}
use native.Mathlib.Nat.{sub-zero}
use Rattle.std.proofs.lemmas.List.{length-append, length-take, length-drop, take_at}
use lib.Seq.{take-append-add}
use Rattle.std.proofs.lemmas.Bool.{cond-true}
use Rattle.text.specs.Bytes.{Text, placed}
use Rattle.text.proofs.Places.{length_placed, placed_fits}
use Rattle.message.specs.Bodies.{Part, part_of, fits, told, fed_by, held_by}
use Rattle.message.specs.declared.body.Due.{Due}
use Rattle.message.specs.declared.chunked.Outcome.TheVariants.{More}
use Rattle.message.proofs.Bodies.{part_bounded}
use Rattle.message_laws.specs.Laws.{behind, on_part, part_onward}
use Rattle.message_laws.proofs.Parts.{cut_free, fit, all_read}

-- After the bytes s of a body of which start was due, due is due, and body is what they hold: reading on from there is reading from the start; and where
-- there was room for all of it there is room for the rest.
pub record DueAt (start : Due) (s : Text) (due : Due) (body : Text) : Type 0 where
  pub on : (q : Text) → part_of start (s ++ q) ≡ behind body (length s) (part_of due q)
  pub room : (q : Text) (size : ℕ) → fits start size (length (s ++ q)) ≡ true → (length body ≤ size) × (fits due (size - length body) (length q) ≡ true)

-- nothing has come
pub begins : (d : Due) → DueAt d [] d []
begins d = record { on = λ q. rw (zero-add (part_of d q).taken) refl; room = λ q size f. (omega arith, rw (sub-zero size) f) }

-- a part that wants more, and what comes behind it
onward_more : (p : Part) (next : Due → Part) → p.outcome ≡ More → part_onward p next ≡ behind p.body p.taken (next p.due)
onward_more p next e = ap (λ o. on_part o p next) e

behind_more : (xs ys : Text) (m n : ℕ) (p : Part) → behind xs m (behind ys n p) ≡ behind (xs ++ ys) (m + n) p
behind_more xs ys m n p = rw (append_assoc xs ys p.body, add_assoc m n p.taken)

-- The memory holds what lies in front of the body and what has come of it, up to the place filled.
pub record Holds (front body : Text) (filled : ℕ) (memory : Text) : Type 0 where
  pub fill : filled ≡ length front + length body
  pub held : take filled memory ≡ front ++ body

-- a write of ys behind that
abbrev pub then_held : ℕ → Text → Text → Text
then_held filled memory ys = take filled memory ++ placed ys (drop filled memory)

module _ {front body : Text} {filled : ℕ} {memory : Text} (h : Holds front body filled memory) where
  pub within : filled ≤ length memory
  within = omega (arith, h.fill, ap length h.held, length-take filled memory, length-append front body)

  pub then_long : (ys : Text) → length (then_held filled memory ys) ≡ length memory
  then_long ys = simp length-append (omega (arith, within, length_placed ys (drop filled memory), length-take filled memory, length-drop filled memory))

  pub then_holds : (ys : Text) → filled + length ys ≤ length memory → Holds front (body ++ ys) (filled + length ys) (then_held filled memory ys)
  then_holds ys room =
      let before = take filled memory in
      let rest = drop filled memory in
      let long : filled ≡ length (take filled memory) = omega (arith, within, length-take filled memory) in
      let fits : length ys ≤ length rest = simp length-drop (omega arith) in
      record {
        fill = simp length-append (omega (arith, h.fill));
        held =
            ap (λ t. take (filled + length ys) (before ++ t)) (placed_fits ys rest fits)
            ∙ ap (λ n. take (n + length ys) (before ++ (ys ++ drop (length ys) rest))) long
            ∙ take-append-add before (ys ++ drop (length ys) rest) (length ys)
            ∙ ap₂ (λ t u. t ++ u) h.held (take_at ys (drop (length ys) rest) (length ys) refl)
            ∙ append_assoc front body ys;
      }

-- a piece from there
module _ {start due : Due} {s body : Text} (piece : Text) (a : DueAt start s due body) where
  abbrev next : Part
  next = part_of due piece

  -- more is wanted with it
  pub goes_on : next.outcome ≡ More → DueAt start (s ++ piece) next.due (body ++ next.body)
  goes_on e =
      let read : length s + next.taken ≡ length (s ++ piece) = omega (arith, all_read due piece e, length-append s piece) in
      record {
        on =
            λ q.
            ap (part_of start) (append_assoc s piece q) ∙ a.on (piece ++ q)
            ∙ ap (behind body (length s)) (cut_free due piece q ∙ onward_more next (λ t. part_of t q) e)
            ∙ behind_more body next.body (length s) next.taken (part_of next.due q)
            ∙ ap (λ n. behind (body ++ next.body) n (part_of next.due q)) read;
        room =
            λ q size f.
            let was = a.room (piece ++ q) size (ap (λ t. fits start size (length t)) (sym (append_assoc s piece q)) ∙ f) in
            let now = fit due piece q (size - length body) was.1 e in
            let sum = length-append body next.body in
            let left : size - length body - length next.body ≡ size - length (body ++ next.body) = omega arith in
            (omega (arith, was.0, now.1), ap (λ n. fits next.due n (length q)) (sym left) ∙ now.2);
      }

  -- It is fed to the end of the memory. There was room for all of the body, and what has come of it can be counted with the piece.
  module _ {front : Text} {filled : ℕ} {memory : Text} (h : Holds front body filled memory) (enough : fits start (length memory - length front) (length (s ++ piece)) ≡ true) where
    -- there is room for the rest of it
    free : fits due (length (drop filled memory)) (length piece) ≡ true
    free =
        let r = a.room piece (length memory - length front) enough in
        let left : length memory - length front - length body ≡ length (drop filled memory) = simp length-drop (omega (arith, h.fill)) in
        ap (λ n. fits due n (length piece)) (sym left) ∙ r.1

    pub fed : fed_by due (length (drop filled memory)) piece ≡ Ok (told next)
    fed = cond-true _ _ _ free

    pub put : held_by due (drop filled memory) piece ≡ placed next.body (drop filled memory)
    put = cond-true _ _ _ free

    pub put_holds : Holds front (body ++ next.body) (filled + length next.body) (then_held filled memory next.body)
    put_holds =
        then_holds h next.body
        (omega (arith, within h, length-drop filled memory, (part_bounded due piece (length (drop filled memory)) (length piece) free).kept))
