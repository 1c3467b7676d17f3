-- One call more on the bytes of a request, as feeding with one piece more at the end.
use Rattle.std.proofs.Common.{◌≡◌, ℕ, ◌+◌, ◌-◌, ◌^◌, ◌<◌, ◌≤◌, ltb, List, [], ◌∷◌, ◌++◌, length, take, drop, Some, None, Ok, Err, Option, Result, sym, refl, ap, ap₂, ◌∙◌, subst, append_assoc, append-nil, add-zero, zero-add, arith}
use Rattle.std.proofs.lemmas.Bool.{cond_both, ltb-false}
use Rattle.std.proofs.lemmas.List.{length-append, length-drop}
use Rattle.text.specs.Bytes.{Text}
use Rattle.message.specs.Bodies.{Part, part_of}
use Rattle.message.specs.declared.body.Due.{Due}
use Rattle.message.specs.declared.body.Due.TheVariants.{Length, Chunks}
use Rattle.message.specs.declared.chunked.Outcome.{Outcome as Ran}
use Rattle.message.specs.declared.chunked.Outcome.TheVariants.{More, Whole, Wrong}
use Rattle.message.specs.declared.fault.Flaw.{Flaw}
use Rattle.message.specs.declared.fault.Unfit.{Unfit}
use Rattle.message.proofs.Bodies.{run_bounded}
use Rattle.request.specs.Found.{Finding, found_in}
use Rattle.request.specs.Heads.{window, judged}
use Rattle.request.specs.Reading.{After, after, further, memory_size, fed_of, held_by}
use Rattle.request.specs.declared.head.Head.{Head}
use Rattle.request.specs.declared.head.Judged.{Judged}
use Rattle.request.specs.declared.reading.Fed.{Fed}
use Rattle.request.specs.declared.reading.Reading.{Reading}
use Rattle.request.specs.declared.reading.Reading.TheVariants.{InHead}
use Rattle.request_laws.specs.Laws.{joined, taking, on_fed, feeding, finding_of, Took}
use Rattle.request_laws.specs.Outcome.{Outcome, wants, broken, whole, on_ran, on_due, on_head, outcome}
use Rattle.request_laws.specs.Pieces.{InHand, Takes, ReadsOn, Begins}
use Rattle.request_laws.proofs.Feeding.{cut_free}
use Rattle.request_laws.proofs.OutcomeStays.{head_within}

-- pieces with one more at the end
joined_one : (ps : List Text) (p : Text) → joined (ps ++ (p ∷ [])) ≡ joined ps ++ p
unfolding joined
joined_one [] p = append-nil p
joined_one (q ∷ ps) p = ap (λ t. q ++ t) (joined_one ps p) ∙ sym (append_assoc q (joined ps) p)

ok_is : (a b : After) → ◌≡◌ {A = Result After Unfit} (Ok a) (Ok b) → a ≡ b
ok_is a b e = cc

-- what a call with the answer x makes of calls that took n bytes
abbrev called : Result Fed Unfit → Text → ℕ → Result After Unfit
called (Ok f) memory n = Ok (after f.reading (n + f.taken) memory)
called (Err u) memory n = Err u

taking_called : (k n : ℕ) (x : Result Fed Unfit) (memory : Text) → taking k (called x memory n) ≡ called x memory (k + n)
taking_called k n (Ok f) memory = ap (λ j. Ok (after f.reading j memory)) (omega arith)
taking_called k n (Err u) memory = refl

-- calls that end with a, and in the end with one more
module _ (x : Result Fed Unfit) (memory : Text) where
  abbrev Ends : After → Result After Unfit → Type 0
  Ends a y = y ≡ called x memory a.taken

  taking_more : (k : ℕ) (y z : Result After Unfit) (a : After) → taking k y ≡ Ok a → ((b : After) → y ≡ Ok b → further k b ≡ a → Ends b z) → Ends a (taking k z)
  taking_more k (Err u) z a e next = absurd (cc)
  taking_more k (Ok b) z a e next =
      let same : further k b ≡ a = ok_is (further k b) a e in
      let count : k + b.taken ≡ a.taken = ap (λ c. c.taken) same in
      ap (taking k) (next b refl same) ∙ (taking_called k b.taken x memory ∙ ap (called x memory) count)

  fed_more : (y : Result Fed Unfit) (go then : Fed → Result After Unfit) (a : After) → on_fed y go ≡ Ok a → ((f : Fed) (b : After) → go f ≡ Ok b → further f.taken b ≡ a → Ends b (then f)) → Ends a (on_fed y then)
  fed_more (Err u) go then a e next = absurd (cc)
  fed_more (Ok f) go then a e next = taking_more f.taken (go f) (then f) a e (λ b. next f b)

one_call : (x : Result Fed Unfit) (memory : Text) → on_fed x (λ f. Ok (after f.reading 0 memory)) ≡ called x memory 0
one_call (Ok f) memory = ap (λ n. Ok (after f.reading n memory)) (add-zero f.taken ∙ sym (zero-add f.taken))
one_call (Err u) memory = refl

-- the answer to a call more, and what it leaves
abbrev answer : List Text → Text → After → Result Fed Unfit
answer names p a = fed_of names a.reading a.memory p

abbrev leaves : List Text → Text → After → Text
leaves names p a = held_by names a.reading a.memory p

feeding_one : (names : List Text) (p : Text) (ps : List Text) (r : Reading) (memory : Text) (a : After) → feeding names r memory ps ≡ Ok a → feeding names r memory (ps ++ (p ∷ [])) ≡ called (answer names p a) (leaves names p a) a.taken
unfolding feeding
feeding_one names p [] r memory a e =
    subst (λ b. feeding names r memory (p ∷ []) ≡ called (answer names p b) (leaves names p b) b.taken) (ok_is (after r 0 memory) a e) (one_call (fed_of names r memory p) (held_by names r memory p))
feeding_one names p (q ∷ ps) r memory a e =
    fed_more (answer names p a) (leaves names p a) (fed_of names r memory q) (λ f. feeding names f.reading (held_by names r memory q) ps) (λ f. feeding names f.reading (held_by names r memory q) (ps ++ (p ∷ []))) a e
    (λ f b eb same. subst (λ d. Ends (answer names p d) (leaves names p d) b (feeding names f.reading (held_by names r memory q) (ps ++ (p ∷ [])))) same (feeding_one names p ps f.reading (held_by names r memory q) b eb))

-- a request that is whole lies in the bytes in which it was found
part_read : (d : Due) (piece : Text) → (part_of d piece).taken ≤ length piece
part_read (Length n) piece =
    cond_both (ltb (length piece) n) (record { due = Length (n - length piece); body = piece; taken = length piece; outcome = More })
    (record { due = Length 0; body = take n piece; taken = n; outcome = Whole }) (λ (p : Part). p.taken ≤ length piece) (λ e. omega arith) (λ e. ltb-false _ _ e)
part_read (Chunks c) piece = (run_bounded c piece).read

ran_whole : (head : Head) (s : Text) (p : Part) (o : Ran) (f : Finding) (n : ℕ) → on_ran head s p o ≡ whole f n → head.len + p.taken ≡ n
ran_whole head s p More f n e = absurd (cc)
ran_whole head s p Whole f n e = cc
ran_whole head s p (Wrong w) f n e = absurd (cc)

head_whole : (s : Text) (r : Result (Option Judged) Flaw) → ((j : Judged) → r ≡ Ok (Some j) → j.head.len ≤ length s) → (f : Finding) (n : ℕ) → on_head s r ≡ whole f n → n ≤ length s
head_whole s (Err w) in-s f n e = absurd (cc)
head_whole s (Ok None) in-s f n e = absurd (cc)
head_whole s (Ok (Some j)) in-s f n e =
    let p = part_of j.due (drop j.head.len s) in
    let sum = ran_whole j.head s p p.outcome f n e in
    omega (arith, in-s j refl, part_read j.due (drop j.head.len s), length-drop j.head.len s, sum)

pub whole_within : (names : List Text) (s : Text) (f : Finding) (n : ℕ) → outcome names s ≡ whole f n → n ≤ length s
whole_within names s f n = head_whole s (judged names (take window s)) (head_within names s) f n

pub begins : Begins
unfolding feeding joined
begins names memory size = record { first = memory; pieces = []; size = size; are = refl; fed = refl }

-- where a part has come and a call more is made
module _ (names : List Text) (r : Reading) (memory part piece : Text) (h : InHand names r memory part) where
  abbrev all : Text
  all = part ++ piece

  more : List Text
  more = h.pieces ++ (piece ∷ [])

  are : joined more ≡ all
  unfolding more
  are = joined_one h.pieces piece ∙ ap (λ t. t ++ piece) h.are

  takes : (fed : Fed) (then : Text) (o : Outcome) → outcome names all ≡ o → feeding names (InHead 0) h.first more ≡ Ok (after fed.reading (length part + fed.taken) then) → Took (length part + fed.taken) (length all) o → Takes names part piece fed then o
  takes fed then wants is ends took =
      (omega (arith, took, length-append part piece), record { first = h.first; pieces = more; size = h.size; are = are; fed = ends ∙ ap (λ n. Ok (after fed.reading n then)) took })
  takes fed then (broken w) is ends took = tt
  takes fed then (whole f n) is ends took = (took, omega (arith, took, whole_within names all f n is, length-append part piece))

  answered : (x : Result Fed Unfit) (then : Text) (a : After) → called x then (length part) ≡ Ok a → feeding names (InHead 0) h.first more ≡ Ok a → found_in a.reading a.memory ≡ Ok (finding_of (outcome names all)) → Took a.taken (length all) (outcome names all) → ReadsOn names part piece then x
  answered (Err u) then a e ends finds took = absurd (cc)
  answered (Ok fed) then a e ends finds took =
      let same : a ≡ after fed.reading (length part + fed.taken) then = sym (ok_is (after fed.reading (length part + fed.taken) then) a e) in (
        subst (λ b. found_in b.reading b.memory ≡ Ok (finding_of (outcome names all))) same finds,
        takes fed then (outcome names all) refl (ends ∙ ap Ok same) (subst (λ b. Took b.taken (length all) (outcome names all)) same took),
      )

  pub reads_on : length all < 2 ^ 64 → ReadsOn names part piece (held_by names r memory piece) (fed_of names r memory piece)
  unfolding more
  reads_on counted =
      let free = cut_free names h.first more h.size (rw are counted) in
      let one = feeding_one names piece h.pieces (InHead 0) h.first (after r (length part) memory) h.fed in
      answered (fed_of names r memory piece) (held_by names r memory piece) free.0 (sym one ∙ free.1) free.1 (free.2 ∙ ap (λ t. Ok (finding_of (outcome names t))) are) (subst (λ t. Took free.0.taken (length t) (outcome names t)) are free.3)
