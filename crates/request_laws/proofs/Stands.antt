-- Where reading stands once the bytes s have come: what the state and the memory then hold.
use Rattle.std.proofs.Common.{◌≡◌, ℕ, ◌+◌, ◌-◌, ◌^◌, ◌<◌, ◌≤◌, true, List, ◌++◌, length, take, drop, Some, None, Ok, sym, refl, ap, ◌∙◌, arith}
use Rattle.std.proofs.lemmas.List.{length-append, length-take, length-take-le, length-drop, take-take}
use Rattle.std.proofs.lemmas.Bool.{leb-true}
use Rattle.text.specs.Bytes.{Text}
use Rattle.message.specs.Bodies.{fits}
use Rattle.message.specs.Chunked.{most_bytes}
use Rattle.message.specs.Sent.{fields_in}
use Rattle.message.specs.declared.body.Due.{Due}
use Rattle.message.proofs.Bodies.{start_fits}
use Rattle.message_laws.proofs.Standing.{DueAt, Holds}
use Rattle.request.specs.Canonical.{field_limit}
use Rattle.request.specs.Found.{found_in}
use Rattle.request.specs.Heads.{window, judged}
use Rattle.request.specs.Reading.{After, memory_size}
use Rattle.request.specs.declared.head.Head.{Head}
use Rattle.request.specs.declared.head.Judged.{Judged}
use Rattle.request.specs.declared.reading.Reading.{Reading}
use Rattle.request.specs.declared.reading.Reading.TheVariants.{InHead, InBody, Whole, Refused}
use Rattle.request_laws.specs.Laws.{finding_of, Took}
use Rattle.request_laws.specs.Outcome.{Outcome, wants, on_due, on_head, outcome}
use Rattle.request_laws.proofs.HeadSound.{Sound, sound}
use Rattle.request_laws.proofs.OutcomeStays.{window_stays}
use Rattle.request_laws.proofs.RequestFinished.{Lies, Over}

-- a head and a body have room in the memory
pub capacity : window + most_bytes ≤ memory_size
unfolding window most_bytes memory_size
capacity = leb-true (20480 + 262143) 282624 refl

abbrev pub judged_so : Head → Due → Judged
judged_so head start = record { head = head; due = start }

-- a body is being read: the head as sent and the body so far lie in the memory, up to the place filled
pub record Body (names : List Text) (s : Text) (head : Head) (filled : ℕ) (start due : Due) (memory : Text) : Type 0 where
  pub judges : judged names (take window s) ≡ Ok (Some (judged_so head start))
  pub size : length memory ≡ memory_size
  pub body : Text
  pub holds : Holds (take head.len s) body filled memory
  pub at : DueAt start (drop head.len s) due body

-- more is wanted
abbrev pub Stands : List Text → Text → Reading → Text → Type 0
Stands names s (InHead filled) memory = (length memory ≡ memory_size) × (filled ≡ length s) × (take filled memory ≡ s) × (judged names s ≡ Ok None)
Stands names s (InBody b) memory = (start : Due) × Body names s b.head b.filled start b.due memory
Stands names s (Whole head end) memory = ⊥
Stands names s (Refused w) memory = ⊥

-- reading is over, and what is found in the memory is what all the bytes mean
pub record Rests (names : List Text) (s : Text) (taken : ℕ) (r : Reading) (memory : Text) : Type 0 where
  pub over : Over r
  pub size : length memory ≡ memory_size
  pub final : Outcome
  pub is : outcome names s ≡ final
  pub ends : final ≡ wants → ⊥
  pub finds : found_in r memory ≡ Ok (finding_of final)
  pub took : (n : ℕ) → Took taken n final

pub data At (names : List Text) (s : Text) (taken : ℕ) (r : Reading) (memory : Text) : Type 0 where
  going : taken ≡ length s → outcome names s ≡ wants → Stands names s r memory → At names s taken r memory
  resting : Rests names s taken r memory → At names s taken r memory

-- after a step, where n bytes were taken before it
abbrev pub Comes : List Text → Text → ℕ → After → Type 0
Comes names s n a = At names s (n + a.taken) a.reading a.memory

-- a head that was let pass, with bytes that come behind
module _ (names : List Text) (s : Text) (head : Head) (start : Due) (judges : judged names (take window s) ≡ Ok (Some (judged_so head start))) where
  pub known : Sound names (take window s) (judged_so head start)
  known = sound names (take window s) (judged_so head start) judges

  pub in_window : head.len ≤ window
  in_window = omega (arith, known.within, length-take window s)

  pub in_all : head.len ≤ length s
  in_all = omega (arith, known.within, length-take window s)

  pub lies : Lies head (take head.len s)
  lies = record {
    parts = known.parts;
    fields = known.fields;
    long = length-take-le head.len s in_all;
    sent = known.sent;
    ends = ap (λ t. fields_in field_limit t head.fields) (sym (take-take head.len window s in_window)) ∙ known.ends;
  }

  pub still : (piece : Text) → judged names (take window (s ++ piece)) ≡ Ok (Some (judged_so head start))
  still piece = window_stays names s piece (λ e. cc) ∙ judges

  pub outcome_is : (piece : Text) → outcome names (s ++ piece) ≡ on_due head (s ++ piece) start
  outcome_is piece = ap (on_head (s ++ piece)) (still piece)

  -- there is room for all of its body
  pub has_room : (q : Text) → length (s ++ q) < 2 ^ 64 → fits start (memory_size - head.len) (length (drop head.len s ++ q)) ≡ true
  has_room q counted =
      let room : most_bytes ≤ memory_size - head.len = omega (arith, capacity, in_window) in
      let sum : head.len + length (drop head.len s ++ q) ≡ length (s ++ q) = simp (length-append, length-drop) (omega (arith, in_all)) in
      start_fits head.len start (memory_size - head.len) (length (drop head.len s ++ q)) known.due room (omega arith)
