-- What was found in a client's bytes stays found, whatever follows.
use Rattle.std.proofs.Common.{◌≡◌, ◌+◌, ◌-◌, ◌≤◌, List, ◌++◌, length, take, drop, Some, None, Ok, Err, Option, Result, refl, ap, ◌∙◌, arith}
use Rattle.std.proofs.lemmas.List.{length-append, length-take, take-append-le, drop-append-le}
use Rattle.text.specs.Bytes.{Text}
use Rattle.message.specs.Bodies.{Part, part_of}
use Rattle.message.specs.declared.body.Due.{Due}
use Rattle.message.specs.declared.chunked.Outcome.{Outcome as Ran}
use Rattle.message.specs.declared.chunked.Outcome.TheVariants.{More, Whole, Wrong}
use Rattle.message.specs.declared.fault.Flaw.{Flaw}
use Rattle.message_laws.proofs.Parts.{stay}
use Rattle.request.specs.Heads.{window, judged}
use Rattle.request.specs.declared.head.Head.{Head}
use Rattle.request.specs.declared.head.Judged.{Judged}
use Rattle.request_laws.specs.Outcome.{wants, whole, judged_whole, on_ran, on_part, on_due, on_head}
use Rattle.request_laws.specs.Laws.{Stays}
use Rattle.request_laws.proofs.HeadStays.{head_stays}
use Rattle.request_laws.proofs.HeadSound.{sound}
use Rattle.request_laws.proofs.Leads.{take_joined}

-- the window, once what came first is judged, is judged the same with more
pub window_stays : (names : List Text) (s t : Text) → (judged names (take window s) ≡ Ok None → ⊥) → judged names (take window (s ++ t)) ≡ judged names (take window s)
window_stays names s t h =
    let room : length (take window s ++ take (window - length s) t) ≤ window = simp (length-append, length-take) (omega arith) in
    ap (judged names) (take_joined window s t) ∙ head_stays names (take window s) (take (window - length s) t) room h

-- of all that has come, only the head matters to what is made of the body
same_head : (head : Head) (s t : Text) (p : Part) (o : Ran) → take head.len t ≡ take head.len s → on_ran head t p o ≡ on_ran head s p o
same_head head s t p More e = refl
same_head head s t p Whole e = ap (λ h. whole (judged_whole head h p.body) (head.len + p.taken)) e
same_head head s t p (Wrong w) e = refl

due_stays : (head : Head) (s t : Text) (due : Due) → head.len ≤ length s → (on_due head s due ≡ wants → ⊥) → on_due head (s ++ t) due ≡ on_due head s due
due_stays head s t due within h =
    let p = part_of due (drop head.len s) in
    let ends : p.outcome ≡ More → ⊥ = λ m. h (ap (on_ran head s p) m) in
    let same : part_of due (drop head.len (s ++ t)) ≡ p = ap (part_of due) (drop-append-le head.len s t within) ∙ stay due (drop head.len s) t ends in
    ap (on_part head (s ++ t)) same ∙ same_head head s (s ++ t) p p.outcome (take-append-le head.len s t within)

head_finds : (s t : Text) (r : Result (Option Judged) Flaw) → ((j : Judged) → r ≡ Ok (Some j) → j.head.len ≤ length s) → (on_head s r ≡ wants → ⊥) → on_head (s ++ t) r ≡ on_head s r
head_finds s t (Err w) in-s h = refl
head_finds s t (Ok None) in-s h = refl
head_finds s t (Ok (Some j)) in-s h = due_stays j.head s t j.due (in-s j refl) h

-- a head in the window lies in all that has come
pub head_within : (names : List Text) (s : Text) (j : Judged) → judged names (take window s) ≡ Ok (Some j) → j.head.len ≤ length s
head_within names s j e = let h = sound names (take window s) j e in omega (arith, h.within, length-take window s)

pub outcome_stays : Stays
outcome_stays names s t h =
    let r = judged names (take window s) in
    ap (on_head (s ++ t)) (window_stays names s t (λ e. h (ap (on_head s) e))) ∙ head_finds s t r (head_within names s) h
