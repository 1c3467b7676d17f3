-- Where it is not known where a request ends, the fault is one for which the client's connection ends.
use Rattle.std.proofs.Common.{◌≡◌, ℕ, true, List, take, drop, Some, None, Ok, Err, Option, Result, sym, refl, ap, ◌∙◌, ⊎_elim, arith}
use Rattle.std.proofs.lemmas.List.{length-take}
use Rattle.text.specs.Bytes.{Text}
use Rattle.message.specs.Bodies.{Part, part_of}
use Rattle.message.specs.Chunked.{most_bytes}
use Rattle.message.specs.Faults.{ends_client}
use Rattle.message.specs.Fields.{Field}
use Rattle.message.specs.Sent.{Sent}
use Rattle.message.specs.declared.body.Due.{Due}
use Rattle.message.specs.declared.chunked.Outcome.{Outcome as Ran}
use Rattle.message.specs.declared.chunked.Outcome.TheVariants.{More, Whole, Wrong}
use Rattle.message.specs.declared.fault.Flaw.{Flaw}
use Rattle.message_laws.specs.ChunkFaults.{BadChunk, too_large, malformed as bad_chunk}
use Rattle.message_laws.proofs.Parts.{counted_good}
use Rattle.message_laws.proofs.Refused.{refused as chunks_refused}
use Rattle.request.specs.Heads.{window, judged}
use Rattle.request.specs.declared.head.Head.{Head}
use Rattle.request.specs.declared.head.Judged.{Judged}
use Rattle.request_laws.specs.Faults.{LineFault, first, too_many, long_name, malformed, first_unended, unended, HostFault, none as no_host, second as second_host, unknown, FramingFault, nonsense, second as second_framing, BodyFault, unsaid, unwanted, too_long, HeadFault, host, framing, body}
use Rattle.request_laws.specs.Outcome.{broken, on_ran, on_head, outcome}
use Rattle.request_laws.proofs.Dues as dues
use Rattle.request_laws.proofs.Dues.{DueAs}
use Rattle.request_laws.proofs.PlacedHead.{head_placed}
use Rattle.request_laws.proofs.Refused.{refused}

-- the fault is one for which the client's connection ends
abbrev pub Ending : Flaw → Type 0
Ending w = ends_client w.fault ≡ true

line_ends : {w : Text} {v : Flaw} → LineFault w v → Ending v
line_ends (first l ended p i b) = refl
line_ends (too_many l ended f n i) = refl
line_ends (long_name l ended f n i b) = refl
line_ends (malformed l ended p f n i b x) = refl
line_ends (first_unended n u) = refl
line_ends (unended f n u) = refl

host_ends : {names : List Text} {fs : List Sent} {len : ℕ} {v : Flaw} → HostFault names fs len v → Ending v
host_ends (no_host a) = refl
host_ends (second_host f g t i j) = refl
host_ends (unknown f o i a) = refl

framing_ends : {fs : List Sent} {v : Flaw} → FramingFault fs v → Ending v
framing_ends (nonsense f o i n) = refl
framing_ends (second_framing f g size t s i) = refl

body_ends : {m : Text} {fs : List Sent} {len : ℕ} {v : Flaw} → BodyFault m fs len v → Ending v
body_ends (unsaid c a) = refl
body_ends (unwanted f size c o s) = refl
body_ends (too_long f n c o s l) = refl

head_ends : {names : List Text} {w : Text} {v : Flaw} → HeadFault names w v → Ending v
head_ends (host i f) = host_ends f
head_ends (framing k i h f) = framing_ends f
head_ends (body k i h s f) = body_ends f

chunk_ends : {room at : ℕ} {t : Text} {v : Flaw} → BadChunk room at t v → Ending v
chunk_ends (too_large l) = refl
chunk_ends (bad_chunk p n l b) = refl

-- a body is wrong only where it is in chunks
due_ends : (m : Text) (fs : List Field) (len : ℕ) (due : Due) (x : Text) (w : Flaw) → DueAs m fs len due → (part_of due x).outcome ≡ Wrong w → Ending w
due_ends m fs len due x w (dues.none b u d) e = absurd (counted_good 0 x w (ap (λ y. (part_of y x).outcome) (sym d) ∙ e))
due_ends m fs len due x w (dues.sized f n b o a v l d) e = absurd (counted_good n x w (ap (λ y. (part_of y x).outcome) (sym d) ∙ e))
due_ends m fs len due x w (dues.chunked f b o a v d) e = chunk_ends ((chunks_refused most_bytes len x w).0 (ap (λ y. (part_of y x).outcome) (sym d) ∙ e)).wrong

ran_broken : (head : Head) (s : Text) (p : Part) (o : Ran) (w : Flaw) → on_ran head s p o ≡ broken w → o ≡ Wrong w
ran_broken head s p More w e = cc
ran_broken head s p Whole w e = cc
ran_broken head s p (Wrong v) w e = cc

broken_by : (names : List Text) (s : Text) (w : Flaw) (r : Result (Option Judged) Flaw) → judged names (take window s) ≡ r → on_head s r ≡ broken w → Ending w
broken_by names s w (Err v) g e =
    let same : v ≡ w = cc in
    ⊎_elim line_ends head_ends ((refused names (take window s) w (rw length-take (omega arith))).0 (g ∙ ap Err same))
broken_by names s w (Ok None) g e = cc
broken_by names s w (Ok (Some j)) g e =
    let a = head_placed names (take window s) j g in
    let x = drop j.head.len s in
    let wrong = ran_broken j.head s (part_of j.due x) (part_of j.due x).outcome w e in
    let due : j.due ≡ a.due = ap (λ i. i.due) a.is in
    due_ends a.method _ _ a.due x w a.due_good (ap (λ y. (part_of y x).outcome) (sym due) ∙ wrong)

pub broken_ends : (names : List Text) (s : Text) (w : Flaw) → outcome names s ≡ broken w → Ending w
broken_ends names s w e = broken_by names s w (judged names (take window s)) refl e
