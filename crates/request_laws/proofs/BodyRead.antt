-- The body behind a head is read exactly where it is spelled as the grammar says.
use Rattle.std.proofs.Common.{◌≡◌, ℕ, ◌+◌, ◌<◌, ◌≤◌, List, [], ◌++◌, length, take, drop, Some, sym, refl, ap, ◌∙◌, subst, arith}
use Rattle.std.proofs.lemmas.List.{length-append, length-take, length-take-le, take_at, drop_at, take-append-drop}
use Rattle.text.specs.Bytes.{Text}
use Rattle.message.specs.Bodies.{Part, chunked as ran, part_of}
use Rattle.message.specs.Chunked.{run, most_bytes, fresh}
use Rattle.message.specs.Fields.{Field}
use Rattle.message.specs.declared.body.Due.{Due}
use Rattle.message.specs.declared.body.Due.TheVariants.{Length, Chunks}
use Rattle.message.specs.declared.chunked.Outcome.{Outcome as Ran}
use Rattle.message.specs.declared.chunked.Outcome.TheVariants.{More, Whole, Wrong}
use Rattle.message_laws.specs.Chunks.{Chunked}
use Rattle.message_laws.proofs.Bodies.{read}
use Rattle.message_laws.proofs.Only.{only_chunks}
use Rattle.message_laws.proofs.Parts.{counted_whole, counted_there}
use Rattle.request.specs.Canonical.{body_limit}
use Rattle.request.specs.Found.{Finding}
use Rattle.request.specs.declared.head.Head.{Head}
use Rattle.request_laws.specs.Grammar as grammar
use Rattle.request_laws.specs.Grammar.{BodySpelled}
use Rattle.request_laws.specs.Outcome.{whole, judged_whole, on_ran, on_part, on_due}
use Rattle.request_laws.proofs.Dues as dues
use Rattle.request_laws.proofs.Dues.{DueAs}
use Rattle.request_laws.proofs.FramingFaults.{most_is}

-- what is whole is one thing, of one length
same_whole : {f g : Finding} {m n : ℕ} → whole f m ≡ whole g n → (f ≡ g) × (m ≡ n)
same_whole e = (cc, cc)

-- what has come of a body is all of it
part_whole : (head : Head) (s : Text) (p : Part) (o : Ran) (f : Finding) (end : ℕ) → on_ran head s p o ≡ whole f end → (o ≡ Whole) × (judged_whole head (take head.len s) p.body ≡ f) × (head.len + p.taken ≡ end)
part_whole head s p More f end g = cc
part_whole head s p (Wrong w) f end g = cc
part_whole head s p Whole f end g = let w = same_whole g in (refl, w.0, w.1)

-- a body behind a head h
module _ (head : Head) (h tail : Text) (due : Due) (e : length h ≡ head.len) where
  body_on : on_due head (h ++ tail) due ≡ on_part head (h ++ tail) (part_of due tail)
  body_on = ap (λ u. on_part head (h ++ tail) (part_of due u)) (drop_at h tail head.len e)

  body_there : (f : Finding) (end : ℕ) → on_due head (h ++ tail) due ≡ whole f end → ((part_of due tail).outcome ≡ Whole) × (judged_whole head h (part_of due tail).body ≡ f) × (head.len + (part_of due tail).taken ≡ end)
  body_there f end g =
      let p = part_of due tail in
      let w = part_whole head (h ++ tail) p p.outcome f end (sym body_on ∙ g) in
      (w.0, ap (λ u. judged_whole head u p.body) (sym (take_at h tail head.len e)) ∙ w.1, w.2)

  body_whole : (last : Due) (body : Text) (n : ℕ) → part_of due tail ≡ record { due = last; body = body; taken = n; outcome = Whole } → on_due head (h ++ tail) due ≡ whole (judged_whole head h body) (head.len + n)
  body_whole last body n is = body_on ∙ ap (on_part head (h ++ tail)) is ∙ ap (λ u. whole (judged_whole head u body) (head.len + n)) (take_at h tail head.len e)

-- a body that is whole is as the grammar has it
abbrev Cut : Text → List Field → Text → Part → Type 0
Cut m fs tail p = BodySpelled m fs (take p.taken tail) p.body × (length p.body < body_limit) × (p.taken ≤ length tail)

pub chunks_cut : (tail : Text) (room at : ℕ) → (run (fresh room at) tail).outcome ≡ Whole →
    Chunked (take (run (fresh room at) tail).taken tail) (run (fresh room at) tail).body × (length (run (fresh room at) tail).body ≤ room) × ((run (fresh room at) tail).taken ≤ length tail)
chunks_cut tail room at w =
    let n = (run (fresh room at) tail).taken in
    let o = only_chunks tail room at w in
    let again = read (take n tail) (run (fresh room at) tail).body (drop n tail) room at o.0 o.1 in
    let long : (run (fresh room at) tail).taken ≡ length (take (run (fresh room at) tail).taken tail) =
    ap (λ u. (run (fresh room at) u).taken) (sym (take-append-drop n tail)) ∙ ap (λ r. r.taken) again in
    (o.0, o.1, omega (arith, length-take n tail))

whole_cut : (m : Text) (fs : List Field) (len : ℕ) (tail : Text) (due : Due) → DueAs m fs len due → (part_of due tail).outcome ≡ Whole → Cut m fs tail (part_of due tail)
whole_cut m fs len tail due (dues.none b u d) w =
    subst (λ x. Cut m fs tail (part_of x tail)) (sym d) (subst (Cut m fs tail) (sym (counted_whole 0 tail (omega arith))) (grammar.none b u, omega arith, omega arith))
whole_cut m fs len tail due (dues.sized x n b o a v l d) w =
    let there : n ≤ length tail = counted_there n tail (ap (λ z. (part_of z tail).outcome) (sym d) ∙ w) in
    let long : length (take n tail) ≡ n = length-take-le n tail there in
    subst (λ x. Cut m fs tail (part_of x tail)) (sym d) (subst (Cut m fs tail) (sym (counted_whole n tail there)) (grammar.sized x b o a (v ∙ ap Some (sym long)), omega (arith, most_is), there))
whole_cut m fs len tail due (dues.chunked x b o a v d) w =
    let k = chunks_cut tail most_bytes len (ap (λ z. (part_of z tail).outcome) (sym d) ∙ w) in
    subst (λ x. Cut m fs tail (part_of x tail)) (sym d) (grammar.chunked x b o a v k.0, omega (arith, k.1, most_is), k.2)

-- behind a head h stands a body as the grammar has it, and so much was found
pub record BodyIs (m : Text) (fs : List Field) (head : Head) (h tail : Text) (f : Finding) (end : ℕ) : Type 0 where
  pub body : Text
  pub after : Text
  pub rest : Text
  pub joined : tail ≡ after ++ rest
  pub spelled : BodySpelled m fs after body
  pub short : length body < body_limit
  pub is : judged_whole head h body ≡ f
  pub count : head.len + length after ≡ end

pub body_read : (m : Text) (fs : List Field) (head : Head) (h tail : Text) (due : Due) (f : Finding) (end : ℕ) → length h ≡ head.len → DueAs m fs head.len due → on_due head (h ++ tail) due ≡ whole f end → BodyIs m fs head h tail f end
body_read m fs head h tail due f end e d g =
    let w = body_there head h tail due e f end g in
    let n = (part_of due tail).taken in
    let k = whole_cut m fs head.len tail due d w.0 in
    record {
      body = (part_of due tail).body;
      after = take n tail;
      rest = drop n tail;
      joined = sym (take-append-drop n tail);
      spelled = k.0;
      short = k.1;
      is = w.1;
      count = ap (λ k. head.len + k) (length-take-le n tail k.2) ∙ w.2;
    }

-- a body as the grammar has it is whole
length_read : (body rest : Text) → part_of (Length (length body)) (body ++ rest) ≡ record { due = Length 0; body = body; taken = length body; outcome = Whole }
length_read body rest =
    counted_whole (length body) (body ++ rest) (omega (arith, length-append body rest))
    ∙ ap (λ b. record { due = Length 0; body = b; taken = length body; outcome = Whole }) (take_at body rest (length body) refl)

pub body_spelled : (m : Text) (fs : List Field) (head : Head) (h after rest body : Text) → length h ≡ head.len → BodySpelled m fs after body → length body < body_limit →
    (due : Due) × DueAs m fs head.len due × (on_due head (h ++ (after ++ rest)) due ≡ whole (judged_whole head h body) (head.len + length after))
body_spelled m fs head h after rest body e (grammar.none b u) l = (Length 0, dues.none b u refl, body_whole head h rest (Length 0) e (Length 0) [] 0 (length_read [] rest))
body_spelled m fs head h after rest body e (grammar.sized f b o a v) l =
    let n = length body in
    let few : length body ≤ most_bytes = omega (arith, most_is) in
    (Length n, dues.sized f n b o a v few refl, body_whole head h (body ++ rest) (Length n) e (Length 0) body n (length_read body rest))
body_spelled m fs head h after rest body e (grammar.chunked f b o a v c) l =
    let start = fresh most_bytes head.len in
    let few : length body ≤ most_bytes = omega (arith, most_is) in
    (Chunks start, dues.chunked f b o a v refl, body_whole head h (after ++ rest) (Chunks start) e _ body (length after) (ap ran (read after body rest most_bytes head.len c few)))
