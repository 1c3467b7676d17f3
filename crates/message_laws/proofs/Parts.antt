-- A body by its length or in chunks: where it is cut does not matter, and there is room for the rest of it behind what a piece held.
use Rattle.std.proofs.Common.{◌≡◌, ℕ, ◌+◌, ◌-◌, ◌<◌, ◌≤◌, true, ltb, ◌++◌, length, take, refl, ap, ap₂, ◌∙◌, arith}
use lib.Seq.{take-append-add}
use Rattle.std.proofs.lemmas.List.{length-append, take-append-le}
use Rattle.std.proofs.lemmas.Bool.{cond_both, cond-true, cond-false, ltb-true, ltb-false, lt-ltb, le-ltb, leb-true, le-leb}
use Rattle.text.specs.Bytes.{Text}
use Rattle.message.specs.Bodies.{Part, counted, chunked, part_of, fits}
use Rattle.message.specs.Chunked.{Run, run}
use Rattle.message.specs.declared.body.Due.{Due}
use Rattle.message.specs.declared.body.Due.TheVariants.{Length, Chunks}
use Rattle.message.specs.declared.chunked.Outcome.{Outcome}
use Rattle.message.specs.declared.chunked.Outcome.TheVariants.{More, Whole, Wrong}
use Rattle.message.specs.declared.fault.Flaw.{Flaw}
use Rattle.message_laws.specs.Laws.{on_at, behind, on_part, part_onward, BodyCutFree, BodyStays, BodyFits}
use Rattle.message_laws.proofs.Cuts as chunks
use Rattle.message_laws.proofs.Rooms as rooms

abbrev more_of : ℕ → Text → Part
more_of n piece = record { due = Length (n - length piece); body = piece; taken = length piece; outcome = More }

abbrev whole_of : ℕ → Text → Part
whole_of n piece = record { due = Length 0; body = take n piece; taken = n; outcome = Whole }

-- a piece of a body by length wants more, or the body is whole with it
pub counted_more : (n : ℕ) (piece : Text) → length piece < n → counted n piece ≡ more_of n piece
counted_more n piece h = cond-true (ltb (length piece) n) (more_of n piece) (whole_of n piece) (lt-ltb _ _ h)

pub counted_whole : (n : ℕ) (piece : Text) → n ≤ length piece → counted n piece ≡ whole_of n piece
counted_whole n piece h = cond-false (ltb (length piece) n) (more_of n piece) (whole_of n piece) (le-ltb _ _ h)

-- a body by length is whole where all of it has come, and is never refused
pub counted_there : (n : ℕ) (piece : Text) → (counted n piece).outcome ≡ Whole → n ≤ length piece
counted_there n piece =
    cond_both (ltb (length piece) n) (more_of n piece) (whole_of n piece) (λ (x : Part). x.outcome ≡ Whole → n ≤ length piece) (λ _ e. absurd cc) (λ e _. ltb-false _ _ e)

pub counted_good : (n : ℕ) (piece : Text) (w : Flaw) → (counted n piece).outcome ≡ Wrong w → ⊥
counted_good n piece w = cond_both (ltb (length piece) n) (more_of n piece) (whole_of n piece) (λ (x : Part). x.outcome ≡ Wrong w → ⊥) (λ _ e. cc) (λ _ e. cc)

-- a piece of it that wants more, and the next
counted_on : (n : ℕ) (p q : Text) → length p < n → counted n (p ++ q) ≡ behind p (length p) (counted (n - length p) q)
counted_on n p q h =
    let sum = length-append p q in
    let left = n - length p in
    let far : n ≡ length p + (n - length p) = omega arith in
    cond_both (ltb (length q) left) (more_of left q) (whole_of left q) (λ (x : Part). counted n (p ++ q) ≡ behind p (length p) x)
    (λ e.
    let less = ltb-true _ _ e in
    let rest : n - length (p ++ q) ≡ n - length p - length q = omega arith in
    counted_more n (p ++ q) (omega arith) ∙ ap₂ (λ d m. record { due = Length d; body = p ++ q; taken = m; outcome = More }) rest sum)
    (λ e.
    let le = ltb-false _ _ e in
    let text : take n (p ++ q) ≡ p ++ take (n - length p) q = ap (λ k. take k (p ++ q)) far ∙ take-append-add p q (n - length p) in
    counted_whole n (p ++ q) (omega arith) ∙ ap₂ (λ b m. record { due = Length 0; body = b; taken = m; outcome = Whole }) text far)

counted_free : (n : ℕ) (p q : Text) → counted n (p ++ q) ≡ part_onward (counted n p) (λ t. part_of t q)
counted_free n p q =
    cond_both (ltb (length p) n) (more_of n p) (whole_of n p) (λ (x : Part). counted n (p ++ q) ≡ part_onward x (λ t. part_of t q))
    (λ e. counted_on n p q (ltb-true _ _ e))
    (λ e.
    let le = ltb-false _ _ e in
    counted_whole n (p ++ q) (omega (arith, length-append p q)) ∙ ap (λ b. record { due = Length 0; body = b; taken = n; outcome = Whole }) (take-append-le n p q le))

chunked_on : (r : Run) (o : Outcome) (q : Text) → chunked (on_at o r (λ t. run t q)) ≡ on_part o (chunked r) (λ t. part_of t q)
chunked_on r More q = refl
chunked_on r Whole q = refl
chunked_on r (Wrong f) q = refl

pub cut_free : BodyCutFree
cut_free (Length n) p q = counted_free n p q
cut_free (Chunks c) p q = ap chunked (chunks.cut_free c p q) ∙ chunked_on (run c p) (run c p).outcome q

stays : (o : Outcome) (p : Part) (next : Due → Part) → (o ≡ More → ⊥) → on_part o p next ≡ p
stays More p next h = absurd (h refl)
stays Whole p next h = refl
stays (Wrong f) p next h = refl

pub stay : BodyStays
stay d p q h = cut_free d p q ∙ stays (part_of d p).outcome (part_of d p) (λ t. part_of t q) h

pub fit : BodyFits
fit (Chunks c) p q size f = rooms.fit c p q size f
fit (Length n) p q size f =
    let room = leb-true n size f in
    cond_both (ltb (length p) n) (more_of n p) (whole_of n p)
    (λ (x : Part). x.outcome ≡ More → (x.taken ≡ length p) × (length x.body ≤ size) × (fits x.due (size - length x.body) (length q) ≡ true))
    (λ e _. let less = ltb-true _ _ e in (refl, omega arith, le-leb _ _ (omega arith)))
    (λ _ e. absurd cc)

-- where more is wanted, all of the piece was read
pub all_read : (d : Due) (p : Text) → (part_of d p).outcome ≡ More → (part_of d p).taken ≡ length p
all_read (Length n) p = cond_both (ltb (length p) n) (more_of n p) (whole_of n p) (λ (x : Part). x.outcome ≡ More → x.taken ≡ length p) (λ _ _. refl) (λ _ e. absurd cc)
all_read (Chunks c) p = λ e. (rooms.leaves p c e).all
