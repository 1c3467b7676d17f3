-- Feeding the bytes in pieces finds what reading them all at once finds: induction over the pieces.
use Rattle.std.proofs.Common.{◌≡◌, ℕ, ◌+◌, ◌-◌, ◌^◌, ◌<◌, ◌≤◌, true, List, [], ◌∷◌, ◌++◌, length, take, None, Ok, sym, refl, ap, ◌∙◌, subst, ap₂, append_assoc, append-nil, add-zero, zero-add, arith}
use Rattle.std.proofs.lemmas.List.{length-append, length-take-le, take_all}
use Rattle.std.proofs.lemmas.Bool.{cond-true, and_from, eq-eqb, le-leb}
use Rattle.text.specs.Bytes.{Text}
use Rattle.message.specs.Bodies.{fits}
use Rattle.message.specs.declared.body.Due.{Due}
use Rattle.message_laws.proofs.Standing.{within}
use Rattle.request.specs.Found.{more, found_in}
use Rattle.request.specs.Heads.{window, judged}
use Rattle.request.specs.Reading.{After, after, further, memory_size, fits_due, fits_in, step, due_step}
use Rattle.request.specs.declared.head.Head.{Head}
use Rattle.request.specs.declared.reading.Reading.{Reading}
use Rattle.request.specs.declared.reading.Reading.TheVariants.{InHead, InBody, Whole, Refused}
use Rattle.request_laws.specs.Laws.{joined, taking, on_fed, feeding, finding_of, Took, CutFree}
use Rattle.request_laws.specs.Outcome.{Outcome, wants, on_head, outcome}
use Rattle.request_laws.proofs.BodyFed.{body_fed}
use Rattle.request_laws.proofs.HeadFed.{head_fed}
use Rattle.request_laws.proofs.HeadPasses.{room_left}
use Rattle.request_laws.proofs.OutcomeStays.{outcome_stays}
use Rattle.request_laws.proofs.RequestFinished.{Over}
use Rattle.request_laws.proofs.Stands.{capacity, Body, Stands, Rests, At, going, resting, Comes, known, in_window, in_all, has_room}

-- a piece that comes while more is wanted
step_fed : (names : List Text) (s piece : Text) (r : Reading) (memory : Text) → Stands names s r memory → length (s ++ piece) < 2 ^ 64 → Comes names (s ++ piece) (length s) (step names r memory piece)
step_fed names s piece (InHead filled) memory (size, fill, held, unended) counted = head_fed names s piece filled memory size fill held unended counted
step_fed names s piece (InBody h) memory (start, b) counted =
    let x = due_step h memory piece in
    subst (λ n. At names (s ++ piece) (length s + n) x.reading x.memory) (sym (zero-add x.taken)) (body_fed names s piece h.head h.filled start h.due memory b counted)
step_fed names s piece (Whole head end) memory st counted = absurd st
step_fed names s piece (Refused w) memory st counted = absurd st

-- the memory fits
due_fits : (names : List Text) (s : Text) (head : Head) (filled : ℕ) (start due : Due) (memory : Text) → Body names s head filled start due memory → length s < 2 ^ 64 → fits_due (length memory) filled due ≡ true
due_fits names s head filled start due memory b counted =
    let none = append-nil s in
    let long = length-take-le head.len s (in_all names s head start b.judges) in
    let room = (b.at.room [] (memory_size - head.len) (has_room names s head start b.judges [] (rw none counted))).1 in
    let left : memory_size - head.len - length b.body ≡ length memory - filled = omega (arith, b.holds.fill, b.size) in
    and_from _ _ (le-leb filled (length memory) (within b.holds)) (ap (λ n. fits due n 0) (sym left) ∙ room)

state_fits : (names : List Text) (s : Text) (r : Reading) (memory : Text) → Stands names s r memory → length s < 2 ^ 64 → fits_in (length memory) r ≡ true
state_fits names s (InHead filled) memory (size, fill, held, unended) counted =
    let in_window : filled ≤ window = omega (arith, room_left names s unended) in
    and_from _ _ (eq-eqb (length memory) memory_size size) (le-leb filled window in_window)
state_fits names s (InBody h) memory (start, b) counted =
    let head = h.head in
    let k = known names s head start b.judges in
    let there : head.method + 1 + head.target ≤ length memory = omega (arith, k.parts, k.fields, in_window names s head start b.judges, capacity, b.size) in
    and_from _ _ (eq-eqb (length memory) memory_size b.size) (and_from _ _ (le-leb (head.method + 1 + head.target) (length memory) there) (due_fits names s head h.filled start h.due memory b counted))
state_fits names s (Whole head end) memory st counted = absurd st
state_fits names s (Refused w) memory st counted = absurd st

-- one call, where the memory fits
feed_one : (names : List Text) (r : Reading) (memory p : Text) (ps : List Text) (a : After) → fits_in (length memory) r ≡ true → feeding names (step names r memory p).reading (step names r memory p).memory ps ≡ Ok a → feeding names r memory (p ∷ ps) ≡ Ok (further (step names r memory p).taken a)
unfolding feeding
feed_one names r memory p ps a fits next =
    let x = step names r memory p in
    ap₂ (λ f m. on_fed f (λ fed. feeding names fed.reading m ps)) (cond-true _ _ _ fits) (cond-true _ _ _ fits) ∙ ap (taking x.taken) next

-- nothing more is taken once reading is over
rests_on : (names : List Text) (r : Reading) (memory : Text) (ps : List Text) → Over r → length memory ≡ memory_size → feeding names r memory ps ≡ Ok (after r 0 memory)
unfolding feeding
rests_on names (InHead filled) memory ps o size = absurd o
rests_on names (InBody h) memory ps o size = absurd o
rests_on names (Whole head end) memory [] o size = refl
rests_on names (Whole head end) memory (p ∷ ps) o size = feed_one names (Whole head end) memory p ps (after (Whole head end) 0 memory) (and_from _ _ (eq-eqb (length memory) memory_size size) refl) (rests_on names (Whole head end) memory ps tt size)
rests_on names (Refused w) memory [] o size = refl
rests_on names (Refused w) memory (p ∷ ps) o size = feed_one names (Refused w) memory p ps (after (Refused w) 0 memory) (and_from _ _ (eq-eqb (length memory) memory_size size) refl) (rests_on names (Refused w) memory ps tt size)

-- what feeding the pieces ps leads to, after n bytes were taken, where s is all that comes
abbrev Feeds : List Text → Text → ℕ → Reading → Text → List Text → Type 0
Feeds names s n r memory ps =
    (a : After) × (feeding names r memory ps ≡ Ok a) × (found_in a.reading a.memory ≡ Ok (finding_of (outcome names s))) × Took (n + a.taken) (length s) (outcome names s)

-- by what all the bytes mean
feeds_by : (names : List Text) (s : Text) (n m : ℕ) (r : Reading) (memory : Text) (ps : List Text) (a : After) (o : Outcome) → outcome names s ≡ o → feeding names r memory ps ≡ Ok a → found_in a.reading a.memory ≡ Ok (finding_of o) → m ≡ n + a.taken → Took m (length s) o → Feeds names s n r memory ps
feeds_by names s n m r memory ps a o is fed finds sum took =
    (a, fed, finds ∙ ap (λ x. Ok (finding_of x)) (sym is), subst (Took (n + a.taken) (length s)) (sym is) (subst (λ k. Took k (length s) o) sum took))

rests_feed : (names : List Text) (s : Text) (n : ℕ) (r : Reading) (memory : Text) (ps : List Text) → Rests names s n r memory → Feeds names (s ++ joined ps) n r memory ps
rests_feed names s n r memory ps h =
    feeds_by names (s ++ joined ps) n n r memory ps (after r 0 memory) h.final (outcome_stays names s (joined ps) (λ e. h.ends (sym h.is ∙ e)) ∙ h.is) (rests_on names r memory ps h.over h.size) h.finds
    (sym (add-zero n)) (h.took (length (s ++ joined ps)))

wants_found : (names : List Text) (s : Text) (r : Reading) (memory : Text) → Stands names s r memory → found_in r memory ≡ Ok more
wants_found names s (InHead filled) memory st = refl
wants_found names s (InBody h) memory st = refl
wants_found names s (Whole head end) memory st = absurd st
wants_found names s (Refused w) memory st = absurd st

feeds : (names : List Text) (s : Text) (n : ℕ) (r : Reading) (memory : Text) (ps : List Text) → At names s n r memory → length (s ++ joined ps) < 2 ^ 64 → Feeds names (s ++ joined ps) n r memory ps
unfolding joined feeding
feeds names s n r memory ps (resting h) counted = rests_feed names s n r memory ps h
feeds names s n r memory [] (going count is st) counted =
    let all = append-nil s in
    feeds_by names (s ++ []) n n r memory [] (after r 0 memory) wants (ap (outcome names) all ∙ is) refl (wants_found names s r memory st) (sym (add-zero n)) (count ∙ ap length (sym all))
feeds names s n r memory (p ∷ ps) (going count is st) counted =
    let x = step names r memory p in
    let all : (s ++ p) ++ joined ps ≡ s ++ (p ++ joined ps) = append_assoc s p (joined ps) in
    let fewer : length ((s ++ p) ++ joined ps) < 2 ^ 64 = rw all counted in
    let now : length (s ++ p) < 2 ^ 64 = omega (arith, length-append (s ++ p) (joined ps)) in
    let next = feeds names (s ++ p) (length s + x.taken) x.reading x.memory ps (step_fed names s p r memory st now) fewer in
    let sum : length s + x.taken + next.0.taken ≡ n + (x.taken + next.0.taken) = omega arith in
    let whole : Feeds names ((s ++ p) ++ joined ps) n r memory (p ∷ ps) = feeds_by names ((s ++ p) ++ joined ps) n (length s + x.taken + next.0.taken) r memory (p ∷ ps) (further x.taken next.0) (outcome names ((s ++ p) ++ joined ps)) refl (feed_one names r memory p ps next.0 (state_fits names s r memory st (omega (arith, length-append s p))) next.1) next.2 sum next.3 in
    subst (λ t. Feeds names t n r memory (p ∷ ps)) all whole

-- nothing has come yet
begins : (names : List Text) → judged names [] ≡ Ok None
unfolding window
begins names = refl

pub cut_free : CutFree
cut_free names memory ps size counted =
    let none : ◌≡◌ {A = Text} (take window []) [] = take_all window [] (omega arith) in
    let start : At names [] 0 (InHead 0) memory = going refl (ap (λ w. on_head [] (judged names w)) none ∙ ap (on_head []) (begins names)) (size, refl, refl, begins names) in
    let h = feeds names [] 0 (InHead 0) memory ps start (omega (arith, counted)) in
    (h.0, h.1, h.2, subst (λ n. Took n (length (joined ps)) (outcome names (joined ps))) (zero-add h.0.taken) h.3)
