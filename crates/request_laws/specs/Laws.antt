-- What the reading of clients' bytes means. Each is a type; a proof of the type is the theorem.
use Rattle.std.specs.Prelude.{◌≡◌, ℕ, ◌^◌, ◌<◌, T, List, [], ◌∷◌, ◌++◌, length, Ok, Err, Result, ◌≢◌}
use Rattle.text.specs.Bytes.{Text}
use Rattle.text_laws.specs.Laws.{Iff}
use Rattle.message.specs.declared.fault.Unfit.{Unfit}
use Rattle.request.specs.Canonical.{Req, canonical, write}
use Rattle.request.specs.Found.{Finding, passed, more, fault, found_in}
use Rattle.request.specs.Places.{Place, good_place, target_of}
use Rattle.request.specs.Reading.{After, after, further, memory_size, fed_of, held_by}
use Rattle.request.specs.declared.reading.Fed.{Fed}
use Rattle.request.specs.declared.reading.Reading.{Reading}
use Rattle.request.specs.declared.reading.Reading.TheVariants.{InHead}
use Rattle.request_laws.specs.Grammar.{Spelled}
use Rattle.request_laws.specs.Lines.{host_names}
use Rattle.request_laws.specs.Outcome.{Outcome, wants, broken, whole, outcome}

-- pieces joined together
unfoldable pub joined : List Text → Text
joined [] = []
joined (p ∷ ps) = p ++ joined ps

abbrev pub taking : ℕ → Result After Unfit → Result After Unfit
taking n (Ok a) = Ok (further n a)
taking n (Err u) = Err u

abbrev pub on_fed : Result Fed Unfit → (Fed → Result After Unfit) → Result After Unfit
on_fed (Ok fed) go = taking fed.taken (go fed)
on_fed (Err u) go = Err u

-- one call after the other: the state that comes back goes in again, with the memory as it was left
unfoldable pub feeding : List Text → Reading → Text → List Text → Result After Unfit
feeding names r memory [] = Ok (after r 0 memory)
feeding names r memory (p ∷ ps) = on_fed (fed_of names r memory p) (λ fed. feeding names fed.reading (held_by names r memory p) ps)

abbrev pub finding_of : Outcome → Finding
finding_of wants = more
finding_of (broken w) = fault w
finding_of (whole f n) = f

-- all bytes are taken where more are wanted, and just its own where a request is whole
abbrev pub Took : ℕ → ℕ → Outcome → Type 0
Took taken all wants = taken ≡ all
Took taken all (broken w) = Unit {0}
Took taken all (whole f n) = taken ≡ n

-- Feeding the bytes in any pieces finds what reading them all at once finds, and takes as much; no call is refused. (The bytes can be counted.)
abbrev pub CutFree : Type 0
CutFree = (names : List Text) (memory : Text) (ps : List Text) → length memory ≡ memory_size → length (joined ps) < 2 ^ 64 →
    (a : After) × (feeding names (InHead 0) memory ps ≡ Ok a) × (found_in a.reading a.memory ≡ Ok (finding_of (outcome names (joined ps)))) × Took a.taken (length (joined ps)) (outcome names (joined ps))

-- What was found stays found, whatever follows: a fault stays the fault that it is, and a whole request takes no byte more.
abbrev pub Stays : Type 0
Stays = (names : List Text) (s t : Text) → (outcome names s ≢ wants) → outcome names (s ++ t) ≡ outcome names s

-- A request is let pass exactly where the grammar holds of the first bytes, and it takes exactly those.
abbrev pub ReadIffSpelled : Type 0
ReadIffSpelled = (names : List Text) (s : Text) (k : ℕ) (q : Req) (n : ℕ) →
    Iff (outcome names s ≡ whole (passed k q) n) ((t rest : Text) × (s ≡ t ++ rest) × (length t ≡ n) × Spelled names t k q)

-- The canonical form of what was let pass, read again, is let pass for the same server, takes exactly its own bytes, and gives itself back. (A server's
-- name has no blanks; one with a run of them would not be the same once the run is made one space.)
abbrev pub CanonicalAgain : Type 0
CanonicalAgain = (names : List Text) → T (host_names names) → (s : Text) (k : ℕ) (q : Req) (n : ℕ) → outcome names s ≡ whole (passed k q) n → (rest : Text) → outcome names (write q ++ rest) ≡ whole (passed k q) (length (write q))

-- What is let pass is canonical, its target is that of a good place, and its server is one of those there are.
abbrev pub LetPass : Type 0
LetPass = (names : List Text) (s : Text) (k : ℕ) (q : Req) (n : ℕ) → outcome names s ≡ whole (passed k q) n → T (canonical q) × ((p : Place) × T (good_place p) × (q.target ≡ target_of p)) × (k < length names)
