-- Feeding a server's bytes in pieces, and what that finds.
use Rattle.std.specs.Prelude.{◌≡◌, ℕ, ◌+◌, ◌^◌, ◌<◌, List, [], ◌∷◌, length, Ok, Err, Result}
use Rattle.std.specs.List.{AllByRecursion, concat}
use Rattle.text.specs.Bytes.{Text}
use Rattle.message.specs.declared.fault.Unfit.{Unfit}
use Rattle.request.specs.Reading.{memory_size}
use Rattle.response.specs.Found.{copied, response_in}
use Rattle.response.specs.Reading.{After, after, further, fed_of, held_by}
use Rattle.response.specs.Status.{is_last}
use Rattle.response.specs.declared.reading.Fed.{Fed}
use Rattle.response.specs.declared.reading.Reading.{Reading}
use Rattle.response.specs.declared.reading.Reading.TheVariants.{InHead, InBody, Whole, Unreadable}
use Rattle.connection.specs.Model.{Found, more, unreadable, whole}
use Rattle.response_laws.specs.Ear.{ear}

abbrev pub taking : ℕ → Result After Unfit → Result After Unfit
taking n (Ok a) = Ok (further n a)
taking n (Err u) = Err u

abbrev pub on_fed : Result Fed Unfit → (Fed → Result After Unfit) → Result After Unfit
on_fed (Ok fed) go = taking fed.taken (go fed)
on_fed (Err u) go = Err u

-- one call after the other: the state that comes back goes in again, with the memory as it was left
unfoldable pub feeding : Text → List Text → Reading → Text → Result After Unfit
feeding m [] r memory = Ok (after r 0 memory)
feeding m (p ∷ ps) r memory = on_fed (fed_of m r memory p) (λ fed. feeding m ps fed.reading (held_by m r memory p))

-- a response is still being read
abbrev pub Going : Reading → Type 0
Going (InHead n) = Unit {0}
Going (InBody b) = Unit {0}
Going (Whole head end) = ⊥
Going Unreadable = ⊥

-- a whole response: whether it is the last, and how it goes to the client
abbrev pub Gives : Reading → Text → Found → Type 0
Gives (Whole head end) memory (whole a rest) = (a.last ≡ is_last head.status) × (a.text ≡ copied (response_in (Whole head end) memory))
Gives (Whole head end) memory more = ⊥
Gives (Whole head end) memory unreadable = ⊥
Gives (InHead n) memory f = ⊥
Gives (InBody b) memory f = ⊥
Gives Unreadable memory f = ⊥

-- what was found of the bytes s: all were taken and more is wanted; or they cannot be read; or a response is whole, and its own bytes were taken
abbrev pub Finds : Text → After → Found → Type 0
Finds s a more = Going a.reading × (a.taken ≡ length s)
Finds s a unreadable = a.reading ≡ Unreadable
Finds s a (whole b rest) = Gives a.reading a.memory (whole b rest) × (a.taken + length rest ≡ length s)

-- Feeding a server's bytes in any pieces finds what the ear finds in all of them at once; no call is refused. (Each piece can be counted.)
abbrev pub ResponseCutFree : Type 0
ResponseCutFree = (m memory : Text) (ps : List Text) → length memory ≡ memory_size → AllByRecursion (λ p. length p < 2 ^ 64) ps → (a : After) × (feeding m ps (InHead 0) memory ≡ Ok a) × Finds (concat ps) a (ear m (concat ps))
