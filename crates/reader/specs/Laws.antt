-- What is promised of the canonical form: no fair reader can misread it. Each is a type; a proof of the type is the theorem.
use Rattle.std.specs.Prelude.{◌≡◌, ℕ, suc, ◌-◌, ◌<◌, cond, T, List, [], ◌∷◌, ◌++◌, length, take, Ok, Err, Result, nat_le}
use Rattle.text.specs.Bytes.{Text}
use Rattle.request.specs.Canonical.{Req, canonical, all_canonical, write, writes, as_sent, all_sent}
use Rattle.request.specs.declared.canonical.Full.{Full}
use Rattle.reader.specs.Reader.{Reader, Fair, More, Whole, read_one, read_all}
use Rattle.reader.specs.Strict.{strict}

-- the requests that lie whole within the first k bytes
unfoldable pub within : ℕ → List Req → List Req
within k [] = []
within k (q ∷ qs) = cond (nat_le (length (write q)) k) (q ∷ within (k - length (write q)) qs) []

-- One request: any fair reader takes exactly it off the front, and leaves exactly the rest.
abbrev pub TakesOne : Type 0
TakesOne = (r : Reader) → Fair r → (q : Req) → T (canonical q) → (rest : Text) (k : ℕ) → read_one (suc k) r (write q ++ rest) ≡ Whole (as_sent q) rest

-- A part of one request: as long as its last byte has not gone out, any fair reader waits. It neither gives up nor takes anything.
abbrev pub Waits : Type 0
Waits = (r : Reader) → Fair r → (q : Req) → T (canonical q) → (n k : ℕ) → n < length (write q) → read_one k r (take n (write q)) ≡ More

-- At every moment: however many bytes have gone out, a fair reader has read the requests that lie whole in them, and no other.
abbrev pub ReadsSo : Type 0
ReadsSo = (r : Reader) → Fair r → (qs : List Req) → T (all_canonical qs) → (k : ℕ) → read_all r (take k (writes qs)) ≡ all_sent (within k qs)

-- What was written of a canonical request, n bytes at the front of an output: of all of them every fair reader reads exactly that request, of any
-- part of them nothing.
abbrev pub Understood : Req → Text → Result ℕ Full → Type 0
Understood q out (Ok n) = T (canonical q) → (r : Reader) → Fair r → (read_all r (take n out) ≡ as_sent q ∷ []) × ((k : ℕ) → k < n → read_all r (take k out) ≡ [])
Understood q out (Err full) = Unit {0}

-- No two lists of requests go out as the same bytes.
abbrev pub OneReading : Type 0
OneReading = (ps qs : List Req) → T (all_canonical ps) → T (all_canonical qs) → writes ps ≡ writes qs → ps ≡ qs

-- There is a fair reader, so that the promises above are not empty.
abbrev pub StrictIsFair : Type 0
StrictIsFair = Fair strict
