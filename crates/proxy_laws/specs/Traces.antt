-- What happened at the gate, in order: what came and what went out. Assumes nothing.
use Rattle.std.specs.Prelude.{◌≡◌, ℕ, cond, List, [], ◌∷◌, ◌++◌, map, Some, None, Option, ◌==◌, ◌+◌, ◌≤◌, ◌⊎◌, length}
use Rattle.text.specs.Bytes.{Text}
use Rattle.request.specs.Canonical.{write}
use Rattle.connection.specs.Model.{Ear, Owner, Response, Sent, asks, says, owner_limit, sent_limit}
use Rattle.connection.specs.Model.{Event as Said}
use Rattle.proxy.specs.Model.{Servers, Gate, Did, Event, from_client, from_server, Out, sends, answers, fails, refuses, ends, downs, opened, comes, turn}

-- an event came, or something went out
pub data Entry : Type 0 where
  came : Event → Entry
  went : Out → Entry

-- These entries, in order, led to this state of the gate. An event comes only where the gate rests; else it does one thing after the other.
pub data Runs (servers : Servers) (e : Ear) : List Entry → Gate → Type 0 where
  start : Runs servers e [] (opened servers)
  coming : {es : List Entry} {g : Gate} (v : Event) → Runs servers e es g → turn servers e g ≡ None → Runs servers e (es ++ (came v ∷ [])) (comes v g)
  doing : {es : List Entry} {g : Gate} (d : Did) → Runs servers e es g → turn servers e g ≡ Some d → Runs servers e (es ++ map went d.out) d.then

-- OF A CLIENT c

-- what it sent
abbrev pub sent_in : ℕ → Entry → Text
sent_in c (came (from_client p s)) = cond (p == c) s []
sent_in c (came (from_server k s)) = []
sent_in c (went o) = []

unfoldable pub sent_by : ℕ → List Entry → Text
sent_by c [] = []
sent_by c (x ∷ es) = sent_in c x ++ sent_by c es

-- whom an output concerns, if it is a client
abbrev pub client_of : Out → Option ℕ
client_of (sends k c q) = Some c
client_of (answers k o a) = Some o.client
client_of (fails k o) = Some o.client
client_of (refuses c f) = Some c
client_of (ends c) = Some c
client_of (downs k) = None

abbrev pub is_client : ℕ → Option ℕ → List Out → List Out
is_client c None os = []
is_client c (Some p) os = cond (p == c) os []

abbrev pub out_for : ℕ → Entry → List Out
out_for c (came v) = []
out_for c (went o) = is_client c (client_of o) (o ∷ [])

-- what went out of its own, and to it, in order
unfoldable pub outs_for : ℕ → List Entry → List Out
outs_for c [] = []
outs_for c (x ∷ es) = out_for c x ++ outs_for c es

-- OF A SERVER k

-- what it said
abbrev pub said_in_one : ℕ → Entry → Text
said_in_one k (came (from_client c s)) = []
said_in_one k (came (from_server j s)) = cond (j == k) s []
said_in_one k (went o) = []

unfoldable pub said_by : ℕ → List Entry → Text
said_by k [] = []
said_by k (x ∷ es) = said_in_one k x ++ said_by k es

-- what happened on its connection: a request went out, or the server said something
abbrev pub event_in : ℕ → Entry → List Said
event_in k (came (from_client c s)) = []
event_in k (came (from_server j s)) = cond (j == k) (says s ∷ []) []
event_in k (went (sends j c q)) = cond (j == k) (asks c q ∷ []) []
event_in k (went (answers j o a)) = []
event_in k (went (fails j o)) = []
event_in k (went (refuses c f)) = []
event_in k (went (ends c)) = []
event_in k (went (downs j)) = []

unfoldable pub events_at : ℕ → List Entry → List Said
events_at k [] = []
events_at k (x ∷ es) = event_in k x ++ events_at k es

-- the requests that went out to it, with their clients
abbrev pub asked_in : ℕ → Entry → List Sent
asked_in k (came v) = []
asked_in k (went (sends j c q)) = cond (j == k) (record { client = c; request = q } ∷ []) []
asked_in k (went (answers j o a)) = []
asked_in k (went (fails j o)) = []
asked_in k (went (refuses c f)) = []
asked_in k (went (ends c)) = []
asked_in k (went (downs j)) = []

unfoldable pub asked_of : ℕ → List Entry → List Sent
asked_of k [] = []
asked_of k (x ∷ es) = asked_in k x ++ asked_of k es

-- the bytes that really went out on its connection
unfoldable pub bytes_of : List Sent → Text
bytes_of [] = []
bytes_of (x ∷ xs) = write x.request ++ bytes_of xs

abbrev pub bytes_to : ℕ → List Entry → Text
bytes_to k es = bytes_of (asked_of k es)

-- a response that a client got: the owner, and the response
pub record Got : Type 0 where
  pub owner : Owner
  pub response : Response

-- the responses of this server that clients got, in order
abbrev pub got_in : ℕ → Entry → List Got
got_in k (came v) = []
got_in k (went (sends j c q)) = []
got_in k (went (answers j o a)) = cond (j == k) (record { owner = o; response = a } ∷ []) []
got_in k (went (fails j o)) = []
got_in k (went (refuses c f)) = []
got_in k (went (ends c)) = []
got_in k (went (downs j)) = []

unfoldable pub got_from : ℕ → List Entry → List Got
got_from k [] = []
got_from k (x ∷ es) = got_in k x ++ got_from k es

-- the last responses among them
unfoldable pub lasts : List Got → List Got
lasts [] = []
lasts (x ∷ xs) = cond x.response.last (x ∷ lasts xs) (lasts xs)

-- as many wait at it as may: of the requests that went out, so many have had no last response; or as many went out as may
abbrev pub Crowded : ℕ → List Entry → Type 0
Crowded k es = (owner_limit + length (lasts (got_from k es)) ≤ length (asked_of k es)) ⊎ (sent_limit ≤ length (asked_of k es))

-- the owners that were told that its connection went down, in order
abbrev pub told_in : ℕ → Entry → List Owner
told_in k (came v) = []
told_in k (went (sends j c q)) = []
told_in k (went (answers j o a)) = []
told_in k (went (fails j o)) = cond (j == k) (o ∷ []) []
told_in k (went (refuses c f)) = []
told_in k (went (ends c)) = []
told_in k (went (downs j)) = []

unfoldable pub told_by : ℕ → List Entry → List Owner
told_by k [] = []
told_by k (x ∷ es) = told_in k x ++ told_by k es

-- the ends of its connection
abbrev pub downs_in : ℕ → Entry → List Out
downs_in k (came v) = []
downs_in k (went (sends j c q)) = []
downs_in k (went (answers j o a)) = []
downs_in k (went (fails j o)) = []
downs_in k (went (refuses c f)) = []
downs_in k (went (ends c)) = []
downs_in k (went (downs j)) = cond (j == k) (downs j ∷ []) []

unfoldable pub downs_of : ℕ → List Entry → List Out
downs_of k [] = []
downs_of k (x ∷ es) = downs_in k x ++ downs_of k es
