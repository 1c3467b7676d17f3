-- What holds of a connection at every moment, for every steady way of reading responses. Each is a type; a proof of the type is the theorem.
use Rattle.std.specs.Prelude.{◌≡◌, ℕ, suc, ◌+◌, ◌-◌, ◌≤◌, Bool, true, false, cond, ◌&&◌, T, List, [], ◌∷◌, ◌++◌, map, length, ◌==◌, ◌≢◌, nat_le}
use Rattle.std.specs.List.{Contains, concat}
use Rattle.text.specs.Bytes.{Text}
use Rattle.request.specs.Canonical.{Req}
use Rattle.connection.specs.Model.{Response, Ear, Steady, more, unreadable, whole, Owner, Sent, Given, Conn, fresh, Event, asks, says, step, run}
use Rattle.connection_laws.specs.Moments.{Rests, Leads}

-- all that the server said
unfoldable pub said_in : List Event → Text
said_in [] = []
said_in (asks p q ∷ vs) = said_in vs
said_in (says s ∷ vs) = s ++ said_in vs

-- the owners of requests that went out, numbered from k on
unfoldable pub owners_from : ℕ → List Sent → List Owner
owners_from k [] = []
owners_from k (x ∷ xs) = record { client = x.client; number = k; method = x.request.method } ∷ owners_from (suc k) xs

-- all whose requests went out
abbrev pub owners_of : Conn → List Owner
owners_of c = owners_from 0 c.sent

-- the requests that went out
abbrev pub requests_of : Conn → List Req
requests_of c = map (λ x. x.request) c.sent

-- WHERE IT RESTS a connection is what the events make of it one after the other, whatever the calls were; and it can be led there.
pub record MomentsAtRest (e : Ear) (vs : List Event) : Type 0 where
  pub reached : Leads e vs (run e vs fresh)
  pub at_rest : Rests e (run e vs fresh)
  pub only : (c : Conn) → Leads e vs c → Rests e c → c ≡ run e vs fresh

abbrev pub AtRest : Type 0
AtRest = (e : Ear) → Steady e → (vs : List Event) → MomentsAtRest e vs

-- ONLY GROWS. What was given at a moment stays given, in its order, whatever follows; so with who was told and what was sent.
abbrev pub OnlyGrows : Type 0
OnlyGrows =
    (e : Ear) → Steady e → (vs ws : List Event) (c : Conn) → Leads e vs c → ((gs : List Given) × ((run e (vs ++ ws) fresh).given ≡ c.given ++ gs)) × ((os : List Owner) × ((run e (vs ++ ws) fresh).told ≡ c.told ++ os)) ×
    ((xs : List Sent) × ((run e (vs ++ ws) fresh).sent ≡ c.sent ++ xs))

-- numbers go up one by one from k on, and one comes again only after a response that was not the last
unfoldable pub in_order : ℕ → List Given → Bool
in_order k [] = true
in_order k (g ∷ gs) = (g.to.number == k) && in_order (cond g.response.last (suc k) k) gs

-- ONLY OWNERS. Whatever a server does, nobody is given a response but an owner whose turn it is, and nobody more than one last response.
abbrev pub OnlyOwners : Type 0
OnlyOwners = (e : Ear) → Steady e → (vs : List Event) (c : Conn) → Leads e vs c → T (in_order 0 c.given) × ((g : Given) → Contains c.given g → Contains (owners_of c) g.to)

-- the owners who were given a last response, in order
unfoldable pub answered : List Given → List Owner
answered [] = []
answered (g ∷ gs) = cond g.response.last (g.to ∷ answered gs) (answered gs)

-- EVERYONE whose request went out has been given a last response, was told that the connection went down, or still waits: one of the three, since no two
-- owners have the same number, and in this order. Nobody is told of a connection that is up, and nobody waits on one that is down.
pub record Everyone (c : Conn) : Type 0 where
  pub one_of_three : owners_of c ≡ answered c.given ++ (c.told ++ c.waiting)
  pub up_tells_none : c.up ≡ true → c.told ≡ []
  pub down_has_none : c.up ≡ false → (c.waiting ≡ []) × (c.part ≡ [])

abbrev pub EveryoneServed : Type 0
EveryoneServed = (e : Ear) → Steady e → (vs : List Event) (c : Conn) → Leads e vs c → Everyone c

-- responses that were each read from a text of their own, of which the first begins where n bytes had been said
pub data AllHeard (e : Ear) : ℕ → List Given → List Text → Type 0 where
  nothing : {n : ℕ} → AllHeard e n [] []
  next : {n : ℕ} {g : Given} {gs : List Given} {t : Text} {ts : List Text} → g.from ≡ n → e g.to.method t ≡ whole g.response [] → AllHeard e (n + length t) gs ts → AllHeard e n (g ∷ gs) (t ∷ ts)

-- why a connection goes down: a byte for which nobody waits, or bytes that cannot be a response to the first who does
abbrev pub Unwanted : Ear → List Owner → Text → Type 0
Unwanted e [] s = s ≢ []
Unwanted e (o ∷ os) s = e o.method s ≡ unreadable

-- What a server said is the texts of the responses that were handed over, in order, and then what is left. While the connection is up that is the part in
-- hand; once it is down it is why it went down: those who were told had waited then, and the first of them for bytes that begin no response.
pub record NothingLost (e : Ear) (vs : List Event) (c : Conn) : Type 0 where
  pub texts : List Text
  pub left : Text
  pub said : said_in vs ≡ concat texts ++ left
  pub heard : AllHeard e 0 c.given texts
  pub while_up : c.up ≡ true → left ≡ c.part
  pub once_down : c.up ≡ false → Unwanted e c.told left

-- NOTHING LOST
abbrev pub NothingIsLost : Type 0
NothingIsLost = (e : Ear) → Steady e → (vs : List Event) (c : Conn) → Leads e vs c → NothingLost e vs c

-- SETTLED. Where a connection rests and is up, no bytes wait for an owner who has not asked yet, and what has come for the first who waits is no whole
-- response and can still become one. On one that is down nothing happens any more.
pub record SettledNow (e : Ear) (c : Conn) : Type 0 where
  pub none_wait : c.up ≡ true → c.waiting ≡ [] → c.part ≡ []
  pub first_waits : c.up ≡ true → (o : Owner) (os : List Owner) → c.waiting ≡ o ∷ os → e o.method c.part ≡ more
  pub once_down : c.up ≡ false → (v : Event) → step e v c ≡ c

abbrev pub Settled : Type 0
Settled = (e : Ear) → Steady e → (vs : List Event) (c : Conn) → Leads e vs c → Rests e c → SettledNow e c

-- NOBODY EARLY. Nobody is given a byte that the server had said before their own request went out: whenever, after the events xs, the request had not gone
-- out yet, the response begins behind all that was said in xs.
abbrev pub Timely : Ear → List Event → Conn → Type 0
Timely e vs c = (g : Given) → Contains c.given g → (xs ys : List Event) → vs ≡ xs ++ ys → length (run e xs fresh).sent ≤ g.to.number → length (said_in xs) ≤ g.from

abbrev pub NobodyEarly : Type 0
NobodyEarly = (e : Ear) → Steady e → (vs : List Event) (c : Conn) → Leads e vs c → Timely e vs c

-- a response as the server says it, and whether no other one to the same request follows
pub record Said : Type 0 where
  pub text : Text
  pub last : Bool

unfoldable pub texts_of : List Said → Text
texts_of [] = []
texts_of (t ∷ ts) = t.text ++ texts_of ts

-- the responses that lie whole within the first k bytes
unfoldable pub whole_in : ℕ → List Said → List Said
whole_in k [] = []
whole_in k (t ∷ ts) = cond (nat_le (length t.text) k) (t ∷ whole_in (k - length t.text) ts) []

-- in this text, a response to this owner's request is read, and nothing behind it
abbrev pub Reads : Ear → Owner → Said → Response → Type 0
Reads e o t a = (a.last ≡ t.last) × (e o.method t.text ≡ whole a [])

-- responses that answer the requests of these owners in order: to each any number of early ones and then the last; the later requests may have none yet
pub data Answers (e : Ear) : List Owner → List Said → Type 0 where
  nothing : {os : List Owner} → Answers e os []
  last : {o : Owner} {os : List Owner} {t : Said} {ts : List Said} (a : Response) → Reads e o t a → t.last ≡ true → Answers e os ts → Answers e (o ∷ os) (t ∷ ts)
  early : {o : Owner} {os : List Owner} {t : Said} {ts : List Said} (a : Response) → Reads e o t a → t.last ≡ false → Answers e (o ∷ os) ts → Answers e (o ∷ os) (t ∷ ts)

-- An honest server: what it has said so far is the beginning of responses that answer the requests that went out, in order. It may have stopped anywhere.
pub record Honest (e : Ear) (vs : List Event) (c : Conn) (ts : List Said) : Type 0 where
  pub rest : Text
  pub said : texts_of ts ≡ said_in vs ++ rest
  pub answers : Answers e (owners_of c) ts

-- these owners were given these responses, in order: each the one that answers their own request, read from its own text
pub data Paired (e : Ear) : List Owner → List Said → List Given → Type 0 where
  nothing : {os : List Owner} → Paired e os [] []
  last : {o : Owner} {os : List Owner} {t : Said} {ts : List Said} {g : Given} {gs : List Given} → g.to ≡ o → Reads e o t g.response → t.last ≡ true → Paired e os ts gs → Paired e (o ∷ os) (t ∷ ts) (g ∷ gs)
  early : {o : Owner} {os : List Owner} {t : Said} {ts : List Said} {g : Given} {gs : List Given} → g.to ≡ o → Reads e o t g.response → t.last ≡ false → Paired e (o ∷ os) ts gs →
      Paired e (o ∷ os) (t ∷ ts) (g ∷ gs)

-- what was given is the first of an honest server's responses, each to the client who asked; where the connection rests, all that lie whole in what was
-- said; and the connection is up
pub record Served (e : Ear) (vs : List Event) (c : Conn) (ts : List Said) : Type 0 where
  pub first : List Said
  pub behind : List Said
  pub cut : ts ≡ first ++ behind
  pub paired : Paired e (owners_of c) first c.given
  pub all_whole : Rests e c → first ≡ whole_in (length (said_in vs)) ts
  pub stays_up : c.up ≡ true

-- TO OWNER
abbrev pub ToOwner : Type 0
ToOwner = (e : Ear) → Steady e → (vs : List Event) (c : Conn) → Leads e vs c → (ts : List Said) → Honest e vs c ts → Served e vs c ts

-- CUT-FREE. Where what a server says is cut makes no difference, as long as no request goes out between the pieces.
abbrev pub CutFree : Type 0
CutFree =
    (e : Ear) → Steady e → (vs ws : List Event) (ss ts : List Text) → concat ss ≡ concat ts → run e (vs ++ (map (λ s. says s) ss ++ ws)) fresh ≡ run e (vs ++ (map (λ s. says s) ts ++ ws)) fresh
