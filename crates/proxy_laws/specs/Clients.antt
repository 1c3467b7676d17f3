-- What is promised of each client: its bytes are its requests, one after the other, and for each in turn it is given what belongs to it.
use Rattle.std.specs.Prelude.{◌≡◌, ℕ, true, false, List, [], ◌∷◌, ◌++◌, map, length, Some, None, slice_get}
use Rattle.std.specs.List.{AllByRecursion, Contains}
use Rattle.text.specs.Bytes.{Text}
use Rattle.message.specs.Faults.{ends_client}
use Rattle.message.specs.declared.fault.Fault.{Fault}
use Rattle.message.specs.declared.fault.Fault.TheVariants.{Denied, Busy, Down}
use Rattle.message.specs.declared.fault.Flaw.{Flaw}
use Rattle.request.specs.Canonical.{Req}
use Rattle.request.specs.Found.{more, fault}
use Rattle.request_laws.specs.Faults.{FirstFault}
use Rattle.request_laws.specs.Grammar.{Spelled}
use Rattle.request_laws.specs.Once.{Told}
use Rattle.request_laws.specs.Outcome.{outcome, whole}
use Rattle.rules.specs.Rules.{verdict, parts_in}
use Rattle.connection.specs.Model.{Owner, Response, Conn}
use Rattle.response_laws.specs.Ear.{ear}
use Rattle.proxy.specs.Model.{Servers, Gate, Out, sends, answers, fails, refuses, ends, downs, rules_of, turn}
use Rattle.proxy_laws.specs.Traces.{Entry, went, sent_by, outs_for, asked_of, Crowded}

-- a request that went out: as sent, the server, what went out, and whose it is there
pub record Asked : Type 0 where
  pub text : Text
  pub server : ℕ
  pub request : Req
  pub owner : Owner

-- What became of a request: it was refused; or it went out, and its client was given some early responses and the last one; or some early responses, and
-- then a refusal, since the server's connection went down.
pub data Fate : Type 0 where
  refused : (text : Text) → Fault → Fate
  answered : Asked → (early : List Response) → (last : Response) → Fate
  failed : Asked → (early : List Response) → Fate

-- What a client is at: it reads; or a request of it is out, and so far it was given these early responses; or its connection was ended for a fault.
pub data Now : Type 0 where
  reading : Now
  waiting : Asked → (early : List Response) → Now
  over : Fault → Now

-- WHAT GOES OUT OF EACH, all of it and in this order

abbrev pub asking : ℕ → Asked → List Response → List Out
asking c x early = sends x.server c x.request ∷ map (λ a. answers x.server x.owner a) early

-- of one that was refused nothing goes out to any server
abbrev pub outs_of : ℕ → Fate → List Out
outs_of c (refused text f) = refuses c f ∷ []
outs_of c (answered x early last) = asking c x early ++ (answers x.server x.owner last ∷ [])
outs_of c (failed x early) = asking c x early ++ (fails x.server x.owner ∷ [])

unfoldable pub outs_of_all : ℕ → List Fate → List Out
outs_of_all c [] = []
outs_of_all c (x ∷ xs) = outs_of c x ++ outs_of_all c xs

abbrev pub outs_now : ℕ → Now → List Out
outs_now c reading = []
outs_now c (waiting x early) = asking c x early
outs_now c (over f) = refuses c f ∷ ends c ∷ []

-- WHAT EACH MEANS

-- the connection of this server had gone down
abbrev pub WentDown : ℕ → List Entry → Type 0
WentDown k es = Contains es (went (downs k))

-- responses after each of which another one follows
abbrev pub Early : List Response → Type 0
Early early = AllByRecursion (λ a. a.last ≡ false) early

-- the text of a request with this fate, as sent
abbrev pub text_of : Fate → Text
text_of (refused text f) = text
text_of (answered x early last) = x.text
text_of (failed x early) = x.text

module _ (servers : Servers) (es : List Entry) (c : ℕ) where
  -- The text is a request as the language has it, for this server; what went out is what it means; the rules of the server allow it; and the owner is this
  -- client, by the number that the request has among those that went out to the server.
  pub record GoesOut (x : Asked) : Type 0 where
    pub spelled : Spelled servers.names x.text x.server x.request
    pub allowed : verdict (rules_of servers x.server) x.request.method (parts_in x.request.target) ≡ true
    pub own : (x.owner.client ≡ c) × (x.owner.method ≡ x.request.method)
    pub numbered : slice_get (asked_of x.server es) x.owner.number ≡ Some (record { client = c; request = x.request })

  -- when this went out, behind just these outputs of the client's, P held of all that had happened
  abbrev pub When : List Out → Out → (List Entry → Type 0) → Type 0
  When before o P = (xs ys : List Entry) × (es ≡ xs ++ (went o ∷ ys)) × (outs_for c xs ≡ before) × P xs

  -- Why a request is refused whose end is known; s are the client's bytes from its first on, and the outputs before went out before. It has a fault, the
  -- first in the stated order; or it is a request, which the rules of its server deny; or they allow it, and then as many waited at the server as may, or
  -- its connection had gone down.
  pub data Refused (before : List Out) (s text : Text) : Fault → Type 0 where
    faulty : (w : Flaw) → outcome servers.names s ≡ whole (fault w) (length text) → FirstFault servers.names s w → ends_client w.fault ≡ false → Refused before s text w.fault
    denied : (k : ℕ) (q : Req) → Spelled servers.names text k q → verdict (rules_of servers k) q.method (parts_in q.target) ≡ false → Refused before s text Denied
    crowded : (k : ℕ) (q : Req) → Spelled servers.names text k q → verdict (rules_of servers k) q.method (parts_in q.target) ≡ true → When before (refuses c Busy) (Crowded k) → Refused before s text Busy
    down : (k : ℕ) (q : Req) → Spelled servers.names text k q → verdict (rules_of servers k) q.method (parts_in q.target) ≡ true → When before (refuses c Down) (WentDown k) → Refused before s text Down

  -- what each fate means, behind these earlier ones of the client; s are its bytes from there on
  abbrev pub Meant : List Fate → Text → Fate → Type 0
  Meant earlier s (refused text f) = Refused (outs_of_all c earlier) s text f
  Meant earlier s (answered x early last) = GoesOut x × Early early × (last.last ≡ true)
  Meant earlier s (failed x early) = GoesOut x × Early early × When (outs_of_all c earlier ++ asking c x early) (fails x.server x.owner) (WentDown x.server)

  -- Behind earlier requests, the bytes are the texts of requests with these fates, one after the other, and then what is left.
  pub data Read : List Fate → Text → List Fate → Text → Type 0 where
    none : {earlier : List Fate} {s : Text} → Read earlier s [] s
    next : {earlier : List Fate} {s rest left : Text} {xs : List Fate} (x : Fate) → s ≡ text_of x ++ rest → Meant earlier s x → Read (earlier ++ (x ∷ [])) rest xs left → Read earlier s (x ∷ xs) left

  -- What is left of the bytes is the text of the request that is out, if one is, and what no request has taken. Of a client whose connection was ended it
  -- begins with the fault.
  abbrev pub Left : Text → Now → Text → Type 0
  Left s reading rest = s ≡ rest
  Left s (waiting x early) rest = GoesOut x × Early early × (s ≡ x.text ++ rest)
  Left s (over f) rest = (s ≡ rest) × ((w : Flaw) × FirstFault servers.names s w × (w.fault ≡ f) × (ends_client f ≡ true))

  -- Where the gate rests, a client that reads has been read to its end: what is left begins with no request and has no fault. And one that waits is among
  -- those who wait at the connection of its server: nobody waits for a response that has come already.
  abbrev pub Settled : Gate → Now → Text → Type 0
  Settled g reading rest = turn servers ear g ≡ None → Told servers.names rest more
  Settled g (waiting x early) rest = turn servers ear g ≡ None → (d : Conn) × (slice_get g.connections x.server ≡ Some d) × Contains d.waiting x.owner
  Settled g (over f) rest = Unit {0}

  -- done: its requests so far; now: what it is at; rest: what it sent and no request has taken. outs: all that went out of it, and to it, is what goes out of
  -- these, in order. read: and they are what its bytes mean.
  pub record ClientPromise (g : Gate) : Type 0 where
    pub done : List Fate
    pub now : Now
    pub left : Text
    pub rest : Text
    pub outs : outs_for c es ≡ outs_of_all c done ++ outs_now c now
    pub read : Read [] (sent_by c es) done left
    pub unfinished : Left left now rest
    pub settled : Settled g now rest
