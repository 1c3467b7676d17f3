-- The whole promise of a connection that many clients share, for every server that reads plain things plainly.
use Rattle.std.specs.Prelude.{◌≡◌, ℕ, true, T, List, take}
use Rattle.std.specs.List.{Contains}
use Rattle.request.specs.Canonical.{Req, canonical, writes, all_sent}
use Rattle.request.specs.Places.{Place, good_place, target_of}
use Rattle.reader.specs.Reader.{Reader, Fair, read_all}
use Rattle.reader.specs.Laws.{within}
use Rattle.rules.specs.Rules.{Rule, verdict, parts_in}
use Rattle.rules_laws.specs.Views.{View, FairView, good_rules}
use Rattle.connection.specs.Model.{Ear, Steady, Given, Conn, Event}
use Rattle.connection_laws.specs.Moments.{Leads}
use Rattle.connection_laws.specs.Laws.{owners_of, requests_of, in_order, Everyone, NothingLost, Timely, Said, Honest, Served}

-- a request that was let pass: canonical, for a good place, and allowed by the rules
abbrev pub LetPass : List Rule → Req → Type 0
LetPass us q = T (canonical q) × ((p : Place) × T (good_place p) × (q.target ≡ target_of p)) × (verdict us q.method (parts_in q.target) ≡ true)

-- What is promised of a connection at a moment, for a server with these rules, that reads as r and sees paths as v. read: however many bytes of what went
-- out have reached the server, it has read exactly the requests that lie whole in them, in order. allowed: each of these is one that the rules allow as
-- the server sees its path. served: if the server answers each request in order, each client has been given exactly the responses to their own
-- requests. The others hold of any server: nobody is given a response but an owner whose turn it is; nobody a byte from before their own request; all
-- whose requests went out have a last response, were told, or wait; and what was said is what was handed over and what is left.
pub record Promise (us : List Rule) (r : Reader) (v : View) (e : Ear) (vs : List Event) (c : Conn) : Type 0 where
  pub read : (k : ℕ) → read_all r (take k (writes (requests_of c))) ≡ all_sent (within k (requests_of c))
  pub allowed : (q : Req) → Contains (requests_of c) q → verdict us q.method (v.see q.target) ≡ true
  pub served : (ts : List Said) → Honest e vs c ts → Served e vs c ts
  pub in_turn : T (in_order 0 c.given)
  pub of_owners : (g : Given) → Contains c.given g → Contains (owners_of c) g.to
  pub timely : Timely e vs c
  pub everyone : Everyone c
  pub nothing_lost : NothingLost e vs c

-- for whatever rules, fair reader and fair view, where the requests that went out were let pass
abbrev pub Promised : Ear → List Event → Conn → Type 0
Promised e vs c = (us : List Rule) → T (good_rules us) → (r : Reader) → Fair r → (v : View) → FairView v → ((q : Req) → Contains (requests_of c) q → LetPass us q) → Promise us r v e vs c

-- MAIN. At every moment that calls can lead to, for every steady way of reading responses and whatever the server says, cut anywhere.
abbrev pub Main : Type 0
Main = (e : Ear) → Steady e → (vs : List Event) (c : Conn) → Leads e vs c → Promised e vs c
