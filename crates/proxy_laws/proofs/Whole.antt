-- The law of the whole gate: what is kept holds at the start and ever after, and it says all that is promised.
use Rattle.std.proofs.Common.{◌≡◌, ℕ, zero, suc, ◌<◌, List, [], ◌∷◌, map, length, refl, ap, ◌∙◌, subst, inr, ⊎_elim, arith}
use Rattle.std.specs.Prelude.{Some, slice_get}
use Rattle.std.specs.List.{Contains}
use Rattle.std.proofs.lemmas.List.{length-map, length-replicate}
use Rattle.text.specs.Bytes.{Text}
use Rattle.request.specs.Found.{more}
use Rattle.request.specs.Heads.{window}
use Rattle.request_laws.specs.Laws.{finding_of}
use Rattle.request_laws.specs.Outcome.{outcome}
use Rattle.request_laws.proofs.Telling.{found_told}
use Rattle.connection.specs.Model.{Conn, fresh}
use Rattle.connection_laws.specs.Laws.{said_in}
use Rattle.connection_laws.specs.Moments.{start}
use Rattle.response_laws.specs.Ear.{ear}
use Rattle.proxy.specs.Model.{Servers, client_count, Client, reads, Gate, nothing, opened}
use Rattle.proxy_laws.specs.Clients.{Now, reading, waiting, over, outs_of_all, none, Settled, ClientPromise}
use Rattle.proxy_laws.specs.Servers.{ServerPromise}
use Rattle.proxy_laws.specs.Traces.{Entry, Runs, start as begun, coming, doing, events_at, sent_by, outs_for, said_by, asked_of, bytes_of, got_from, told_by, downs_of}
use Rattle.proxy_laws.specs.Whole.{Whole, WholeGate}
use Rattle.proxy_laws.proofs.AtClient.{AtClient, InLine}
use Rattle.proxy_laws.proofs.AtServer.{AtServer, server_promised}
use Rattle.proxy_laws.proofs.Changed.{stands, replicated}
use Rattle.proxy_laws.proofs.Keeps.{Keeps}
use Rattle.proxy_laws.proofs.Owed.{Owed, untold, pending}
use Rattle.proxy_laws.proofs.Projections.{bytes_written}
use Rattle.proxy_laws.proofs.Turns.{none_in, turn_keeps, at_rest, event_keeps}

-- AT THE START

fresh_at : (names : List Text) (k : ℕ) (d : Conn) → slice_get (map (λ x. fresh) names) k ≡ Some d → fresh ≡ d
fresh_at [] k d e = cc
fresh_at (x ∷ names) zero d e = cc
fresh_at (x ∷ names) (suc k) d e = fresh_at names k d e

-- a client before its first byte
abbrev new : Client
new = record { stage = reads; hand = []; unread = [] }

module _ (servers : Servers) where
  -- no bytes are no whole request and no fault
  nothing_found : finding_of (outcome servers.names []) ≡ more
  unfolding window
  nothing_found = refl

  client_begins : (c : ℕ) → AtClient servers [] [] c new reading
  unfolding outs_for sent_by outs_of_all
  client_begins c = record { done = []; left = []; rest = []; outs = refl; read = none; unfinished = refl; held = (refl, refl); in_line = inr nothing_found }

  server_begins : (k : ℕ) → AtServer servers [] nothing k fresh
  unfolding events_at said_in said_by asked_of got_from told_by downs_of
  server_begins k = record { vs = []; led = start; order = refl; said = refl; asked = refl; given = refl; told = refl; down = refl; fell = λ u. cc; calm = λ n. refl; passed = λ q m. none_in q m }

  nobody_owed : (now : ℕ → Now) (k : ℕ) → Owed now k []
  nobody_owed now k = record { whose = λ o m. none_in o m; apart = tt }

  nothing_out : (c : ℕ) → outs_for c [] ≡ []
  unfolding outs_for
  nothing_out c = refl

  begins : Keeps servers [] (opened servers)
  begins = record {
    now = λ c. reading;
    few = length-replicate client_count new;
    many = length-map servers.names (λ x. fresh);
    clients = λ c x i. subst (λ (y : Client). AtClient servers [] [] c y reading) (replicated client_count c new x i) (client_begins c);
    connections = λ k d i. subst (AtServer servers [] nothing k) (fresh_at servers.names k d i) (server_begins k);
    owed = λ k d i. subst (λ (y : Conn). Owed (λ c. reading) k y.waiting) (fresh_at servers.names k d i) (nobody_owed (λ c. reading) k);
    waits = λ c a early e. cc;
    nobody = λ c m. nothing_out c;
    fell = tt;
  }

  -- AND EVER AFTER
  keeps : {es : List Entry} {g : Gate} → Runs servers ear es g → Keeps servers es g
  keeps begun = begins
  keeps (coming {es} {g} v r t) = event_keeps servers es g.clients g.connections v g.doing g.line (keeps r) t
  keeps (doing {es} {g} d r t) = turn_keeps servers es g.clients g.connections g.doing g.line d (keeps r) t

  -- WHAT IS PROMISED
  module _ (es : List Entry) (g : Gate) (h : Keeps servers es g) where
    server_promise : (k : ℕ) → k < length servers.names → ServerPromise servers es g k
    server_promise k lt =
        let d = stands g.connections k (omega (arith, lt, h.many)) in
        let a = h.connections k d.0 d.1 in
        record {
          c = d.0;
          vs = a.vs;
          is = d.1;
          in_order = a.order;
          said = a.said;
          asked = a.asked;
          bytes = bytes_written d.0.sent ∙ ap bytes_of a.asked;
          given = a.given;
          down = a.down;
          told = (untold k g.doing, a.told, λ t. ap (untold k) (at_rest servers es g.clients g.connections g.doing g.line t).0);
          promised = server_promised servers es [] g.doing g.doing k d.0 a;
        }

    settled : (c : ℕ) (n : Now) (rest : Text) → h.now c ≡ n → InLine servers.names g.line c n rest → Settled servers es c g n rest
    settled c reading rest e i = λ t.
        let z = (at_rest servers es g.clients g.connections g.doing g.line t).1 in
        found_told servers.names rest more (⊎_elim (λ m. none_in c (subst (λ l. Contains l c) z m)) (λ f. f) i)
    settled c (waiting a early) rest e i = λ t.
        let z = (at_rest servers es g.clients g.connections g.doing g.line t).0 in
        let w = (h.waits c a early e).1 in
        (w.0, w.1, subst (λ v. Contains (pending a.server v w.0) a.owner) z w.2)
    settled c (over f) rest e i = tt

    client_promise : (c : ℕ) → c < client_count → ClientPromise servers es c g
    client_promise c lt =
        let x = stands g.clients c (omega (arith, lt, h.few)) in
        let a = h.clients c x.0 x.1 in
        record { done = a.done; now = h.now c; left = a.left; rest = a.rest; outs = a.outs; read = a.read; unfinished = a.unfinished; settled = settled c (h.now c) a.rest refl a.in_line }

    promise : Whole servers es g
    promise = record { each_server = server_promise; each_client = client_promise; nobody_else = h.nobody }

pub whole_gate : WholeGate
whole_gate servers es g r = promise servers es g (keeps servers r)
