-- THE WHOLE GATE, for any settings and every sequence of events.
use Rattle.std.specs.Prelude.{◌≡◌, ℕ, ◌<◌, ◌≤◌, List, [], length}
use Rattle.response_laws.specs.Ear.{ear}
use Rattle.proxy.specs.Model.{Servers, Gate, client_count}
use Rattle.proxy_laws.specs.Traces.{Entry, Runs, outs_for}
use Rattle.proxy_laws.specs.Servers.{ServerPromise}
use Rattle.proxy_laws.specs.Clients.{ClientPromise}

-- of each server and of each client, and nothing goes out for anybody else
pub record Whole (servers : Servers) (es : List Entry) (g : Gate) : Type 0 where
  pub each_server : (k : ℕ) → k < length servers.names → ServerPromise servers es g k
  pub each_client : (c : ℕ) → c < client_count → ClientPromise servers es c g
  pub nobody_else : (c : ℕ) → client_count ≤ c → outs_for c es ≡ []

-- WHOLE GATE. Whatever came, in whatever pieces, and at every moment, not only where the gate rests.
abbrev pub WholeGate : Type 0
WholeGate = (servers : Servers) (es : List Entry) (g : Gate) → Runs servers ear es g → Whole servers es g
