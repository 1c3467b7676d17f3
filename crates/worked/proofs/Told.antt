-- What events bring, turn after turn; and that the gate plays it.
use Rattle.std.proofs.Common.{◌≡◌, ℕ, zero, suc, ◌-◌, List, [], ◌∷◌, ◌++◌, map, refl, subst, Some, None, Option}
use Rattle.std.specs.Prelude.{IfSome}
use Rattle.response_laws.specs.Ear.{ear}
use Rattle.proxy.specs.Model.{Servers, Gate, Did, Event, from_client as client_says, from_server as server_says, comes, turn, opened}
use Rattle.worked.specs.Played.{Line, from_client, from_server, to_server, to_client, end_client, down_server, Row, came, went, Plays, over, coming, doing, sent_in, servers_of, Goes}

abbrev pub behind : List Line → Option (List Line) → Option (List Line)
behind ls None = None
behind ls (Some ms) = Some (ls ++ ms)

abbrev pub on_turn : (List Event → Gate → Option (List Line)) → List Event → Gate → Option Did → Option (List Line)
on_turn go [] g None = Some []
on_turn go (v ∷ vs) g None = behind (came v ∷ []) (go vs (comes v g))
on_turn go vs g (Some d) = behind (map went d.out) (go vs d.then)

-- all that comes and goes out from a state on; none where that takes more than k turns and events
unfoldable pub told : ℕ → Servers → List Event → Gate → Option (List Line)
told zero servers vs g = None
told (suc k) servers vs g = on_turn (λ ws h. told k servers ws h) vs g (turn servers ear g)

if_behind : (P Q : List Line → Type 0) (ls : List Line) (o : Option (List Line)) → ((ms : List Line) → P ms → Q (ls ++ ms)) → IfSome o P → IfSome (behind ls o) Q
if_behind P Q ls None f h = tt
if_behind P Q ls (Some ms) f h = f ms h

module _ (servers : Servers) (go : List Event → Gate → Option (List Line)) (goes : (vs : List Event) (g : Gate) → IfSome (go vs g) (Plays servers g)) where
  if_turn : (vs : List Event) (g : Gate) (o : Option Did) → turn servers ear g ≡ o → IfSome (on_turn go vs g o) (Plays servers g)
  if_turn [] g None e = over e
  if_turn (v ∷ vs) g None e = if_behind (Plays servers (comes v g)) (Plays servers g) (came v ∷ []) (go vs (comes v g)) (λ ms p. coming v e p) (goes vs (comes v g))
  if_turn [] g (Some d) e = if_behind (Plays servers d.then) (Plays servers g) (map went d.out) (go [] d.then) (λ ms p. doing d e p) (goes [] d.then)
  if_turn (v ∷ vs) g (Some d) e = if_behind (Plays servers d.then) (Plays servers g) (map went d.out) (go (v ∷ vs) d.then) (λ ms p. doing d e p) (goes (v ∷ vs) d.then)

pub plays : (k : ℕ) (servers : Servers) (vs : List Event) (g : Gate) → IfSome (told k servers vs g) (Plays servers g)
unfolding told
plays zero servers vs g = tt
plays (suc k) servers vs g = if_turn servers (λ ws h. told k servers ws h) (λ ws h. plays k servers ws h) vs g (turn servers ear g) refl

-- what comes by a line
abbrev pub event_of : Line → List Event
event_of (from_client n s) = client_says (n - 1) s ∷ []
event_of (from_server n s) = server_says (n - 1) s ∷ []
event_of (to_server n s) = []
event_of (to_client n s) = []
event_of (end_client n) = []
event_of (down_server n) = []

unfoldable pub events_of : List Line → List Event
events_of [] = []
events_of (l ∷ ls) = event_of l ++ events_of ls

-- the lines of a row are what its events bring
pub goes : (r : Row) → told 32 (servers_of r) (events_of r.lines) (opened (servers_of r)) ≡ Some r.lines → sent_in r.lines ≡ r.sent → Goes r
goes r e n = record {
  plays = subst (λ (o : Option (List Line)). IfSome o (Plays (servers_of r) (opened (servers_of r)))) e (plays 32 (servers_of r) (events_of r.lines) (opened (servers_of r)));
  sent = n;
}
