-- Each call leads from a moment to the next.
use Rattle.std.proofs.Common.{◌≡◌, ℕ, Bool, true, false, ◌&&◌, List, [], ◌∷◌, ◌++◌, map, length, Some, None, Ok, Err, Result, ◌==◌, nat_lt}
use Rattle.std.specs.Borrow.{Bor}
use Rattle.text.specs.Bytes.{Text}
use Rattle.response_laws.specs.Ear.{ear}
use Rattle.rules.specs.declared.Rule.{Rule}
use Rattle.proxy.specs.Model.{Servers, Gate, Event, comes, turn}
use Rattle.proxy.specs.Model.{Did as Done}
use Rattle.proxy.specs.Slots.{server_limit, slab_size}
use Rattle.proxy.specs.Calls.{ClientSent, GoesOn, NextSo, OpensSo, ServerSaid, TellSo, NextIs, OnEntry, OnSize, ToldIs, entry_of}
use Rattle.proxy.specs.declared.state.Misuse.{Misuse}
use Rattle.proxy.specs.declared.state.Proxy.{Proxy}
use Rattle.proxy.specs.declared.client.Turn.{Turn}
use Rattle.proxy.specs.declared.server.Heard.{Heard}
use Rattle.proxy.specs.declared.server.Fallen.{Fallen}
use Rattle.proxy.specs.declared.server.Next.{Next}
use Rattle.proxy.specs.declared.server.Next.TheVariants.{Answer, Down, Rest}
use Rattle.proxy.specs.declared.server.Telling.{Telling}
use Rattle.proxy.specs.declared.server.Telling.TheVariants.{Tell, Rest as AllTold}
use Rattle.proxy_laws.specs.Traces.{Entry, came, went, Runs, start, coming, doing}
use Rattle.proxy_laws.specs.Calls.{Moment, ClientSentAt, GoesOnAt, NextAt, OpensAt, ServerSaidAt, TellAt, NextIsAt, OnEntryAt, OnSizeAt, ToldAt}
use Rattle.proxy_laws.proofs.Whole.{whole_gate}

-- a moment, by what led to it
moment : (servers : Servers) (es : List Entry) (g : Gate) → Runs servers ear es g → Moment servers es g
moment servers es g r = record { runs = r; whole = whole_gate servers es g r }

next_moment : (servers : Servers) (es : List Entry) (g : Gate) (v : Event) → Moment servers es g → turn servers ear g ≡ None → Moment servers (es ++ (came v ∷ [])) (comes v g)
next_moment servers es g v m t = moment servers (es ++ (came v ∷ [])) (comes v g) (coming v m.runs t)

turned : (servers : Servers) (es : List Entry) (g : Gate) (d : Done) → Moment servers es g → turn servers ear g ≡ Some d → Moment servers (es ++ map went d.out) d.then
turned servers es g d m t = moment servers (es ++ map went d.out) d.then (doing d m.runs t)

pub opens_at : (names : List (Bor Text)) (rules : List (Bor (List Rule))) (r : Result Proxy Misuse) → OpensSo names rules r → OpensAt names rules r
opens_at names rules (Ok p) h = λ memory size. record { stands = h.3 memory size; moment = moment _ [] _ start }
opens_at names rules (Err m) h = tt

pub client_sent_at : (c : ℕ) (old new : Proxy) (r : Result (Unit {0}) Misuse) → ClientSent c old new r → ClientSentAt c old new r
client_sent_at c old new (Ok u) h = λ servers memory es g at s.
    let k = h.1 servers memory g at.stands in
    record { stands = k.1 s; moment = next_moment servers es g _ at.moment k.0 }
client_sent_at c old new (Err m) h = tt

goes_at : (old new : Proxy) (memory then unread out after : Text) (r : Result Turn Misuse) (e : Result ℕ Misuse) → OnEntry old new memory then unread out after r e → OnEntryAt old new memory then unread out after r e
goes_at old new memory then unread out after r (Ok c) h = λ servers es g x at is un short.
    let k = h servers g x at.stands is un short in
    let t = k.3 in
    (k.0, k.1, k.2, (t.0, t.2, record { stands = t.3; moment = turned servers es g t.0 at.moment t.1 }, t.4))
goes_at old new memory then unread out after r (Err m) h = tt

pub goes_on_at : (old new : Proxy) (memory then unread out after : Text) (r : Result Turn Misuse) → GoesOn old new memory then unread out after r → GoesOnAt old new memory then unread out after r
goes_on_at old new memory then unread out after r h = goes_at old new memory then unread out after r (entry_of old (length memory) (length out)) h

pub server_said_at : (s : ℕ) (piece : Text) (old new : Proxy) (r : Result Heard Misuse) → ServerSaid s piece old new r → ServerSaidAt s piece old new r
server_said_at s piece old new (Ok h) said = λ servers memory es g at.
    let k = said servers memory g at.stands in
    record { hears = k.1; moment = next_moment servers es g _ at.moment k.0 }
server_said_at s piece old new (Err m) said = tt

next_is_at : (servers : Servers) (new : Proxy) (then : Text) (es : List Entry) (g : Gate) (d : Done) (r : Result Next Heard) → Moment servers es g → turn servers ear g ≡ Some d → NextIs servers new then d r → NextIsAt servers new then es d r
next_is_at servers new then es g d (Ok (Answer h a)) m t k = (k.0, record { hears = k.1; moment = turned servers es g d m t })
next_is_at servers new then es g d (Ok (Down f)) m t k = (k.0, record { tells = k.1; moment = turned servers es g d m t })
next_is_at servers new then es g d (Ok Rest) m t k = (k.0, record { stands = k.1; moment = turned servers es g d m t })
next_is_at servers new then es g d (Err h) m t k = k

sized_at : (heard : Heard) (old new : Proxy) (memory then : Text) (r : Result Next Heard) (b : Bool) → OnSize heard old new memory then r b → OnSizeAt heard old new memory then r b
sized_at heard old new memory then r true h = λ servers es g at.
    let k = h servers g at.hears in
    (k.0, next_is_at servers new then es g k.0 r at.moment k.1 k.2)
sized_at heard old new memory then r false h = tt

pub next_at : (heard : Heard) (old new : Proxy) (memory then : Text) (r : Result Next Heard) → NextSo heard old new memory then r → NextAt heard old new memory then r
next_at heard old new memory then r h = sized_at heard old new memory then r (length memory == slab_size && nat_lt heard.server server_limit) h

told_at : (servers : Servers) (new : Proxy) (memory : Text) (es : List Entry) (g : Gate) (d : Done) (r : Telling) → Moment servers es g → turn servers ear g ≡ Some d → ToldIs servers new memory d r → ToldAt servers new memory es d r
told_at servers new memory es g d (Tell f o) m t k = (k.0, record { tells = k.1; moment = turned servers es g d m t })
told_at servers new memory es g d AllTold m t k = (k.0, record { stands = k.1; moment = turned servers es g d m t })

pub tell_at : (f : Fallen) (old new : Proxy) (r : Telling) → TellSo f old new r → TellAt f old new r
tell_at f old new r h = λ servers memory es g at.
    let k = h servers memory g at.tells in
    (k.0, told_at servers new memory es g k.0 r at.moment k.1 k.2)
