-- The server that a head asks for. RFC 9112, 3.2: exactly one Host. Stricter: it is the name of a server, without a port.
use Rattle.std.specs.Prelude.{ℕ, ◌+◌, Bool, cond, List, [], ◌∷◌, map, Some, None, Ok, Err, codes, Option, Result}
use Rattle.std.specs.Option.{option_map}
use Rattle.std.specs.Borrow.{Bor}
use Rattle.text.specs.Bytes.{Text, same_no_case}
use Rattle.message.specs.Faults.{flaw, onward}
use Rattle.message.specs.Sent.{Sent, view_line}
use Rattle.message.specs.declared.fault.Fault.TheVariants.{Host}
use Rattle.message.specs.declared.fault.Flaw.{Flaw}
use Rattle.message.specs.declared.sent.Line.{Line}

-- the names of servers, as the code holds them
abbrev pub names_of : List (Bor Text) → List Text
names_of servers = map (λ x. x.now) servers

abbrev pub is_host : Sent → Bool
is_host f = same_no_case f.name (codes "host")

abbrev pub second : Option Sent → Sent → Result (Option Sent) Flaw → Result (Option Sent) Flaw
second None f next = next
second (Some g) f next = Err (flaw Host f.at)

-- the one `host` among fields, after those with the one seen; a second one is wrong
unfoldable pub host_among : Option Sent → List Sent → Result (Option Sent) Flaw
host_among seen [] = Ok seen
host_among seen (f ∷ fs) = cond (is_host f) (second seen f (host_among (Some f) fs)) (host_among seen fs)

-- which name is the same but for case; the names are counted from k on
unfoldable pub server_from : ℕ → Text → List Text → Option ℕ
server_from k name [] = None
server_from k name (n ∷ ns) = cond (same_no_case n name) (Some k) (server_from (k + 1) name ns)

abbrev pub at_server : Option ℕ → ℕ → Result ℕ Flaw
at_server (Some k) place = Ok k
at_server None place = Err (flaw Host place)

abbrev pub chosen : List Text → ℕ → Option Sent → Result ℕ Flaw
chosen names end None = Err (flaw Host end)
chosen names end (Some f) = at_server (server_from 0 f.value names) f.value_at

-- the server that a head asks for, counted from 0; its empty line begins at the place end
abbrev pub server_of : List Text → ℕ → List Sent → Result ℕ Flaw
server_of names end fs = onward (host_among None fs) (chosen names end)

abbrev pub view_one : Option Line → Option Sent
view_one o = option_map view_line o

-- what the code holds, as a value
abbrev pub view_host : Result (Option Line) Flaw → Result (Option Sent) Flaw
view_host (Ok o) = Ok (view_one o)
view_host (Err w) = Err w
