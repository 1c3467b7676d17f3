-- What is proved of the worked cases. Each is a type; a proof of the type is the theorem.
use Rattle.std.specs.Prelude.{◌≡◌, List}
use Rattle.std.specs.List.{AllByRecursion}
use Rattle.proxy.specs.Model.{Servers, Gate}
use Rattle.worked.specs.Played.{Line, Plays, incoming, Goes, IsFound}
use Rattle.worked.specs.Rows.{rows, refused}

-- Each case goes as its row says.
abbrev pub WorkedCases : Type 0
WorkedCases = AllByRecursion Goes rows

-- And it cannot go otherwise: what comes decides what goes out.
abbrev pub PlaysOneWay : Type 0
PlaysOneWay = (servers : Servers) (g : Gate) (ls ms : List Line) → Plays servers g ls → Plays servers g ms → incoming ls ≡ incoming ms → ls ≡ ms

-- In each of the requests that are refused, the fault is found that its row says.
abbrev pub WorkedFaults : Type 0
WorkedFaults = AllByRecursion IsFound refused
