-- What holds of servers with any of the fourteen habits. Each is a type; a proof of the type is the theorem.
use Rattle.std.specs.Prelude.{◌≡◌, ℕ, T, List, take}
use Rattle.text.specs.Bytes.{Text}
use Rattle.request.specs.Canonical.{Req, all_canonical, writes, all_sent}
use Rattle.request.specs.Places.{Place, good_place, target_of}
use Rattle.reader.specs.Reader.{Fair, read_all}
use Rattle.reader.specs.Laws.{within}
use Rattle.rules.specs.Rules.{Rule, ruled_from, parts_in}
use Rattle.rules_laws.specs.Views.{FairView, good_rules}
use Rattle.forgiving.specs.Readers.{reader_with}
use Rattle.forgiving.specs.Views.{view_with}
use Rattle.forgiving.specs.declared.habit.Habit.{Habit}

-- A reader with any of the habits is fair.
abbrev pub EachFair : Type 0
EachFair = (h : Habit) → Fair (reader_with h)

-- A view with any of the habits is fair.
abbrev pub EachViewFair : Type 0
EachViewFair = (h : Habit) → FairView (view_with h)

-- Of canonical requests, cut at any byte, all read the same: those that lie whole before the cut, in order, and no other.
abbrev pub AllAlike : Type 0
AllAlike = (h : Habit) (qs : List Req) → T (all_canonical qs) → (k : ℕ) → read_all (reader_with h) (take k (writes qs)) ≡ all_sent (within k qs)

-- What was read in a text: where that is canonical requests, cut at any byte, it is those that lie whole before the cut.
abbrev pub ReadAlike : Text → List Req → Type 0
ReadAlike text found = (qs : List Req) → T (all_canonical qs) → (k : ℕ) → text ≡ take k (writes qs) → found ≡ all_sent (within k qs)

-- Of a good place's target all see what good rules rule alike.
abbrev pub AllRuledAlike : Type 0
AllRuledAlike =
    (h : Habit) (us : List Rule) → T (good_rules us) → (m : Text) (p : Place) → T (good_place p) → ruled_from 0 us m ((view_with h).see (target_of p)) ≡ ruled_from 0 us m (parts_in (target_of p))
