-- What is promised of every fair reader and view holds of those with a habit.
use Rattle.std.proofs.Common.{◌≡◌, List, ap, ◌∙◌}
use Rattle.text.specs.Bytes.{Text}
use Rattle.request.specs.Canonical.{Req}
use Rattle.reader.specs.Reader.{read_all}
use Rattle.reader.proofs.Moments.{reads_so}
use Rattle.rules_laws.proofs.Alike.{ruled_alike}
use Rattle.forgiving.specs.Readers.{reader_with}
use Rattle.forgiving.specs.Views.{view_with}
use Rattle.forgiving.specs.declared.habit.Habit.{Habit}
use Rattle.forgiving_laws.specs.Laws.{AllAlike, AllRuledAlike, ReadAlike}
use Rattle.forgiving_laws.proofs.Fairly.{each_fair}
use Rattle.forgiving_laws.proofs.Views.{each_view_fair}

pub all_alike : AllAlike
all_alike h = reads_so (reader_with h) (each_fair h)

pub all_ruled_alike : AllRuledAlike
all_ruled_alike h = ruled_alike (view_with h) (each_view_fair h)

-- what a habit reads in a text
pub read_alike : (h : Habit) (text : Text) (found : List Req) → found ≡ read_all (reader_with h) text → ReadAlike text found
read_alike h text found e qs c k is = e ∙ ap (read_all (reader_with h)) is ∙ all_alike h qs c k
