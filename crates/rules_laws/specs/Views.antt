-- A server's view of a target, of which little is known: it may do what it likes with targets that the gate never writes. And which rules are good.
use Rattle.std.specs.Prelude.{◌≡◌, ℕ, Bool, true, not, ◌&&◌, ◌||◌, T, ◌⊎◌, List, [], ◌∷◌, ◌==◌, nat_lt, ◌≢◌}
use Rattle.std.specs.List.{list_any}
use Rattle.text.specs.Bytes.{Text, rule_byte, all, nonempty, lowered}
use Rattle.request.specs.Places.{Piece, Place, is_plain, part_text, good_part, good_place, target_of}
use Rattle.rules.specs.Rules.{Rule, parts_in}

-- A view, as two parts. see: what the server makes of a target, which is the parts of its path. shown: what it makes of one good part.
pub record View : Type 0 where
  pub see : Text → List Text
  pub shown : List Piece → Text

-- what it makes of each of the parts, in order
unfoldable pub shows : View → List (List Piece) → List Text
shows v [] = []
shows v (p ∷ ps) = v.shown p ∷ shows v ps

-- a byte that no rule has, nor any text that is a rule's but for case: one above 126, or %
abbrev pub foreign : ℕ → Bool
foreign c = nat_lt 126 c || c == 37

-- What is asked of a server's view. It may undo codes once or more often, cut parts at `;`, join or drop empty parts, resolve dots, change the case of
-- letters. It is asked only that it keeps a plain part but for case, and shows a part with a code with a byte that no rule has; and this only of
-- targets that the gate may write. sees: of a path with parts it makes one part of each. root: of the path `/` it makes no part, or an empty one.
-- plain: of a part without codes it makes the same bytes but for case. coded: in what it makes of a part with a code, such a byte is left.
pub record FairView (v : View) : Type 0 where
  pub sees : (p : Place) → T (good_place p) → (p.parts ≢ []) → v.see (target_of p) ≡ shows v p.parts
  pub root : (p : Place) → T (good_place p) → p.parts ≡ [] → (v.see (target_of p) ≡ []) ⊎ (v.see (target_of p) ≡ [] ∷ [])
  pub plain : (p : List Piece) → T (good_part p) → T (is_plain p) → lowered (v.shown p) ≡ lowered (part_text p)
  pub coded : (p : List Piece) → T (good_part p) → T (not (is_plain p)) → T (list_any foreign (v.shown p))

-- The view that does nothing: it cuts the path at its slashes and leaves the parts as they are written. It shows that fair views exist.
abbrev pub untouched : View
untouched = record { see = parts_in; shown = part_text }

-- the first parts of a path, as a rule has them: each not empty, and of plain bytes without capitals
unfoldable pub good_start : List Text → Bool
good_start [] = true
good_start (t ∷ ts) = nonempty t && all rule_byte t && good_start ts

unfoldable pub good_rules : List Rule → Bool
good_rules [] = true
good_rules (u ∷ us) = good_start u.start && good_rules us
