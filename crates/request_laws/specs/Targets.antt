-- The grammar of targets as they are sent, and the places that they mean. RFC 3986, 3.3 and 3.4; RFC 9112, 3.2.1: origin-form = absolute-path
-- [ "?" query ].
use Rattle.std.specs.Prelude.{◌≡◌, ℕ, ◌≤◌, T, List, [], ◌∷◌, ◌++◌, Some}
use Rattle.text.specs.Numerals.{hex_pair}
use Rattle.text.specs.Bytes.{Text, plain_byte, query_byte, all}
use Rattle.request.specs.Targets.{capital}
use Rattle.request.specs.Places.{Piece, Plain, Coded, good_part, Place}

-- The bytes of a part, and the pieces that they mean: a plain byte is itself, a code for a plain byte is that byte, and a code for a byte above 127 is
-- kept, its digits in capitals. There are no other codes.
pub data PartSpelled : Text → List Piece → Type 0 where
  end : PartSpelled [] []
  bare : {c : ℕ} {t : Text} {ps : List Piece} → T (plain_byte c) → PartSpelled t ps → PartSpelled (c ∷ t) (Plain c ∷ ps)
  undone : {a b : ℕ} (v : ℕ) {t : Text} {ps : List Piece} → hex_pair a b ≡ Some v → T (plain_byte v) → PartSpelled t ps → PartSpelled (37 ∷ a ∷ b ∷ t) (Plain v ∷ ps)
  left : {a b : ℕ} (v : ℕ) {t : Text} {ps : List Piece} → hex_pair a b ≡ Some v → 128 ≤ v → PartSpelled t ps → PartSpelled (37 ∷ a ∷ b ∷ t) (Coded (capital a) (capital b) ∷ ps)

-- Parts, each after a slash; none is empty or ends with a dot.
pub data PartsSpelled : Text → List (List Piece) → Type 0 where
  none : PartsSpelled [] []
  part : (t u : Text) {p : List Piece} {ps : List (List Piece)} → PartSpelled t p → T (good_part p) → PartsSpelled u ps → PartsSpelled (47 ∷ (t ++ u)) (p ∷ ps)

-- A path: a slash alone, or parts.
pub data PathSpelled : Text → List (List Piece) → Type 0 where
  root : PathSpelled (47 ∷ []) []
  parts : {t : Text} {p : List Piece} {ps : List (List Piece)} → PartsSpelled t (p ∷ ps) → PathSpelled t (p ∷ ps)

-- A target: a path, and a query or none. An empty query is none.
pub data TargetSpelled : Text → Place → Type 0 where
  path : {t : Text} {ps : List (List Piece)} → PathSpelled t ps → TargetSpelled t (record { parts = ps; query = [] })
  query : (t u : Text) {ps : List (List Piece)} → PathSpelled t ps → T (all query_byte u) → TargetSpelled (t ++ (63 ∷ u)) (record { parts = ps; query = u })
