-- Good places: what the target of a canonical request names, part by part.
use Rattle.std.specs.Prelude.{ℕ, Bool, true, false, not, ◌&&◌, ◌||◌, List, [], ◌∷◌, ◌++◌, ◌==◌}
use Rattle.text.specs.Bytes.{Text, between, digit, plain_byte, query_byte, all, nonempty}

-- one byte of a part: itself, or % and two digits that stand for a byte above 127
pub data Piece : Type 0 where
  Plain : ℕ → Piece
  Coded : ℕ → ℕ → Piece

-- the first digit of such a code, and the second: 8 to F, 0 to F, in capitals
abbrev pub high_digit : ℕ → Bool
high_digit c = between 56 57 c || between 65 70 c

abbrev pub capital_digit : ℕ → Bool
capital_digit c = digit c || between 65 70 c

abbrev pub good_piece : Piece → Bool
good_piece (Plain c) = plain_byte c
good_piece (Coded a e) = high_digit a && capital_digit e

abbrev pub piece_text : Piece → Text
piece_text (Plain c) = c ∷ []
piece_text (Coded a e) = 37 ∷ a ∷ e ∷ []

unfoldable pub good_pieces : List Piece → Bool
good_pieces [] = true
good_pieces (p ∷ ps) = good_piece p && good_pieces ps

unfoldable pub part_text : List Piece → Text
part_text [] = []
part_text (p ∷ ps) = piece_text p ++ part_text ps

-- no coded piece
unfoldable pub is_plain : List Piece → Bool
is_plain [] = true
is_plain (Plain c ∷ ps) = is_plain ps
is_plain (Coded a e ∷ ps) = false

unfoldable pub last_is_dot : Text → Bool
last_is_dot [] = false
last_is_dot (c ∷ []) = c == 46
last_is_dot (c ∷ d ∷ cs) = last_is_dot (d ∷ cs)

-- a part of a path: not empty, and its last byte is no dot
abbrev pub good_part : List Piece → Bool
good_part ps = good_pieces ps && nonempty (part_text ps) && not (last_is_dot (part_text ps))

unfoldable pub good_parts : List (List Piece) → Bool
good_parts [] = true
good_parts (p ∷ ps) = good_part p && good_parts ps

-- the parts of a path, each after a slash
unfoldable pub parts_text : List (List Piece) → Text
parts_text [] = []
parts_text (p ∷ ps) = (47 ∷ part_text p) ++ parts_text ps

unfoldable pub part_texts : List (List Piece) → List Text
part_texts [] = []
part_texts (p ∷ ps) = part_text p ∷ part_texts ps

pub record Place : Type 0 where
  pub parts : List (List Piece)
  pub query : Text

abbrev pub good_place : Place → Bool
good_place p = good_parts p.parts && all query_byte p.query

-- the path without parts is a slash
unfoldable pub or_root : Text → Text
or_root [] = 47 ∷ []
or_root (c ∷ cs) = c ∷ cs

unfoldable pub with_query : Text → Text → Text
with_query path [] = path
with_query path (c ∷ cs) = path ++ (63 ∷ c ∷ cs)

-- the target that is written for a place
abbrev pub target_of : Place → Text
target_of p = with_query (or_root (parts_text p.parts)) p.query
