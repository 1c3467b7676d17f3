-- The bytes that a good part stands for: its codes undone once; undoing it again changes nothing, since no `%` is left.
use Rattle.std.proofs.Common.{◌≡◌, ℕ, ◌<◌, Bool, true, false, not, ◌&&◌, ◌||◌, T, eqb, ltb, leb, List, [], ◌∷◌, ◌++◌, refl, sym, ap, ◌∙◌, arith, append-nil}
use Rattle.std.specs.List.{list_any}
use Rattle.std.proofs.lemmas.Bool.{le-leb, lt-ltb}
use Rattle.text.specs.Bytes.{Text, plain_byte, all, nonempty}
use Rattle.text.proofs.Passing.{and_i, and_l, and_r, differs, all_weaker}
use Rattle.request.specs.Places.{Piece, Plain, Coded, good_pieces, part_text, good_part, good_parts, parts_text, is_plain, last_is_dot, high_digit, capital_digit, or_root}
use Rattle.request_laws.proofs.Codes.{kept}
use Rattle.rules_laws.specs.Views.{foreign}
use Rattle.rules_laws.specs.Laws.{after_slashes}
use Rattle.rules_laws.proofs.Slashes.{not_slash, Apart}
use Rattle.forgiving.specs.Views.{undone, undone_twice}

-- a byte of a part with its codes undone: plain, or above 127
abbrev pub shown_byte : ℕ → Bool
shown_byte c = plain_byte c || leb 128 c

-- pieces, and the bytes that they stand for
pub record Stands (p : List Piece) : Type 0 where
  pub bytes : Text
  pub good : T (all shown_byte bytes)
  pub some : T (nonempty (part_text p)) → T (nonempty bytes)
  pub once : (rest : Text) → undone (part_text p ++ rest) ≡ bytes ++ undone rest
  pub plain : T (is_plain p) → bytes ≡ part_text p
  pub coded : T (not (is_plain p)) → T (list_any foreign bytes)

-- any byte but % is left as it is
undone_byte : (c : ℕ) (t : Text) → eqb c 37 ≡ false → undone (c ∷ t) ≡ c ∷ undone t
unfolding undone
undone_byte c [] h = refl
undone_byte c (a ∷ []) h = refl
undone_byte c (a ∷ e ∷ t) h = rw h refl

-- such bytes have no code
pub left : (t : Text) → T (all shown_byte t) → (rest : Text) → undone (t ++ rest) ≡ t ++ undone rest
unfolding all
left [] h rest = refl
left (c ∷ t) h rest =
    undone_byte c (t ++ rest) (differs shown_byte 37 c refl (and_l (shown_byte c) (all shown_byte t) h))
    ∙ ap (λ u. c ∷ u) (left t (and_r (shown_byte c) (all shown_byte t) h) rest)

either_l : (a b : Bool) → T a → T (a || b)
either_l true b h = tt
either_l false b h = absurd h

either_r : (a b : Bool) → T b → T (a || b)
either_r true b h = tt
either_r false b h = h

pub stands : (p : List Piece) → T (good_pieces p) → Stands p
unfolding good_pieces part_text is_plain all nonempty undone
stands [] h = record { bytes = []; good = tt; some = λ n. n; once = λ rest. refl; plain = λ _. refl; coded = λ c. absurd c }
stands (Plain c ∷ p) h =
    let s = stands p (and_r (plain_byte c) (good_pieces p) h) in
    let own : T (plain_byte c) = and_l (plain_byte c) (good_pieces p) h in
    record {
      bytes = c ∷ s.bytes;
      good = and_i (shown_byte c) (all shown_byte s.bytes) (either_l (plain_byte c) (leb 128 c) own) s.good;
      some = λ _. tt;
      once = λ rest. undone_byte c (part_text p ++ rest) (differs plain_byte 37 c refl own) ∙ ap (λ u. c ∷ u) (s.once rest);
      plain = λ n. ap (λ u. c ∷ u) (s.plain n);
      coded = λ n. either_r (foreign c) (list_any foreign s.bytes) (s.coded n);
    }
stands (Coded a e ∷ p) h =
    let s = stands p (and_r (high_digit a && capital_digit e) (good_pieces p) h) in
    let k = kept a e (and_l (high_digit a && capital_digit e) (good_pieces p) h) in
    let above : 126 < k.value = omega (arith, k.high) in
    record {
      bytes = k.value ∷ s.bytes;
      good = and_i (shown_byte k.value) (all shown_byte s.bytes) (either_r (plain_byte k.value) (leb 128 k.value) (rw (le-leb 128 k.value k.high) tt)) s.good;
      some = λ _. tt;
      once = λ rest. rw k.read (ap (λ u. k.value ∷ u) (s.once rest));
      plain = λ n. absurd n;
      coded = λ _. either_l (foreign k.value) (list_any foreign s.bytes) (either_l (ltb 126 k.value) (eqb k.value 37) (rw (lt-ltb 126 k.value above) tt));
    }

-- the texts that parts stand for
pub pieces_of : (p : List Piece) → T (good_part p) → T (good_pieces p)
pieces_of p h = and_l (good_pieces p) (nonempty (part_text p)) (and_l (good_pieces p && nonempty (part_text p)) (not (last_is_dot (part_text p))) h)

pub twice : (p : List Piece) (h : T (good_pieces p)) → undone_twice (part_text p) ≡ (stands p h).bytes
unfolding undone
twice p h =
    let s = stands p h in
    let once : undone (part_text p) ≡ s.bytes = ap undone (sym (append-nil (part_text p))) ∙ s.once [] ∙ append-nil s.bytes in
    ap undone once ∙ ap undone (sym (append-nil s.bytes)) ∙ left s.bytes s.good [] ∙ append-nil s.bytes

unfoldable pub texts : (ps : List (List Piece)) → T (good_parts ps) → List Text
unfolding good_parts
texts [] h = []
texts (p ∷ ps) h = (stands p (pieces_of p (and_l (good_part p) (good_parts ps) h))).bytes ∷ texts ps (and_r (good_part p) (good_parts ps) h)

pub texts_apart : (ps : List (List Piece)) (h : T (good_parts ps)) → Apart (texts ps h)
unfolding good_parts texts
texts_apart [] h = tt
texts_apart (p ∷ ps) h =
    let one = and_l (good_part p) (good_parts ps) h in
    let s = stands p (pieces_of p one) in
    let some : T (nonempty (part_text p)) = and_r (good_pieces p) (nonempty (part_text p)) (and_l (good_pieces p && nonempty (part_text p)) (not (last_is_dot (part_text p))) one) in
    ((s.some some, all_weaker shown_byte not_slash (λ c k. rw (differs shown_byte 47 c refl k) tt) s.bytes s.good), texts_apart ps (and_r (good_part p) (good_parts ps) h))

path_once : (ps : List (List Piece)) (h : T (good_parts ps)) → undone (parts_text ps) ≡ after_slashes (texts ps h)
unfolding good_parts parts_text after_slashes texts undone
path_once [] h = refl
path_once (p ∷ ps) h =
    let s = stands p (pieces_of p (and_l (good_part p) (good_parts ps) h)) in
    undone_byte 47 (part_text p ++ parts_text ps) refl ∙ ap (λ u. 47 ∷ u) (s.once (parts_text ps) ∙ ap (λ u. s.bytes ++ u) (path_once ps (and_r (good_part p) (good_parts ps) h)))

path_again : (ps : List (List Piece)) (h : T (good_parts ps)) → undone (after_slashes (texts ps h)) ≡ after_slashes (texts ps h)
unfolding good_parts after_slashes texts undone
path_again [] h = refl
path_again (p ∷ ps) h =
    let s = stands p (pieces_of p (and_l (good_part p) (good_parts ps) h)) in
    let more = after_slashes (texts ps (and_r (good_part p) (good_parts ps) h)) in
    undone_byte 47 (s.bytes ++ more) refl ∙ ap (λ u. 47 ∷ u) (left s.bytes s.good more ∙ ap (λ u. s.bytes ++ u) (path_again ps (and_r (good_part p) (good_parts ps) h)))

-- a path of good parts with its codes undone twice
pub path_twice : (ps : List (List Piece)) (h : T (good_parts ps)) → undone_twice (or_root (parts_text ps)) ≡ or_root (after_slashes (texts ps h))
unfolding or_root parts_text after_slashes texts undone
path_twice [] h = refl
path_twice (p ∷ ps) h = ap undone (path_once (p ∷ ps) h) ∙ path_again (p ∷ ps) h
