-- Paths: what is found of one that is in the grammar, part by part.
use Rattle.std.proofs.Common.{◌≡◌, ℕ, ◌+◌, false, not, ◌&&◌, T, leb, List, [], ◌∷◌, ◌++◌, length, Some, None, refl, ap, ◌∙◌, append-nil}
use Rattle.std.proofs.lemmas.Bool.{cond_both}
use Rattle.text.specs.Numerals.{hex_pair}
use Rattle.text.specs.Bytes.{Text, all}
use Rattle.text.specs.Marks.{split}
use Rattle.text.proofs.Passing.{is_true, and_i, and_l, and_r, differs, all_weaker, all_append}
use Rattle.text.proofs.Marking.{split_cut, pieced, cut_at_so}
use Rattle.request.specs.Canonical.{begins_with_slash}
use Rattle.request.specs.Targets.{tokens_at, bad_part, bad_part_in, bad_part_of, undone_path, spelled}
use Rattle.request.specs.Places.{Piece, good_part, or_root, parts_text}
use Rattle.request_laws.specs.Targets.{PartSpelled, end, bare, undone, left, PartsSpelled, none, part, PathSpelled, root, parts}
use Rattle.request_laws.proofs.Codes.{part_byte, plain_part, hex_part, path_byte, part_path, first_digit, second_digit}
use Rattle.request_laws.proofs.Parts.{part_bad}
use Rattle.request_laws.proofs.Tokens.{parts_spelled}

-- the bytes of a part, and of parts
code_bytes : (a b v : ℕ) (t : Text) → hex_pair a b ≡ Some v → T (all part_byte t) → T (all part_byte (37 ∷ a ∷ b ∷ t))
unfolding all
code_bytes a b v t e h = and_i (part_byte a) (part_byte b && all part_byte t) (hex_part a (first_digit a b v e)) (and_i (part_byte b) (all part_byte t) (hex_part b (second_digit a b v e)) h)

pub part_bytes : (t : Text) (p : List Piece) → PartSpelled t p → T (all part_byte t)
unfolding all
part_bytes t p end = tt
part_bytes t p (bare {c} {t = u} {ps} h s) = and_i (part_byte c) (all part_byte u) (plain_part c h) (part_bytes u ps s)
part_bytes t p (undone {a} {b} v {t = u} {ps} e h s) = code_bytes a b v u e (part_bytes u ps s)
part_bytes t p (left {a} {b} v {t = u} {ps} e h s) = code_bytes a b v u e (part_bytes u ps s)

parts_bytes : (t : Text) (ps : List (List Piece)) → PartsSpelled t ps → T (all path_byte t)
unfolding all
parts_bytes t ps none = tt
parts_bytes t ps (part r u {p} {ps = qs} s g m) = all_append path_byte r u (all_weaker part_byte path_byte part_path r (part_bytes r p s)) (parts_bytes u qs m)

-- a path has no question mark, and no byte that is not visible
pub path_bytes : (t : Text) (ps : List (List Piece)) → PathSpelled t ps → T (all path_byte t)
unfolding all
path_bytes t ps root = tt
path_bytes t ps (parts s) = parts_bytes t ps s

-- the first part of a text that is cut at slashes, and the others
pub split_one : (t : Text) → T (all part_byte t) → split 47 t ≡ t ∷ []
unfolding all split
split_one [] h = refl
split_one (c ∷ t) h = rw (differs part_byte 47 c refl (and_l (part_byte c) (all part_byte t) h), split_one t (and_r (part_byte c) (all part_byte t) h))

pub split_more : (t u : Text) → T (all part_byte t) → split 47 (t ++ (47 ∷ u)) ≡ t ∷ split 47 u
split_more t u h = split_cut 47 (t ++ (47 ∷ u)) ∙ ap (pieced 47 (t ++ (47 ∷ u))) (cut_at_so 47 part_byte refl t u h)

-- good parts are no bad ones
pub fine_part : (t : Text) (p : List Piece) → PartSpelled t p → T (good_part p) → bad_part t ≡ false
fine_part t p s g = part_bad t p s ∙ ap not (is_true (good_part p) g)

none_bad : (at : ℕ) (t u : Text) (p : List Piece) (ps : List (List Piece)) → PartSpelled t p → T (good_part p) → PartsSpelled u ps → bad_part_in at (split 47 (t ++ u)) ≡ None
unfolding bad_part_in
none_bad at t u p ps s g none = rw (append-nil t, split_one t (part_bytes t p s), fine_part t p s g) refl
none_bad at t u p ps s g (part r w {p = q} {ps = qs} s' g' m) = rw (split_more t (r ++ w) (part_bytes t p s), fine_part t p s g) (none_bad (at + (length t + 1)) r w q qs s' g' m)

-- so nothing is wrong with the parts of a path in the grammar, and in canonical form it is the parts that it means
pub path_fine : (t : Text) (ps : List (List Piece)) → PathSpelled t ps → bad_part_of t ≡ None
path_fine t ps root = refl
path_fine t ps (parts (part r u {p} {ps = qs} s g m)) =
    cond_both (leb (length (47 ∷ (r ++ u))) 1) None (bad_part_in 1 (split 47 (r ++ u))) (λ o. o ≡ None) (λ _. refl) (λ _. none_bad 1 r u p qs s g m)

pub path_undone : (t : Text) (ps : List (List Piece)) → PathSpelled t ps → undone_path t ≡ or_root (parts_text ps)
unfolding or_root
path_undone t ps root = unfold spelled tokens_at parts_text in refl
path_undone t ps (parts s) = unfold parts_text in parts_spelled t ps s

pub path_slash : (t : Text) (ps : List (List Piece)) → PathSpelled t ps → T (begins_with_slash t)
unfolding begins_with_slash
path_slash t ps root = tt
path_slash t ps (parts (part r u s g m)) = tt
