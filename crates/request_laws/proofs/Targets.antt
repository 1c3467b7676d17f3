-- Targets in the grammar pass the tests, mean the places that it says, and are written for good places.
use Rattle.std.proofs.Common.{◌≡◌, ℕ, ◌+◌, ◌≤◌, Bool, not, ◌&&◌, T, eqb, ltb, List, [], ◌∷◌, ◌++◌, length, drop, Some, None, Ok, sym, refl, ap, ◌∙◌, subst, append-nil, arith}
use Rattle.std.specs.List.{prefix_len}
use Rattle.std.proofs.lemmas.List.{take_at, drop_at, drop-drop}
use Rattle.std.proofs.lemmas.Bool.{cond-false, le-ltb}
use Rattle.text.specs.Bytes.{Text, plain_byte, query_byte, visible, all, nonempty, clean}
use Rattle.text.specs.Marks.{before}
use Rattle.text.proofs.Passing.{and_i, and_l, and_r, differs, all_weaker, all_append, clean_by}
use Rattle.text_laws.proofs.Fronts.{stops, leading_at}
use Rattle.request.specs.Canonical.{begins_with_slash, canonical_target}
use Rattle.request.specs.Targets.{path_of, query_of, capital, bad_query, check_target, marked, undone}
use Rattle.request.specs.Places.{Piece, Plain, Coded, last_is_dot, good_piece, good_pieces, good_part, good_parts, part_text, parts_text, or_root, with_query, Place, good_place, target_of}
use Rattle.request_laws.specs.Targets as grammar
use Rattle.request_laws.specs.Targets.{PartSpelled, PartsSpelled, PathSpelled, TargetSpelled}
use Rattle.request_laws.specs.TargetLaws.{TargetsMean, PlacesAgain}
use Rattle.request_laws.proofs.Codes.{path_byte, path_visible, Kept, kept}
use Rattle.request_laws.proofs.Paths.{path_fine, path_undone, path_slash, path_bytes}
use Rattle.request_laws.proofs.TokenFaults.{tokens_good, path_tokens}

-- no question mark
abbrev pub not_mark : ℕ → Bool
not_mark c = not (eqb c 63)

-- a path up to the first question mark, and the query behind it
pub cut_mark : (f r : Text) → T (all not_mark f) → T (stops not_mark r) → (path_of (f ++ r) ≡ f) × (query_of (f ++ r) ≡ drop 1 r)
cut_mark f r g h =
    let n = leading_at not_mark f r g h in
    (take_at f r (before 63 (f ++ r)) (sym n), ap (λ k. drop (k + 1) (f ++ r)) n ∙ sym (drop-drop 1 (length f) (f ++ r)) ∙ ap (drop 1) (drop_at f r (length f) refl))

cut_none : (f : Text) → T (all not_mark f) → (path_of f ≡ f) × (query_of f ≡ [])
cut_none f g = subst (λ t. (path_of t ≡ f) × (query_of t ≡ [])) (append-nil f) (cut_mark f [] g tt)

path_close : (t : Text) (ps : List (List Piece)) → PathSpelled t ps → T (all not_mark t)
path_close t ps s = all_weaker path_byte not_mark (λ c h. rw (differs path_byte 63 c refl h) tt) t (path_bytes t ps s)

-- a query whose bytes all pass
query_good : (q : Text) → T (all query_byte q) → bad_query q ≡ None
query_good q h =
    let n : prefix_len query_byte q ≡ length q = subst (λ t. prefix_len query_byte t ≡ length q) (append-nil q) (leading_at query_byte q [] h tt) in
    let not-less : length q ≤ prefix_len query_byte q = omega arith in
    cond-false (ltb (prefix_len query_byte q) (length q)) (Some (prefix_len query_byte q)) None (le-ltb (prefix_len query_byte q) (length q) not-less)

-- a path in front of a target that begins with a slash begins with one
pub slash_front : (f r : Text) → T (stops not_mark r) → T (begins_with_slash (f ++ r)) → T (begins_with_slash f)
unfolding begins_with_slash
slash_front [] [] h b = b
slash_front [] (c ∷ r) h b = absurd (rw (differs (λ x. eqb x 47) 63 c refl b) at h)
slash_front (c ∷ f) r h b = b

-- a target with a place is checked, and in canonical form it is what is written for that place
with_marked : (f q : Text) → f ++ marked q ≡ with_query f q
unfolding with_query
with_marked f [] = append-nil f
with_marked f (c ∷ q) = refl

checks : (t f q : Text) (ps : List (List Piece)) → path_of t ≡ f → query_of t ≡ q → PathSpelled f ps → T (all query_byte q) → (check_target t ≡ Ok tt) × (undone t ≡ with_query (or_root (parts_text ps)) q)
checks t f q ps a b s h = (
  rw (a, b, tokens_good 0 f (path_tokens f ps s), path_fine f ps s, query_good q h) refl,
  rw (a, b, path_undone f ps s) (with_marked (or_root (parts_text ps)) q),
)

pub target_checks : (t : Text) (p : Place) → TargetSpelled t p → (check_target t ≡ Ok tt) × (undone t ≡ target_of p)
target_checks t p (grammar.path {ps} s) = let c = cut_none t (path_close t ps s) in checks t t [] ps c.0 c.1 s (unfold all in tt)
target_checks t p (grammar.query f q {ps} s h) = let c = cut_mark f (63 ∷ q) (path_close f ps s) tt in checks (f ++ (63 ∷ q)) f q ps c.0 c.1 s h

-- such a target means a good place, and all its bytes are visible
parts_good : (t : Text) (ps : List (List Piece)) → PartsSpelled t ps → T (good_parts ps)
unfolding good_parts
parts_good t ps grammar.none = tt
parts_good t ps (grammar.part r u {p} {ps = qs} s g m) = and_i (good_part p) (good_parts qs) g (parts_good u qs m)

path_place : (t : Text) (ps : List (List Piece)) → PathSpelled t ps → T (good_parts ps)
path_place t ps grammar.root = unfold good_parts in tt
path_place t ps (grammar.parts s) = parts_good t ps s

path_seen : (t : Text) (ps : List (List Piece)) → PathSpelled t ps → T (all visible t)
path_seen t ps s = all_weaker path_byte visible path_visible t (path_bytes t ps s)

target_seen : (t : Text) (p : Place) → TargetSpelled t p → T (all visible t)
unfolding all
target_seen t p (grammar.path {ps} s) = path_seen t ps s
target_seen t p (grammar.query f q {ps} s h) = all_append visible f (63 ∷ q) (path_seen f ps s) (all_weaker query_byte visible (λ c k. and_l (visible c) (not (eqb c 35)) k) q h)

slash_on : (f r : Text) → T (begins_with_slash f) → T (begins_with_slash (f ++ r))
unfolding begins_with_slash
slash_on [] r b = absurd b
slash_on (c ∷ f) r b = b

target_slash : (t : Text) (p : Place) → TargetSpelled t p → T (begins_with_slash t)
target_slash t p (grammar.path {ps} s) = path_slash t ps s
target_slash t p (grammar.query f q {ps} s h) = slash_on f (63 ∷ q) (path_slash f ps s)

target_place : (t : Text) (p : Place) → TargetSpelled t p → T (good_place p)
target_place t p (grammar.path {ps} s) = and_i (good_parts ps) (all query_byte []) (path_place t ps s) (unfold all in tt)
target_place t p (grammar.query f q {ps} s h) = and_i (good_parts ps) (all query_byte q) (path_place f ps s) h

pub target_good : (t : Text) (p : Place) → TargetSpelled t p → T (good_place p) × T (begins_with_slash t) × T (all (λ c. not (eqb c 32)) t) × T (clean t)
target_good t p s =
    let v = target_seen t p s in
    (target_place t p s, target_slash t p s, all_weaker visible (λ c. not (eqb c 32)) (λ c h. rw (differs visible 32 c refl h) tt) t v, clean_by visible refl refl t v)

-- what is written for a good place means that place
code_again : (a b : ℕ) (t : Text) (ps : List Piece) → Kept a b → PartSpelled t ps → PartSpelled (37 ∷ a ∷ b ∷ t) (Coded a b ∷ ps)
code_again a b t ps k s =
    subst (λ x. PartSpelled (37 ∷ a ∷ b ∷ t) (Coded x b ∷ ps)) k.first
    (subst (λ y. PartSpelled (37 ∷ a ∷ b ∷ t) (Coded (capital a) y ∷ ps)) k.second (grammar.left k.value k.read k.high s))

part_again : (p : List Piece) → T (good_pieces p) → PartSpelled (part_text p) p
unfolding good_pieces part_text
part_again [] h = grammar.end
part_again (Plain c ∷ ps) h = grammar.bare (and_l (plain_byte c) (good_pieces ps) h) (part_again ps (and_r (plain_byte c) (good_pieces ps) h))
part_again (Coded a b ∷ ps) h = let g = good_piece (Coded a b) in code_again a b (part_text ps) ps (kept a b (and_l g (good_pieces ps) h)) (part_again ps (and_r g (good_pieces ps) h))

parts_again : (ps : List (List Piece)) → T (good_parts ps) → PartsSpelled (parts_text ps) ps
unfolding good_parts parts_text
parts_again [] h = grammar.none
parts_again (p ∷ ps) h =
    let g = and_l (good_part p) (good_parts ps) h in
    grammar.part (part_text p) (parts_text ps) (part_again p (and_l (good_pieces p) (nonempty (part_text p)) (and_l (good_pieces p && nonempty (part_text p)) (not (last_is_dot (part_text p))) g))) g (parts_again ps (and_r (good_part p) (good_parts ps) h))

path_again : (ps : List (List Piece)) → T (good_parts ps) → PathSpelled (or_root (parts_text ps)) ps
unfolding or_root parts_text
path_again [] h = grammar.root
path_again (p ∷ ps) h = grammar.parts (parts_again (p ∷ ps) h)

target_again : (ps : List (List Piece)) (q : Text) → T (good_parts ps) → T (all query_byte q) → TargetSpelled (with_query (or_root (parts_text ps)) q) (record { parts = ps; query = q })
unfolding with_query
target_again ps [] g h = grammar.path (path_again ps g)
target_again ps (c ∷ q) g h = grammar.query (or_root (parts_text ps)) (c ∷ q) (path_again ps g) h

pub place_spelled : (p : Place) → T (good_place p) → TargetSpelled (target_of p) p
place_spelled p h = target_again p.parts p.query (and_l (good_parts p.parts) (all query_byte p.query) h) (and_r (good_parts p.parts) (all query_byte p.query) h)

pub place_visible : (p : Place) → T (good_place p) → T (canonical_target (target_of p))
place_visible p h =
    let s = place_spelled p h in
    and_i (begins_with_slash (target_of p)) (all visible (target_of p)) (target_slash (target_of p) p s) (target_seen (target_of p) p s)

-- the laws
pub targets_mean : TargetsMean
targets_mean t p s = (target_checks t p s).1

pub places_again : PlacesAgain
places_again = place_spelled
