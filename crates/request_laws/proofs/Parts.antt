-- Parts of a path: where one ends in a dot, and how its tokens are read.
use Rattle.std.proofs.Common.{◌≡◌, ℕ, suc, ◌-◌, ◌≤◌, Bool, true, false, cond, not, ◌&&◌, ◌||◌, T, eqb, List, [], ◌∷◌, length, drop, Some, codes, sym, refl, ap, ◌∙◌, ap₂, arith}
use Rattle.std.proofs.lemmas.Bool.{ne_eqb}
use Rattle.std.proofs.lemmas.Bool.Decides.{nat_tests}
use Rattle.text.specs.Numerals.{hex_pair}
use Rattle.text.specs.Bytes.{Text, plain_byte, nonempty, same, lowered, same_no_case}
use Rattle.text.proofs.Passing.{is_true, and_i, and_r, differs}
use Rattle.request.specs.Targets.{capital, ends_in_dot, bad_part}
use Rattle.request.specs.Places.{Piece, high_digit, capital_digit, good_pieces, part_text, last_is_dot, good_part}
use Rattle.request_laws.specs.Targets.{PartSpelled, end, bare, undone, left}
use Rattle.request_laws.proofs.Codes.{hex_digit, first_digit, second_digit, capitals, dot_code}

-- whether a text ends in a dot or in the code of one, byte by byte
unfoldable dot_end : Text → Bool
dot_end [] = false
dot_end (a ∷ []) = eqb a 46
dot_end (a ∷ b ∷ []) = eqb b 46
dot_end (a ∷ b ∷ c ∷ []) = eqb c 46 || same_no_case (a ∷ b ∷ c ∷ []) (codes "%2e")
dot_end (a ∷ b ∷ c ∷ d ∷ t) = dot_end (b ∷ c ∷ d ∷ t)

ends_dot : (t : Text) → ends_in_dot t ≡ dot_end t
unfolding dot_end same lowered
ends_dot [] = refl
ends_dot (a ∷ []) = grind (arith, nat_tests)
ends_dot (a ∷ b ∷ []) = grind (arith, nat_tests)
ends_dot (a ∷ b ∷ c ∷ []) = grind (arith, nat_tests)
ends_dot (a ∷ b ∷ c ∷ d ∷ t) =
    let s = b ∷ c ∷ d ∷ t in
    let one : length (a ∷ s) - 1 ≡ suc (length s - 1) = omega arith in
    let three : length (a ∷ s) - 3 ≡ suc (length s - 3) = omega arith in
    ap₂ (λ i j. same (drop i (a ∷ s)) (codes ".") || same_no_case (drop j (a ∷ s)) (codes "%2e")) one three ∙ ends_dot (b ∷ c ∷ d ∷ t)

-- it ends as its rest does, where there is one; a code counts only where it stands whole at the end
end_byte : (c : ℕ) (t : Text) → eqb c 37 ≡ false → dot_end (c ∷ t) ≡ cond (nonempty t) (dot_end t) (eqb c 46)
unfolding dot_end same lowered nonempty
end_byte c [] e = refl
end_byte c (x ∷ []) e = refl
end_byte c (x ∷ y ∷ []) e = grind (arith, nat_tests)
end_byte c (x ∷ y ∷ z ∷ t) e = refl

end_code : (a b v : ℕ) (t : Text) → hex_pair a b ≡ Some v → dot_end (37 ∷ a ∷ b ∷ t) ≡ cond (nonempty t) (dot_end t) (eqb v 46)
unfolding dot_end nonempty
end_code a b v [] e = dot_code a b v e
end_code a b v (c ∷ t) e = end_byte a (b ∷ c ∷ t) (differs hex_digit 37 a refl (first_digit a b v e)) ∙ end_byte b (c ∷ t) (differs hex_digit 37 b refl (second_digit a b v e))

last_byte : (c : ℕ) (t : Text) → last_is_dot (c ∷ t) ≡ cond (nonempty t) (last_is_dot t) (eqb c 46)
unfolding last_is_dot nonempty
last_byte c [] = refl
last_byte c (d ∷ t) = refl

-- the code of a byte above 127 is that of no dot
not_dot : (a b v : ℕ) → hex_pair a b ≡ Some v → 128 ≤ v → eqb v 46 ≡ eqb (capital b) 46
not_dot a b v e h = ne_eqb v 46 (omega arith) ∙ sym (differs capital_digit 46 (capital b) refl (and_r (high_digit (capital a)) (capital_digit (capital b)) (capitals a b v e h)))

-- a part as sent is empty, and ends in a dot, where the part that it means is and does
some_same : (t : Text) (p : List Piece) → PartSpelled t p → nonempty t ≡ nonempty (part_text p)
unfolding nonempty part_text
some_same t p end = refl
some_same t p (bare h s) = refl
some_same t p (undone v e h s) = refl
some_same t p (left v e h s) = refl

end_same : (t : Text) (p : List Piece) → PartSpelled t p → dot_end t ≡ last_is_dot (part_text p)
unfolding part_text dot_end last_is_dot
end_same t p end = refl
end_same t p (bare {c} {t = u} {ps} h s) =
    end_byte c u (differs plain_byte 37 c refl h) ∙ ap₂ (λ n d. cond n d (eqb c 46)) (some_same u ps s) (end_same u ps s) ∙ sym (last_byte c (part_text ps))
end_same t p (undone {a} {b} v {t = u} {ps} e h s) =
    end_code a b v u e ∙ ap₂ (λ n d. cond n d (eqb v 46)) (some_same u ps s) (end_same u ps s) ∙ sym (last_byte v (part_text ps))
end_same t p (left {a} {b} v {t = u} {ps} e h s) =
    end_code a b v u e ∙ ap₂ (λ n d. cond n d (eqb v 46)) (some_same u ps s) (end_same u ps s) ∙ ap (cond (nonempty (part_text ps)) (last_is_dot (part_text ps))) (not_dot a b v e h)
    ∙ sym (last_byte (capital b) (part_text ps))

-- what a part means is made of good pieces
pieces_good : (t : Text) (p : List Piece) → PartSpelled t p → T (good_pieces p)
unfolding good_pieces
pieces_good t p end = tt
pieces_good t p (bare {c} {t = u} {ps} h s) = and_i (plain_byte c) (good_pieces ps) h (pieces_good u ps s)
pieces_good t p (undone v {t = u} {ps} e h s) = and_i (plain_byte v) (good_pieces ps) h (pieces_good u ps s)
pieces_good t p (left {a} {b} v {t = u} {ps} e h s) = and_i (high_digit (capital a) && capital_digit (capital b)) (good_pieces ps) (capitals a b v e h) (pieces_good u ps s)

none_length : (t : Text) → eqb (length t) 0 ≡ not (nonempty t)
unfolding nonempty
none_length [] = refl
none_length (c ∷ t) = ne_eqb (length (c ∷ t)) 0 (λ e. omega arith)

neither : (x y : Bool) → (not x || y) ≡ not (x && not y)
neither true true = refl
neither true false = refl
neither false y = refl

-- so that it is a bad part where that is no good one
pub part_bad : (t : Text) (p : List Piece) → PartSpelled t p → bad_part t ≡ not (good_part p)
part_bad t p s =
    ap₂ (λ x y. x || y) (none_length t ∙ ap not (some_same t p s)) (ends_dot t ∙ end_same t p s) ∙ neither (nonempty (part_text p)) (last_is_dot (part_text p))
    ∙ ap (λ g. not (g && nonempty (part_text p) && not (last_is_dot (part_text p)))) (sym (is_true (good_pieces p) (pieces_good t p s)))
