-- Tokens of a path: how they are read, and what those of parts are in canonical form.
use Rattle.std.proofs.Common.{◌≡◌, ℕ, false, eqb, List, ◌∷◌, ◌++◌, refl, ap, ◌∙◌}
use Rattle.std.proofs.lemmas.Bool.{cond-false}
use Rattle.text.specs.Bytes.{Text, plain_byte}
use Rattle.text.proofs.Passing.{is_true, differs}
use Rattle.request.specs.declared.target.Token.TheVariants.{Byte, Code}
use Rattle.request.specs.Targets.{free, percent, tokens_at, tokens, capital, spelled}
use Rattle.request.specs.Places.{Piece, part_text, parts_text}
use Rattle.request_laws.specs.Targets.{PartSpelled, end, bare, undone, left, PartsSpelled, none, part}
use Rattle.request_laws.proofs.Codes.{high_not_plain}

-- how a byte and a code are read
pub byte_token : (c : ℕ) (t : Text) → eqb c 37 ≡ false → tokens (c ∷ t) ≡ Byte c ∷ tokens t
unfolding tokens_at
byte_token c t e = cond-false (eqb c 37) (tokens_at percent t) (Byte c ∷ tokens_at free t) e

code_token : (a b : ℕ) (t : Text) → tokens (37 ∷ a ∷ b ∷ t) ≡ Code a b ∷ tokens t
unfolding tokens_at
code_token a b t = refl

-- in canonical form a part is what it means
pub part_spelled : (t u : Text) (p : List Piece) → PartSpelled t p → spelled (tokens (t ++ u)) ≡ part_text p ++ spelled (tokens u)
unfolding spelled part_text
part_spelled t u p end = refl
part_spelled t u p (bare {c} {t = r} {ps} h s) = rw (byte_token c (r ++ u) (differs plain_byte 37 c refl h)) (ap (λ w. c ∷ w) (part_spelled r u ps s))
part_spelled t u p (undone {a} {b} v {t = r} {ps} e h s) = rw (code_token a b (r ++ u), e, is_true (plain_byte v) h) (ap (λ w. v ∷ w) (part_spelled r u ps s))
part_spelled t u p (left {a} {b} v {t = r} {ps} e h s) = rw (code_token a b (r ++ u), e, high_not_plain v h) (ap (λ w. 37 ∷ capital a ∷ capital b ∷ w) (part_spelled r u ps s))

pub parts_spelled : (t : Text) (ps : List (List Piece)) → PartsSpelled t ps → spelled (tokens t) ≡ parts_text ps
unfolding spelled tokens_at parts_text
parts_spelled t ps none = refl
parts_spelled t ps (part r u {p} {ps = qs} s g m) = ap (λ w. 47 ∷ w) (part_spelled r u p s ∙ ap (λ w. part_text p ++ w) (parts_spelled u qs m))
