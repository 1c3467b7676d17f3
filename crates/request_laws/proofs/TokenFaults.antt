-- Every path is good tokens, and then nothing or a text that begins with no token.
use Rattle.std.proofs.Common.{◌≡◌, ℕ, ◌+◌, ◌<◌, true, false, T, eqb, leb, ◌⊎◌, List, [], ◌∷◌, ◌++◌, length, Some, None, sym, refl, ap, ◌∙◌, inl, inr, ⊎_elim, append_assoc, append-nil, arith}
use Rattle.std.proofs.lemmas.List.{length-append}
use Rattle.std.proofs.lemmas.Bool.{le-leb, or_right, cases_Bool, cond-false, eqb-true, or_cases, or_parts, both_ways}
use Rattle.text.specs.Numerals.{hex_pair}
use Rattle.text.specs.Bytes.{Text, plain_byte, nonempty}
use Rattle.text.proofs.Passing.{is_true, differs}
use Rattle.request.specs.Places.{Piece}
use Rattle.request.specs.declared.target.Token.TheVariants.{Byte}
use Rattle.request.specs.Targets.{tokens_at, tokens, good_code, good_token, bad_token}
use Rattle.request_laws.specs.Faults.{TokenSpelled, slash, bare, coded, TokensSpelled, none, token, Tokenless}
use Rattle.request_laws.specs.Targets.{PartSpelled, end, undone, left, PartsSpelled, part, PathSpelled, root, parts}
use Rattle.request_laws.specs.Targets as grammar
use Rattle.request_laws.proofs.Tokens.{byte_token}

-- parts and paths in the grammar are such tokens
part_tokens : (t u : Text) (p : List Piece) → PartSpelled t p → TokensSpelled u → TokensSpelled (t ++ u)
part_tokens t u p end m = m
part_tokens t u p (grammar.bare {c} {t = r} {ps} h s) m = token (c ∷ []) (r ++ u) (bare h) (part_tokens r u ps s m)
part_tokens t u p (undone {a} {b} v {t = r} {ps} e h s) m = token (37 ∷ a ∷ b ∷ []) (r ++ u) (coded (rw (e, is_true (plain_byte v) h) tt)) (part_tokens r u ps s m)
part_tokens t u p (left {a} {b} v {t = r} {ps} e h s) m = token (37 ∷ a ∷ b ∷ []) (r ++ u) (coded (rw (e, or_right (plain_byte v) (leb 128 v) (le-leb 128 v h)) tt)) (part_tokens r u ps s m)

parts_tokens : (t : Text) (ps : List (List Piece)) → PartsSpelled t ps → TokensSpelled t
parts_tokens t ps grammar.none = none
parts_tokens t ps (part r u {p} {ps = qs} s g m) = token (47 ∷ []) (r ++ u) slash (part_tokens r u p s (parts_tokens u qs m))

pub path_tokens : (t : Text) (ps : List (List Piece)) → PathSpelled t ps → TokensSpelled t
path_tokens t ps root = token (47 ∷ []) [] slash none
path_tokens t ps (parts s) = parts_tokens t ps s

-- a good token in front is passed over
token_passed : (at : ℕ) (t u : Text) → TokenSpelled t → bad_token at (tokens (t ++ u)) ≡ bad_token (at + length t) (tokens u)
unfolding bad_token tokens_at
token_passed at t u slash = refl
token_passed at t u (bare {c} h) = rw (differs plain_byte 37 c refl h, is_true (plain_byte c) h) refl
token_passed at t u (coded {a} {b} h) = rw (is_true (good_code (hex_pair a b)) h) refl

pub tokens_passed : (at : ℕ) (t u : Text) → TokensSpelled t → bad_token at (tokens (t ++ u)) ≡ bad_token (at + length t) (tokens u)
tokens_passed at t u none = ap (λ k. bad_token k (tokens u)) (omega arith)
tokens_passed at t u (token r s h m) =
    let n : at + length r + length s ≡ at + length (r ++ s) = simp length-append (omega arith) in
    ap (λ w. bad_token at (tokens w)) (append_assoc r s u) ∙ token_passed at r (s ++ u) h ∙ tokens_passed (at + length r) s u m ∙ ap (λ k. bad_token k (tokens u)) n

pub tokens_good : (at : ℕ) (t : Text) → TokensSpelled t → bad_token at (tokens t) ≡ None
tokens_good at t m = ap (λ w. bad_token at (tokens w)) (sym (append-nil t)) ∙ tokens_passed at t [] m ∙ unfold bad_token tokens_at in refl

-- a text that begins with no token has a bad one at its beginning
no_byte : (at c : ℕ) (t : Text) → eqb c 37 ≡ false → Tokenless (c ∷ t) → bad_token at (tokens (c ∷ t)) ≡ Some at
unfolding bad_token
no_byte at c t e h =
    ⊎_elim (λ g. ⊎_elim (λ p. absurd (h (c ∷ []) t refl (bare (rw p tt)))) (λ s. absurd (h (c ∷ []) t refl (rw (eqb-true c 47 s) slash))) (or_cases (plain_byte c) (eqb c 47) g))
    (λ g. ap (bad_token at) (byte_token c t e) ∙ cond-false (good_token (Byte c)) (bad_token (at + 1) (tokens t)) (Some at) g) (cases_Bool (good_token (Byte c)))

no_code : (at a b : ℕ) (t : Text) → Tokenless (37 ∷ a ∷ b ∷ t) → bad_token at (tokens (37 ∷ a ∷ b ∷ t)) ≡ Some at
unfolding bad_token tokens_at
no_code at a b t h = ⊎_elim (λ g. absurd (h (37 ∷ a ∷ b ∷ []) t refl (coded (rw g tt)))) (λ g. rw g refl) (cases_Bool (good_code (hex_pair a b)))

pub no_token : (at : ℕ) (t : Text) → T (nonempty t) → Tokenless t → bad_token at (tokens t) ≡ Some at
unfolding bad_token tokens_at nonempty
no_token at [] n = absurd n
no_token at (c ∷ []) n = ⊎_elim (λ e h. rw e refl) (λ e. no_byte at c [] e) (cases_Bool (eqb c 37))
no_token at (c ∷ a ∷ []) n = ⊎_elim (λ e h. rw e refl) (λ e. no_byte at c (a ∷ []) e) (cases_Bool (eqb c 37))
no_token at (c ∷ a ∷ b ∷ t) n = ⊎_elim (λ e. rw (eqb-true c 37 e) (no_code at a b t)) (λ e. no_byte at c (a ∷ b ∷ t) e) (cases_Bool (eqb c 37))

-- a path that is not whole tokens
pub record TokenFault (t : Text) : Type 0 where
  pub good : Text
  pub bad : Text
  pub joined : t ≡ good ++ bad
  pub spelled : TokensSpelled good
  pub some : T (nonempty bad)
  pub tokenless : Tokenless bad

abbrev pub Tokened : Text → Type 0
Tokened t = TokensSpelled t ⊎ TokenFault t

token_on : (t u : Text) → TokenSpelled t → Tokened u → Tokened (t ++ u)
token_on t u h (inl m) = inl (token t u h m)
token_on t u h (inr f) = inr record { good = t ++ f.good; bad = f.bad; joined = ap (λ w. t ++ w) f.joined ∙ sym (append_assoc t f.good f.bad); spelled = token t f.good h f.spelled; some = f.some; tokenless = f.tokenless }

stuck : (t : Text) → T (nonempty t) → Tokenless t → Tokened t
stuck t n h = inr record { good = []; bad = t; joined = refl; spelled = none; some = n; tokenless = h }

-- whether a text begins with a token
bad_byte : (c : ℕ) (t : Text) → eqb c 37 ≡ false → good_token (Byte c) ≡ false → Tokenless (c ∷ t)
bad_byte c t e g u v j slash = let is : c ≡ 47 = cc in let z : T (good_token (Byte c)) = rw is tt in absurd (rw g at z)
bad_byte c t e g u v j (bare {c = d} h) = let is : c ≡ d = cc in let z = (or_parts (plain_byte c) (eqb c 47) g).0 in absurd (rw (ap plain_byte (sym is) ∙ z) at h)
bad_byte c t e g u v j (coded h) = let is : c ≡ 37 = cc in absurd (both_ways (eqb c 37) e (rw is refl))

bad_code : (a b : ℕ) (t : Text) → good_code (hex_pair a b) ≡ false → Tokenless (37 ∷ a ∷ b ∷ t)
bad_code a b t g u v j slash = let z : ◌≡◌ {A = ℕ} 37 47 = cc in absurd (omega arith)
bad_code a b t g u v j (bare {c = d} h) = let is : 37 ≡ d = cc in absurd (rw (sym is) at h)
bad_code a b t g u v j (coded {a = x} {b = y} h) = let is : a ≡ x = cc in let so : b ≡ y = cc in absurd (rw (sym is, sym so, g) at h)

-- the sign of a code with too few bytes behind it
half_code : (t : Text) → length t < 2 → Tokenless (37 ∷ t)
half_code t n u v j slash = let z : ◌≡◌ {A = ℕ} 37 47 = cc in absurd (omega arith)
half_code t n u v j (bare {c = d} h) = let is : 37 ≡ d = cc in absurd (rw (sym is) at h)
half_code t n u v j (coded h) = absurd (omega (arith, ap length j))

byte_cut : (c : ℕ) (t : Text) → eqb c 37 ≡ false → Tokened t → Tokened (c ∷ t)
unfolding nonempty
byte_cut c t e r =
    ⊎_elim (λ g. ⊎_elim (λ p. token_on (c ∷ []) t (bare (rw p tt)) r) (λ s. token_on (c ∷ []) t (rw (eqb-true c 47 s) slash) r) (or_cases (plain_byte c) (eqb c 47) g))
    (λ g. stuck (c ∷ t) tt (bad_byte c t e g)) (cases_Bool (good_token (Byte c)))

code_cut : (a b : ℕ) (t : Text) → Tokened t → Tokened (37 ∷ a ∷ b ∷ t)
unfolding nonempty
code_cut a b t r =
    ⊎_elim (λ g. token_on (37 ∷ a ∷ b ∷ []) t (coded (rw g tt)) r) (λ g. stuck (37 ∷ a ∷ b ∷ t) tt (bad_code a b t g)) (cases_Bool (good_code (hex_pair a b)))

half_cut : (c : ℕ) (t : Text) → length t < 2 → eqb c 37 ≡ true → Tokened (c ∷ t)
unfolding nonempty
half_cut c t n e = rw (eqb-true c 37 e) (stuck (37 ∷ t) tt (half_code t n))

pub tokens_cut : (t : Text) → Tokened t
tokens_cut [] = inl none
tokens_cut (c ∷ []) = ⊎_elim (λ e. half_cut c [] (omega arith) e) (λ e. byte_cut c [] e (tokens_cut [])) (cases_Bool (eqb c 37))
tokens_cut (c ∷ a ∷ []) = ⊎_elim (λ e. half_cut c (a ∷ []) (omega arith) e) (λ e. byte_cut c (a ∷ []) e (tokens_cut (a ∷ []))) (cases_Bool (eqb c 37))
tokens_cut (c ∷ a ∷ b ∷ t) = ⊎_elim (λ e. rw (eqb-true c 37 e) (code_cut a b t (tokens_cut t))) (λ e. byte_cut c (a ∷ b ∷ t) e (tokens_cut (a ∷ b ∷ t))) (cases_Bool (eqb c 37))
