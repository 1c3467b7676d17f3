-- Bytes in digits or in quotes are spelled as the grammar says.
use Rattle.std.proofs.Common.{◌≡◌, ℕ, ◌+◌, ◌*◌, false, not, ◌&&◌, eqb, [], ◌∷◌, ◌++◌, IfOk, Some, None, Ok, codes, Option, refl, ap, ◌∙◌, arith, Bor}
use Rattle.std.specs.Option.{option_map, ok_or}
use Rattle.std.proofs.lemmas.Bool.{cond_both, eqb-true}
use Rattle.std.proofs.lemmas.Bool.Decides.{nat_tests}
use Rattle.text.specs.Bytes.{Text, between}
use Rattle.text.specs.Numerals.{hex_value, hex_pair}
use Rattle.text.proofs.Passing.{is_true, is_false, and_l, and_r}
use Rattle.text.specs.Marks.{rest_after}
use Rattle.script.specs.Payloads as spec
use Rattle.script.specs.Payloads.{moved, put_of, spelled_from, spelled, payload_of}
use Rattle.script.specs.declared.payload.Payload.TheVariants.{Hex, Quoted}
use Rattle.script.specs.declared.problem.Problem.TheVariants as problem
use Rattle.script_laws.specs.Grammar.{Pair, HexWord, last_pair, next_pair, Escape, cr, lf, tab, backslash, quote, QuotedText, closed, plain, escaped, coded, BytesWord, in_digits, in_quotes}
use Rattle.script_laws.proofs.Given.{Gives, gives_mapped, on_digit_so, made_or}
use Rattle.script_laws.proofs.Words.{on_rest_so}

pair_made : (x y : ℕ) → Gives (λ b. Pair b x y) (hex_pair x y)
pair_made x y =
    let P : ℕ → Type 0 = λ b. Pair b x y in
    on_digit_so P (hex_value x) _ (λ h e. on_digit_so P (hex_value y) (λ l. Some (h * 16 + l)) (λ l f. record { high = h; low = l; first = e; second = f; byte = refl }))

pair_read : (b x y : ℕ) → Pair b x y → hex_pair x y ≡ Some b
pair_read b x y p = rw (p.first, p.second, p.byte)

escape_made : (c : ℕ) → Gives (λ b. Escape b c) (spec.escaped c)
escape_made c =
    let P : Option ℕ → Type 0 = Gives (λ b. Escape b c) in
    cond_both (eqb c 114) (Some 13) _ P (λ e. rw (eqb-true c 114 e) cr) (λ _.
    cond_both (eqb c 110) (Some 10) _ P (λ e. rw (eqb-true c 110 e) lf) (λ _.
    cond_both (eqb c 116) (Some 9) _ P (λ e. rw (eqb-true c 116 e) tab) (λ _.
    cond_both (eqb c 92) (Some 92) _ P (λ e. rw (eqb-true c 92 e) backslash) (λ _.
    cond_both (eqb c 34) (Some 34) _ P (λ e. rw (eqb-true c 34 e) quote) (λ _. tt)))))

escape_read : (b l : ℕ) → Escape b l → (eqb l 120 ≡ false) × (spec.escaped l ≡ Some b)
escape_read b l cr = (refl, refl)
escape_read b l lf = (refl, refl)
escape_read b l tab = (refl, refl)
escape_read b l backslash = (refl, refl)
escape_read b l quote = (refl, refl)

-- what a text spells as digits, and as text behind a quote; where the code holds it does not matter
abbrev held : Text → Bor Text
held t = record { ref_ptr = (0, 0); now = t }

abbrev hex : Text → Option Text
hex t = spelled (Hex (held t))

abbrev quoted : Text → Option Text
quoted t = spelled (Quoted (held t))

-- a byte put in front of what is spelled next
put : (P : ℕ → Type 0) (Q R : Text → Type 0) (o : Option ℕ) (next : _) (t : Text) → ((b : ℕ) (bs : Text) → P b → Q bs → R (b ∷ bs)) → Gives P o → Gives Q (spelled_from next t) → Gives R (moved (put_of o next) (λ m. spelled_from m t))
put P Q R None next t f g h = tt
put P Q R (Some b) next t f g h = gives_mapped Q R (λ bs. b ∷ bs) (spelled_from next t) (λ bs k. f b bs g k) h

hex_made : (t : Text) → Gives (λ bs. HexWord bs t) (hex t)
unfolding spelled_from
hex_made [] = tt
hex_made (x ∷ []) = tt
hex_made (x ∷ y ∷ []) = put (λ b. Pair b x y) (λ bs. bs ≡ []) (λ bs. HexWord bs (x ∷ y ∷ [])) (hex_pair x y) _ [] (λ b bs p e. rw e (last_pair p)) (pair_made x y) refl
hex_made (x ∷ y ∷ z ∷ t) = put (λ b. Pair b x y) (λ bs. HexWord bs (z ∷ t)) (λ bs. HexWord bs (x ∷ y ∷ z ∷ t)) (hex_pair x y) _ (z ∷ t) (λ b bs p h. next_pair p h) (pair_made x y) (hex_made (z ∷ t))

hex_read : (bs t : Text) → HexWord bs t → hex t ≡ Some bs
unfolding spelled_from
hex_read bs t (last_pair {b} {x} {y} p) = rw (pair_read b x y p)
hex_read bs t (next_pair {b} {x} {y} p (last_pair q)) = rw (pair_read b x y p) (ap (option_map (λ v. b ∷ v)) (hex_read _ _ (last_pair q)))
hex_read bs t (next_pair {b} {x} {y} p (next_pair q h)) = rw (pair_read b x y p) (ap (option_map (λ v. b ∷ v)) (hex_read _ _ (next_pair q h)))

-- where a text behind a quote may be cut: at a whole byte, in a byte that a backslash begins, and behind the closing quote
data Place : Type 0 where
  whole slash code end : Place
  digit : ℕ → Place

abbrev before : Place → Text
before whole = []
before slash = 92 ∷ []
before code = 92 ∷ 120 ∷ []
before (digit a) = 92 ∷ 120 ∷ a ∷ []
before end = 34 ∷ []

abbrev Quotes : Text → Text → Type 0
Quotes t bs = QuotedText bs t

quoted_made : (p : Place) (t : Text) → Gives (Quotes (before p ++ t)) (quoted (before p ++ t))
unfolding spelled_from
quoted_made whole [] = tt
quoted_made slash [] = tt
quoted_made code [] = tt
quoted_made (digit a) [] = tt
quoted_made end [] = closed
quoted_made whole (c ∷ t) =
    let P : _ → Type 0 = λ v. Gives (Quotes (c ∷ t)) (moved v (λ m. spelled_from m t)) in
    cond_both (eqb c 34) _ _ P (λ e. rw (eqb-true c 34 e) (quoted_made end t)) (λ e.
    cond_both (eqb c 92) _ _ P (λ f. rw (eqb-true c 92 f) (quoted_made slash t)) (λ f.
    cond_both (between 32 126 c) _ _ P (λ g. gives_mapped (Quotes t) (Quotes (c ∷ t)) (λ bs. c ∷ bs) (quoted t) (λ bs h. plain (rw (e, f, g) tt) h) (quoted_made whole t)) (λ _. tt)))
quoted_made slash (c ∷ t) =
    cond_both (eqb c 120) _ _ (λ v. Gives (Quotes (92 ∷ c ∷ t)) (moved v (λ m. spelled_from m t))) (λ e. rw (eqb-true c 120 e) (quoted_made code t))
    (λ _. put (λ b. Escape b c) (Quotes t) (Quotes (92 ∷ c ∷ t)) (spec.escaped c) _ t (λ b bs e h. escaped e h) (escape_made c) (quoted_made whole t))
quoted_made code (c ∷ t) = quoted_made (digit c) t
quoted_made (digit a) (c ∷ t) = put (λ b. Pair b a c) (Quotes t) (Quotes (92 ∷ 120 ∷ a ∷ c ∷ t)) (hex_pair a c) _ t (λ b bs p h. coded p h) (pair_made a c) (quoted_made whole t)
quoted_made end (c ∷ t) = tt

quoted_read : (bs t : Text) → QuotedText bs t → quoted t ≡ Some bs
unfolding spelled_from
quoted_read bs t closed = refl
quoted_read bs t (plain {c} {bs = cs} {t = u} h q) =
    let most = and_l (between 32 126 c && not (eqb c 34)) (not (eqb c 92)) h in
    let no_slash = is_false (eqb c 92) (and_r (between 32 126 c && not (eqb c 34)) (not (eqb c 92)) h) in
    rw (is_false (eqb c 34) (and_r (between 32 126 c) (not (eqb c 34)) most), no_slash, is_true (between 32 126 c) (and_l (between 32 126 c) (not (eqb c 34)) most)) (ap (option_map (λ v. c ∷ v)) (quoted_read cs u q))
quoted_read bs t (escaped {b} {l} {bs = cs} {t = u} e q) = let h = escape_read b l e in rw (h.0, h.1) (ap (option_map (λ v. b ∷ v)) (quoted_read cs u q))
quoted_read bs t (coded {b} {x} {y} {bs = cs} {t = u} p q) = rw (pair_read b x y p) (ap (option_map (λ v. b ∷ v)) (quoted_read cs u q))

pub bytes_made : (t : Text) → IfOk (payload_of t) (λ bs. BytesWord bs t)
bytes_made t =
    on_rest_so (λ bs. BytesWord bs t) (codes "\"") t (λ r. ok_or (quoted r) problem.QuotedText) (ok_or (hex t) problem.Hexadecimal)
    (λ r e. made_or (Quotes r) (λ bs. BytesWord bs t) (quoted r) problem.QuotedText (λ bs h. rw e (in_quotes h)) (quoted_made whole r))
    (made_or (λ bs. HexWord bs t) (λ bs. BytesWord bs t) (hex t) problem.Hexadecimal (λ bs h. in_digits h) (hex_made t))

-- digits do not begin with a quote
not_quote : (b x y : ℕ) → Pair b x y → eqb x 34 ≡ false
not_quote b x y p = let e = p.first in grind (arith, nat_tests)

as_hex : (bs t : Text) → HexWord bs t → payload_of t ≡ ok_or (hex t) problem.Hexadecimal
unfolding rest_after
as_hex bs t (last_pair {b} {x} {y} p) = rw (not_quote b x y p)
as_hex bs t (next_pair {b} {x} {y} p h) = rw (not_quote b x y p)

pub bytes_read : (bs t : Text) → BytesWord bs t → payload_of t ≡ Ok bs
unfolding rest_after
bytes_read bs t (in_digits h) = as_hex bs t h ∙ ap (λ o. ok_or o problem.Hexadecimal) (hex_read bs t h)
bytes_read bs t (in_quotes {t = u} q) = ap (λ o. ok_or o problem.QuotedText) (quoted_read bs u q)
