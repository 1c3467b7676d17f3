-- Lengths that are read in other ways: one in canonical form, alone, is what it says.
use Rattle.std.proofs.Common.{◌≡◌, ℕ, ◌+◌, ◌<◌, false, not, T, eqb, ⊎_elim, List, [], ◌∷◌, ◌++◌, length, codes, Some, refl, sym, ap, ◌∙◌, subst, append-nil, arith}
use Rattle.std.proofs.lemmas.Bool.{cases_Bool, eqb-true}
use Rattle.text.specs.Bytes.{Text, same, nonempty, among, capped}
use Rattle.text.specs.Numerals.{number_of, value_after, decimal}
use Rattle.text.specs.declared.numeral.Base.TheVariants.{Decimal}
use Rattle.text.proofs.Passing.{is_false, same_is}
use Rattle.text_laws.specs.Laws.{needless_zero}
use Rattle.text_laws.proofs.Digits.{read_back, exact_numeral}
use Rattle.message.specs.Fields.{Field, canonical_fields, content_length, transfer_encoding}
use Rattle.request.specs.Canonical.{carries_body, body_limit, length_field}
use Rattle.reader.specs.Strict.{values_of}
use Rattle.reader.proofs.Strictly.{not_framing, values_past}
use Rattle.forgiving.specs.Readers.{octal_after, octal, added_after, added, lengths, encodings}

-- beside canonical fields others say what they say alone
pub encodings_past : (fs gs : List Field) → T (canonical_fields fs) → encodings (fs ++ gs) ≡ encodings gs
encodings_past fs gs h = values_past transfer_encoding (λ n d. (not_framing n d).1) fs gs h

pub lengths_past : (fs gs : List Field) → T (canonical_fields fs) → lengths (fs ++ gs) ≡ lengths gs
lengths_past fs gs h = values_past content_length (λ n d. (not_framing n d).0) fs gs h

pub encodings_none : (fs : List Field) → T (canonical_fields fs) → encodings fs ≡ []
unfolding values_of
encodings_none fs h = ap encodings (sym (append-nil fs)) ∙ encodings_past fs [] h

pub lengths_none : (fs : List Field) → T (canonical_fields fs) → lengths fs ≡ []
unfolding values_of
lengths_none fs h = ap lengths (sym (append-nil fs)) ∙ lengths_past fs [] h

pub encodings_given : (fs : List Field) (body : Text) → T (canonical_fields fs) → encodings (fs ++ (length_field body ∷ [])) ≡ []
unfolding values_of same
encodings_given fs body h = encodings_past fs (length_field body ∷ []) h

pub lengths_given : (fs : List Field) (body : Text) → T (canonical_fields fs) → lengths (fs ++ (length_field body ∷ [])) ≡ decimal (length body) ∷ []
unfolding values_of same
lengths_given fs body h = lengths_past fs (length_field body ∷ []) h

pub decimal_read : (n : ℕ) → n < body_limit → number_of Decimal (decimal n) ≡ Some n
decimal_read n h = read_back Decimal n (omega arith)

-- a numeral that begins with no zero is read as ever; and so is a zero, of which a numeral without a needless one has no other
no_octal : (c : ℕ) (t : Text) → eqb c 48 ≡ false → octal (c ∷ t) ≡ number_of Decimal (c ∷ t)
no_octal c t e = rw e refl

zero_octal : (c : ℕ) → c ≡ 48 → octal (c ∷ []) ≡ number_of Decimal (c ∷ [])
unfolding octal_after value_after nonempty
zero_octal c e = ap (λ d. octal (d ∷ [])) e ∙ sym (ap (λ d. number_of Decimal (d ∷ [])) e)

same_octal : (t : Text) → T (not (needless_zero t)) → octal t ≡ number_of Decimal t
unfolding needless_zero
same_octal [] h = refl
same_octal (c ∷ []) h = ⊎_elim (λ e. zero_octal c (eqb-true c 48 e)) (λ e. no_octal c [] e) (cases_Bool (eqb c 48))
same_octal (c ∷ d ∷ t) h = no_octal c (d ∷ t) (is_false (eqb c 48) h)

pub octal_read : (n : ℕ) → n < body_limit → octal (decimal n) ≡ Some n
octal_read n h = same_octal (decimal n) (exact_numeral Decimal n (omega arith)).2 ∙ decimal_read n h

pub added_read : (n : ℕ) → n < body_limit → added (decimal n ∷ []) ≡ Some n
unfolding added_after
added_read n h =
    let small : capped (0 + n) ≡ n = omega arith in
    rw (decimal_read n h, small) refl

-- a method that carries a body is no GET
pub no_get : (m : Text) → T (carries_body m) → same m (codes "GET") ≡ false
unfolding same among
no_get m h = ⊎_elim (λ e. absurd (subst (λ t. T (carries_body t)) (same_is m (codes "GET") e) h)) (λ e. e) (cases_Bool (same m (codes "GET")))
