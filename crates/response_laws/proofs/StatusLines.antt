-- The first line of a response is read as the grammar says, and it has no CR and no LF.
use Rattle.std.proofs.Common.{◌≡◌, ℕ, ◌+◌, ◌*◌, ◌≤◌, Bool, true, ◌&&◌, T, eqb, leb, [], ◌∷◌, ◌++◌, length, take, drop, Some, None, codes, Option, sym, refl, ap, ◌∙◌, ap₂, subst, arith}
use Rattle.std.specs.List.{list_all}
use Rattle.std.proofs.lemmas.Bool.{cond_both, cond-true, eq-eqb, eqb-true, le-leb, leb-true}
use Rattle.std.proofs.lemmas.List.{length-append, length-take-le, take_at, drop_at, take-append-drop}
use Rattle.std.proofs.lemmas.Bool.Decides.{nat_tests}
use Rattle.text.specs.Bytes.{Text, between, all, clean, nonempty}
use Rattle.text.specs.Marks.{rest_after}
use Rattle.text.specs.Numerals.{radix, most_digits, digit_value, on_digit, value_after, number_of}
use Rattle.text.specs.declared.numeral.Base.TheVariants.{Decimal}
use Rattle.text.proofs.Passing.{is_true, and_i, and_l, and_r, so, not_end, all_append, clean_by}
use Rattle.response.specs.Status.{phrase_byte, on_phrase, on_code, on_version, status_of}
use Rattle.response.specs.declared.status.Status.{Status}
use Rattle.response_laws.specs.Grammar.{StatusSpelled}
use Rattle.response_laws.specs.StatusLaws.{StatusRead}

-- what follows a word that a text begins with
rest_of : (w t r : Text) → rest_after w t ≡ Some r → t ≡ w ++ r
unfolding rest_after
rest_of [] t r e = cc
rest_of (w ∷ ws) [] r e = cc
rest_of (w ∷ ws) (c ∷ t) r e =
    cond_both (eqb c w) (rest_after ws t) None (λ o. o ≡ Some r → c ∷ t ≡ w ∷ (ws ++ r)) (λ f g. ap₂ (λ d ds. d ∷ ds) (eqb-true c w f) (rest_of ws t r g))
    (λ f g. cc) e

rest_behind : (w r : Text) → rest_after w (w ++ r) ≡ Some r
unfolding rest_after
rest_behind [] r = refl
rest_behind (c ∷ w) r = rw (eq-eqb c c refl) (rest_behind w r)

-- what the part of a line behind the code says where it goes well
abbrev PhraseIs : ℕ → Option Text → Status → Type 0
PhraseIs n o s = (phrase : Text) × (o ≡ Some phrase) × T (between 100 599 n) × T (list_all phrase_byte phrase) × (n ≡ s.code)

phrase_read : (n : ℕ) (o : Option Text) (s : Status) → on_phrase n o ≡ Some s → PhraseIs n o s
phrase_read n None s e = cc
phrase_read n (Some phrase) s e =
    let ranged = between 100 599 n in
    let good = list_all phrase_byte phrase in
    cond_both (ranged && good) (Some record { code = n }) None (λ r. r ≡ Some s → PhraseIs n (Some phrase) s)
    (λ b g. let h : T (ranged && good) = rw b tt in (phrase, refl, and_l ranged good h, and_r ranged good h, cc))
    (λ b g. cc) e

-- and what the part behind the version says
abbrev CodeIs : Option ℕ → Text → Status → Type 0
CodeIs o rest s = (n : ℕ) × (o ≡ Some n) × PhraseIs n (rest_after (codes " ") rest) s

code_read : (o : Option ℕ) (rest : Text) (s : Status) → on_code o rest ≡ Some s → CodeIs o rest s
code_read None rest s e = cc
code_read (Some n) rest s e = (n, refl, phrase_read n (rest_after (codes " ") rest) s e)

behind_read : (l rest : Text) (s : Status) → l ≡ codes "HTTP/1.1 " ++ rest → on_version (Some rest) ≡ Some s → StatusSpelled l s
behind_read l rest s text e =
    let digits = take 3 rest in
    cond_both (leb 3 (length rest)) (on_code (number_of Decimal digits) (drop 3 rest)) None (λ r. r ≡ Some s → StatusSpelled l s)
    (λ long g.
    let c = code_read (number_of Decimal digits) (drop 3 rest) s g in
    let p = c.2 in
    let behind : drop 3 rest ≡ 32 ∷ p.0 = rest_of (codes " ") (drop 3 rest) p.0 p.1 in
    record {
      digits = digits;
      phrase = p.0;
      three = length-take-le 3 rest (leb-true 3 (length rest) long);
      worth = c.1 ∙ ap Some p.4;
      ranged = subst (λ n. T (between 100 599 n)) p.4 p.2;
      good = p.3;
      text = text ∙ ap (λ u. codes "HTTP/1.1 " ++ u) (sym (take-append-drop 3 rest) ∙ ap (λ u. digits ++ u) behind);
    })
    (λ short g. cc) e

version_read : (l : Text) (o : Option Text) (s : Status) → rest_after (codes "HTTP/1.1 ") l ≡ o → on_version o ≡ Some s → StatusSpelled l s
version_read l None s f e = cc
version_read l (Some rest) s f e = behind_read l rest s (rest_of (codes "HTTP/1.1 ") l rest f) e

-- a line that is spelled so says its status
behind_spelled : (l : Text) (s : Status) (g : StatusSpelled l s) → on_version (Some (g.digits ++ (32 ∷ g.phrase))) ≡ Some s
behind_spelled l s g =
    let rest = g.digits ++ (32 ∷ g.phrase) in
    let long : 3 ≤ length rest = rw (length-append g.digits (32 ∷ g.phrase)) (omega (arith, g.three)) in
    let good : T (between 100 599 s.code && list_all phrase_byte g.phrase) = and_i (between 100 599 s.code) (list_all phrase_byte g.phrase) g.ranged g.good in
    cond-true (leb 3 (length rest)) (on_code (number_of Decimal (take 3 rest)) (drop 3 rest)) None (le-leb 3 (length rest) long)
    ∙ ap₂ (λ t u. on_code (number_of Decimal t) u) (take_at g.digits (32 ∷ g.phrase) 3 g.three) (drop_at g.digits (32 ∷ g.phrase) 3 g.three)
    ∙ ap (λ o. on_code o (32 ∷ g.phrase)) g.worth ∙ ap (on_phrase s.code) (rest_behind (codes " ") g.phrase)
    ∙ cond-true (between 100 599 s.code && list_all phrase_byte g.phrase) (Some record { code = s.code }) None (is_true _ good)

status_spelled : (l : Text) (s : Status) → StatusSpelled l s → status_of l ≡ Some s
status_spelled l s g =
    let rest = g.digits ++ (32 ∷ g.phrase) in
    ap on_version (ap (rest_after (codes "HTTP/1.1 ")) g.text ∙ rest_behind (codes "HTTP/1.1 ") rest) ∙ behind_spelled l s g

pub status_read : StatusRead
status_read l s = (version_read l (rest_after (codes "HTTP/1.1 ") l) s refl, status_spelled l s)

-- digits are no CR and no LF
digit_clean : (c d : ℕ) → digit_value Decimal c ≡ Some d → T (not_end c)
digit_clean c d e = so true (not_end c) (λ _. grind (arith, nat_tests)) tt

digit_on : (c : ℕ) (t : Text) (n v : ℕ) (o : Option ℕ) → digit_value Decimal c ≡ o → ((m : ℕ) → value_after Decimal m t ≡ Some v → T (clean t)) →
    on_digit o (λ d. value_after Decimal (n * radix Decimal + d) t) ≡ Some v → T (clean (c ∷ t))
unfolding all
digit_on c t n v None f go e = cc
digit_on c t n v (Some d) f go e = and_i (not_end c) (clean t) (digit_clean c d f) (go (n * radix Decimal + d) e)

digits_clean : (t : Text) (n v : ℕ) → value_after Decimal n t ≡ Some v → T (clean t)
unfolding value_after all
digits_clean [] n v e = tt
digits_clean (c ∷ t) n v e = digit_on c t n v (digit_value Decimal c) refl (λ m f. digits_clean t m v f) e

number_clean : (t : Text) (v : ℕ) → number_of Decimal t ≡ Some v → T (clean t)
number_clean t v =
    cond_both (nonempty t && leb (length t) (most_digits Decimal)) (value_after Decimal 0 t) None (λ o. o ≡ Some v → T (clean t)) (λ _ e. digits_clean t 0 v e) (λ _ e. cc)

-- nor are the bytes of a phrase
all_of : (p : ℕ → Bool) (t : Text) → T (list_all p t) → T (all p t)
unfolding all
all_of p [] h = tt
all_of p (c ∷ t) h = and_i (p c) (all p t) (and_l (p c) (list_all p t) h) (all_of p t (and_r (p c) (list_all p t) h))

pub status_clean : (l : Text) (s : Status) → StatusSpelled l s → T (clean l)
unfolding all
status_clean l s g =
    let phrase = clean_by phrase_byte refl refl g.phrase (all_of phrase_byte g.phrase g.good) in
    rw g.text (all_append not_end g.digits (32 ∷ g.phrase) (number_clean g.digits s.code g.worth) phrase)
