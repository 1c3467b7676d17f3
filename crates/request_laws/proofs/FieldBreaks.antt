-- Where a field line breaks its grammar is where it is refused.
use Rattle.std.proofs.Common.{◌≡◌, ℕ, ◌+◌, ◌<◌, ◌≤◌, Bool, true, false, not, ◌||◌, T, eqb, ltb, leb, ◌⊎◌, [], ◌∷◌, ◌++◌, length, get_or, take, drop, IfErr, Ok, Err, Result, sym, refl, ap, ◌∙◌, subst, inl, inr, ⊎_elim, append_assoc, append-nil, add-zero, arith}
use Rattle.std.specs.List.{prefix_len}
use Rattle.std.proofs.lemmas.Result.{IfOk-at_ok, MatchResult-at_err}
use Rattle.std.proofs.lemmas.List.Sums.{prefix_len-le-length}
use Rattle.std.proofs.lemmas.Bool.{cond_both, or_cases, or_parts, cases_lt, eqb-true, eqb-false, leb-true, leb-false, ltb-true, ltb-false, lt-ltb}
use Rattle.std.proofs.lemmas.List.{length-append, length-drop, length-take-le}
use Rattle.text.specs.Bytes.{Text, name_byte, value_byte, all}
use Rattle.text.specs.Marks.{before}
use Rattle.text.specs.Trims.{trimmed}
use Rattle.text.proofs.Passing.{all_append}
use Rattle.text_laws.proofs.Ends.{trims}
use Rattle.message.specs.Faults.{flaw}
use Rattle.message.specs.Fields.{name_limit}
use Rattle.message.specs.Sent.{check_field}
use Rattle.message.specs.declared.fault.Fault.TheVariants.{TooLong, FieldLine}
use Rattle.message.specs.declared.fault.Flaw.{Flaw}
use Rattle.message_laws.specs.Breaks.{Breaks}
use Rattle.request_laws.specs.Faults.{GoodField}
use Rattle.request_laws.proofs.Leads.{all_leading, leads, mark_at, nonempty_by}
use Rattle.request_laws.proofs.Fields.{Good, good, field_read, field_spelled, stray_field}
use Rattle.request_laws.proofs.Breaking.{Stops, breaks_by, one_place, no_more, drop_front, leading_front, leading_least, take_mark}

-- what is known of a good field line
facts : (s : Text) → GoodField s → (n : ℕ) × Good s true (before 58 s) (prefix_len name_byte s) (before 58 s + 1 + prefix_len value_byte (drop (before 58 s + 1) s)) n
facts s g =
    let n = before 58 s in
    let v = n + 1 + prefix_len value_byte (drop (n + 1) s) in
    (length g.0.name, IfOk-at_ok (Good s true n (prefix_len name_byte s) v) (field_spelled 0 s g.0 g.1).0 (good 0 s true n (prefix_len name_byte s) v))

-- HOW A LINE MAY GO ON

-- a name, a colon and a value are a field line
name_line : (name behind : Text) → 0 < length name → length name ≤ name_limit → T (all name_byte name) → T (all value_byte behind) → GoodField (name ++ (58 ∷ behind))
name_line name behind some few named bytes =
    (record { name = name; value = trimmed behind }, record { behind = behind; named = (nonempty_by name some, few, named); bytes = bytes; trims = (trims behind (trimmed behind)).0 refl; text = refl })

-- after a name that may be longer: another letter, a colon
after_letter : (l : Text) (j : ℕ) → j ≤ prefix_len name_byte l → j < name_limit → GoodField (take j l ++ (97 ∷ 58 ∷ []))
unfolding all
after_letter l j h few =
    let k = leads name_byte l j h in
    let longer : length (take j l ++ (97 ∷ [])) ≡ j + 1 = length-append (take j l) (97 ∷ []) ∙ omega (arith, k.1) in
    subst GoodField (append_assoc (take j l) (97 ∷ []) (58 ∷ [])) (name_line (take j l ++ (97 ∷ [])) [] (omega arith) (omega arith) (all_append name_byte (take j l) (97 ∷ []) k.0 tt) tt)

-- after a name: a colon
after_name : (l : Text) (j : ℕ) → j ≤ prefix_len name_byte l → 0 < j → j ≤ name_limit → GoodField (take j l ++ (58 ∷ []))
unfolding all
after_name l j h some few = let k = leads name_byte l j h in name_line (take j l) [] (omega (arith, k.1)) (omega (arith, k.1)) k.0 tt

-- after a part of a value: nothing
after_value : (l : Text) (n : ℕ) → n ≡ before 58 l → n ≤ prefix_len name_byte l → 0 < n → n ≤ name_limit → n < length l → GoodField (take (n + 1 + prefix_len value_byte (drop (n + 1) l)) l ++ [])
after_value l n is h some few long =
    let d = drop (n + 1) l in
    let k = leads name_byte l n h in
    let mark = ap (λ i. get_or l i 0) is ∙ mark_at 58 l (omega arith) in
    subst GoodField (sym (append-nil _ ∙ take_mark n (prefix_len value_byte d) 58 l long mark)) (name_line (take n l) (take (prefix_len value_byte d) d) (omega (arith, k.1)) (omega (arith, k.1)) k.0 (all_leading value_byte d))

-- WHERE IT MAY NOT

no_name : (l u : Text) → before 58 l ≡ 0 → 0 < length l → GoodField (take 1 l ++ u) → ⊥
no_name l u none long g = let same = leading_front (λ c. not (eqb c 58)) 1 l u (omega arith) (omega arith) in omega (arith, (facts (take 1 l ++ u) g).1.some)

-- a byte that no name has before the colon
no_byte : (l u : Text) (k : ℕ) → k ≡ prefix_len name_byte l → k < before 58 l → k < length l → GoodField (take (k + 1) l ++ u) → ⊥
no_byte l u k is h long g =
    let s = take (k + 1) l ++ u in
    let same = leading_front name_byte (k + 1) l u (omega arith) (omega arith) in
    let least = leading_least (λ c. not (eqb c 58)) (k + 1) l u (omega arith) in
    omega (arith, (facts s g).1.name)

-- a byte that no value has
no_value : (l u : Text) (n j : ℕ) → n ≡ before 58 l → j ≡ prefix_len value_byte (drop (n + 1) l) → n + 1 + j < length l → GoodField (take (n + 1 + j + 1) l ++ u) → ⊥
no_value l u n j isn isj long g =
    let s = take (n + 1 + j + 1) l ++ u in
    let d = drop (n + 1) l in
    let colon : before 58 s ≡ n = leading_front (λ c. not (eqb c 58)) (n + 1 + j + 1) l u (omega arith) (omega arith) ∙ sym isn in
    let count : n + 1 + j + 1 ≡ n + 1 + (j + 1) = omega arith in
    let behind : drop (n + 1) s ≡ take (j + 1) d ++ u = ap (λ k. drop (n + 1) (take k l ++ u)) count ∙ drop_front (n + 1) (j + 1) l u (omega arith) in
    let wide : j + 1 ≤ length d = simp length-drop (omega arith) in
    let value : prefix_len value_byte (drop (before 58 s + 1) s) ≡ j = ap (λ k. prefix_len value_byte (drop (k + 1) s)) colon ∙ ap (prefix_len value_byte) behind ∙ leading_front value_byte (j + 1) d u (omega arith) wide ∙ sym isj in
    let few : n + 1 + j + 1 ≤ length l = omega arith in
    omega (arith, (facts s g).1.value, colon, value, length-append (take (n + 1 + j + 1) l) u, length-take-le (n + 1 + j + 1) l few)

-- WHERE IT BREAKS

-- what is wrong with a line l at the place at: a name that is too long, or the first byte at which it breaks
abbrev WrongBy : (ℕ → Type 0) → ℕ → Text → Flaw → Type 0
WrongBy P at l v = ((name_limit < before 58 l) × (v ≡ flaw TooLong (at + name_limit))) ⊎ ((p : ℕ) × (v ≡ flaw FieldLine (at + p)) × (before 58 l ≤ name_limit) × P p)

abbrev Stopped : ℕ → Text → Flaw → Type 0
Stopped at l = WrongBy (Stops GoodField l) at l

abbrev pub FieldWrong : ℕ → Text → Bool → Flaw → Type 0
FieldWrong at l ended = WrongBy (Breaks GoodField l ended) at l

-- where no name comes at all
nameless : (l : Text) → before 58 l ≡ 0 → Stops GoodField l 0
nameless l none = record { within = omega arith; begins = (97 ∷ 58 ∷ [], after_letter l 0 (omega arith) (omega arith)); no_further = no_more GoodField l 0 (omega arith) (λ h u x. no_name l u none h x) }

-- where a byte before the colon is none of a name, or there is no colon
name_stops : (l : Text) → 0 < before 58 l → before 58 l ≤ name_limit → ltb (prefix_len name_byte l) (before 58 l) || leb (length l) (before 58 l) ≡ true → Stops GoodField l (prefix_len name_byte l)
name_stops l some few c =
    let n = before 58 l in
    let g = prefix_len name_byte l in
    let long = prefix_len-le-length name_byte l in
    let wide = prefix_len-le-length (λ x. not (eqb x 58)) l in
    ⊎_elim
    (λ h. record { within = long; begins = (97 ∷ 58 ∷ [], after_letter l g (omega arith) (omega arith)); no_further = no_more GoodField l g long (λ k u x. no_byte l u g refl h k x) })
    (λ h.
    let end : length l ≤ n = ⊎_elim (λ z. let less = ltb-true g n z in absurd (omega arith)) (λ z. leb-true (length l) n z) (or_cases (ltb g n) (leb (length l) n) c) in
    record { within = long; begins = (58 ∷ [], after_name l g (omega arith) (omega arith) (omega arith)); no_further = λ u x. omega arith }) (cases_lt g n)

stops : (at : ℕ) (l : Text) (ended : Bool) → IfErr (check_field at l ended) (Stopped at l)
stops at l ended =
    let n = before 58 l in
    let g = prefix_len name_byte l in
    let d = drop (n + 1) l in
    let j = prefix_len value_byte d in
    let v = n + 1 + j in
    let P : Result ℕ Flaw → Type 0 = λ r. IfErr r (Stopped at l) in
    cond_both (ltb name_limit n) _ _ P (λ a. inl (ltb-true name_limit n a, refl)) (λ a.
    let few = ltb-false name_limit n a in
    cond_both (eqb n 0) _ _ P (λ b. inr (0, ap (flaw FieldLine) (sym (add-zero at)), few, nameless l (eqb-true n 0 b))) (λ b.
    let some : 0 < n = let other = eqb-false n 0 b in omega (arith, other) in
    cond_both (ltb g n || leb (length l) n) _ _ P (λ c. inr (g, refl, few, name_stops l some few c)) (λ c.
    let c' = or_parts (ltb g n) (leb (length l) n) c in
    let named = ltb-false g n c'.0 in
    let long = leb-false (length l) n c'.1 in
    let most = prefix_len-le-length value_byte d in
    let room : v ≤ length l = omega (arith, length-drop (n + 1) l) in
    cond_both (ltb v (length l) || not ended) _ _ P
    (λ e. inr (v, refl, few, record { within = room; begins = ([], after_value l n refl named some few long); no_further = no_more GoodField l v room (λ h u x. no_value l u n j refl refl h x) }))
    (λ e. tt))))

not_good : (at : ℕ) (l : Text) (ended : Bool) (v : Flaw) → check_field at l ended ≡ Err v → GoodField l → ended ≡ false
not_good at l true v e g = let k = (field_spelled at l g.0 g.1).0 in cc
not_good at l false v e g = refl

-- where a field line is refused it breaks
pub field_breaks : (at : ℕ) (l : Text) (ended : Bool) (v : Flaw) → check_field at l ended ≡ Err v → FieldWrong at l ended v
field_breaks at l ended v e =
    ⊎_elim (λ k. inl k) (λ k. inr (k.0, k.1, k.2, breaks_by k.3 (not_good at l ended v e))) (MatchResult-at_err (λ _. Unit {0}) (Stopped at l) v e (stops at l ended))

-- a name that is too long is refused
pub long_refused : (at : ℕ) (l : Text) (ended : Bool) → name_limit < before 58 l → check_field at l ended ≡ Err (flaw TooLong (at + name_limit))
long_refused at l ended h = rw (lt-ltb name_limit (before 58 l) h)

good_whole : (at : ℕ) (l : Text) (ended : Bool) (n : ℕ) → check_field at l ended ≡ Ok n → GoodField l × (ended ≡ true)
good_whole at l true n e = ((_, field_read at l n e), refl)
good_whole at l false n e = absurd (stray_field at l n e)

refused : (at : ℕ) (l : Text) (ended : Bool) (p : ℕ) (r : Result ℕ Flaw) → check_field at l ended ≡ r → before 58 l ≤ name_limit → Breaks GoodField l ended p → r ≡ Err (flaw FieldLine (at + p))
refused at l ended p (Ok n) e h b = let g = good_whole at l ended n e in let f = b.bad g.0 in cc
refused at l ended p (Err v) e h b =
    ⊎_elim (λ k. let less = k.0 in absurd (omega arith)) (λ k. ap Err (k.1 ∙ ap (λ q. flaw FieldLine (at + q)) (one_place GoodField l ended ended k.0 p k.3 b))) (field_breaks at l ended v e)

-- where it breaks it is refused
pub field_refused : (at : ℕ) (l : Text) (ended : Bool) (p : ℕ) → before 58 l ≤ name_limit → Breaks GoodField l ended p → check_field at l ended ≡ Err (flaw FieldLine (at + p))
field_refused at l ended p h b = refused at l ended p (check_field at l ended) refl h b
