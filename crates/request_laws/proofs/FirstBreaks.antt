-- Where a first line breaks its grammar is where it is refused.
use Rattle.std.proofs.Common.{◌≡◌, ℕ, zero, suc, ◌+◌, ◌-◌, ◌<◌, ◌≤◌, min, Bool, true, false, not, ◌||◌, T, eqb, ltb, leb, [], ◌∷◌, ◌++◌, length, get_or, take, drop, IfErr, Ok, Err, Result, sym, refl, ap, ◌∙◌, subst, ap₂, ⊎_elim, append_assoc, add-zero, arith}
use Rattle.std.specs.List.{prefix_len}
use Rattle.std.proofs.lemmas.Result.{IfOk-at_ok, MatchResult-at_err}
use Rattle.std.proofs.lemmas.List.Sums.{prefix_len-le-length}
use Rattle.std.proofs.lemmas.Bool.{cond_both, or_parts, or_cases, cases_Bool, eqb-true, eqb-false, leb-true, leb-false, ltb-true, ltb-false, le-leb, not-true}
use Rattle.std.proofs.lemmas.List.{length-append, length-drop, length-take-le, take_more, take-append-drop, drop-drop, get_or-drop, get_or-take}
use Rattle.text.specs.Bytes.{Text, all, upper, nonempty}
use Rattle.text.specs.Marks.{before}
use Rattle.text.proofs.Passing.{and_i}
use Rattle.message.specs.Faults.{flaw}
use Rattle.message.specs.declared.fault.Fault.TheVariants.{FirstLine}
use Rattle.message.specs.declared.fault.Flaw.{Flaw}
use Rattle.message_laws.specs.Breaks.{Breaks}
use Rattle.request.specs.Canonical.{canonical_method, begins_with_slash, first_line, version}
use Rattle.request.specs.First.{agree, not_first, first_at, check_first}
use Rattle.request.specs.declared.first.First.{First}
use Rattle.request_laws.specs.Faults.{GoodFirst}
use Rattle.request_laws.proofs.Leads.{all_leading, leads, mark_at, nonempty_by}
use Rattle.request_laws.proofs.First.{Good, good, is_byte, slash_first, some_target, first_read, first_spelled, first_stray}
use Rattle.request_laws.proofs.Breaking.{Stops, breaks_by, one_place, no_more, get_or_front, drop_front, leading_front, leading_least, take_mark}

-- texts that agree so far, and what follows
agree_front : (n : ℕ) (s w u : Text) → agree s w < n → n ≤ length s → agree (take n s ++ u) w ≡ agree s w
unfolding agree
agree_front zero s w u h k = absurd (omega arith)
agree_front (suc n) [] w u h k = absurd (omega arith)
agree_front (suc n) (c ∷ s) [] u h k = refl
agree_front (suc n) (c ∷ s) (d ∷ w) u h k =
    ⊎_elim (λ e. let less : 1 + agree s w < suc n = rw e at h in let more = agree_front n s w u (omega arith) (omega arith) in rw e (omega arith)) (λ e. rw e) (cases_Bool (eqb c d))

agree_long : (s w : Text) → agree s w ≤ length s
unfolding agree
agree_long [] w = omega arith
agree_long (c ∷ s) [] = omega arith
agree_long (c ∷ s) (d ∷ w) = let more = agree_long s w in cond_both (eqb c d) (1 + agree s w) 0 (λ n. n ≤ suc (length s)) (λ _. omega arith) (λ _. omega arith)

agree_take : (s w : Text) → take (agree s w) s ≡ take (agree s w) w
unfolding agree
agree_take [] w = refl
agree_take (c ∷ s) [] = refl
agree_take (c ∷ s) (d ∷ w) =
    cond_both (eqb c d) (1 + agree s w) 0 (λ n. take n (c ∷ s) ≡ take n (d ∷ w))
    (λ e. let one : 1 + agree s w ≡ suc (agree s w) = omega arith in rw one (ap₂ (λ b t. b ∷ t) (eqb-true c d e) (agree_take s w))) (λ _. refl)

-- what is known of a good first line
good_read : (l : Text) → GoodFirst l → (f : First) × (check_first l true ≡ Ok f)
good_read l g = (record { method = length g.0; target = length g.1 }, ap (λ s. check_first s true) g.3 ∙ first_spelled g.0 g.1 g.2.0 g.2.1 g.2.2)

facts : (s : Text) → GoodFirst s → (f : First) × Good s true (prefix_len upper s) (before 32 (drop (prefix_len upper s + 1) s)) (agree (drop (prefix_len upper s + 1 + before 32 (drop (prefix_len upper s + 1) s) + 1) s) version) f
facts s g =
    let m = prefix_len upper s in
    let t = before 32 (drop (m + 1) s) in
    let a = agree (drop (m + 1 + t + 1) s) version in
    let r = good_read s g in
    (r.0, IfOk-at_ok (Good s true m t a) r.1 (good s true m t a))

-- HOW A LINE MAY GO ON

method_good : (l : Text) (j : ℕ) → 0 < j → j ≤ 16 → j ≤ prefix_len upper l → T (canonical_method (take j l))
method_good l j some few h =
    let k = leads upper l j h in
    let short : leb (length (take j l)) 16 ≡ true = le-leb (length (take j l)) 16 (omega (arith, k.1)) in
    and_i _ _ (and_i _ _ (nonempty_by (take j l) (omega (arith, k.1))) (rw short tt)) k.0

-- after letters: a space, a slash, a space, the version
after_letters : (l : Text) (j : ℕ) → 0 < j → j ≤ 16 → j ≤ prefix_len upper l → GoodFirst (take j l ++ (32 ∷ 47 ∷ 32 ∷ version))
unfolding begins_with_slash all
after_letters l j some few h = (take j l, 47 ∷ [], (method_good l j some few h, tt, tt), refl)

-- after none: a letter first
after_nothing : GoodFirst (first_line (65 ∷ []) (47 ∷ []))
unfolding nonempty begins_with_slash all
after_nothing = (65 ∷ [], 47 ∷ [], (tt, tt, tt), refl)

-- after the space: a slash, a space, the version
after_space : (l : Text) (m : ℕ) → T (canonical_method (take m l)) → m < length l → get_or l m 0 ≡ 32 → GoodFirst (take (m + 1) l ++ (47 ∷ 32 ∷ version))
unfolding begins_with_slash all
after_space l m method long space =
    (take m l, 47 ∷ [], (method, tt, tt), ap (λ s. s ++ (47 ∷ 32 ∷ version)) (take_more l m 0 long ∙ ap (λ c. take m l ++ (c ∷ [])) space) ∙ append_assoc (take m l) (32 ∷ []) (47 ∷ 32 ∷ version))

target_good : (d : Text) → 0 < length d → get_or d 0 0 ≡ 47 → T (begins_with_slash (take (before 32 d) d)) × T (all (λ c. not (eqb c 32)) (take (before 32 d) d))
target_good d some slash =
    let t = before 32 d in
    let has : 0 < t = some_target d some slash in
    let long : length (take t d) ≡ t = length-take-le t d (prefix_len-le-length (λ c. not (eqb c 32)) d) in
    (slash_first (take t d) (omega arith) (get_or-take t d 0 0 has ∙ slash), all_leading (λ c. not (eqb c 32)) d)

-- after a target with no space behind it: a space, the version
after_target : (l : Text) (m : ℕ) → T (canonical_method (take m l)) → m + 1 < length l → get_or l m 0 ≡ 32 → get_or (drop (m + 1) l) 0 0 ≡ 47 → GoodFirst (take (m + 1 + before 32 (drop (m + 1) l)) l ++ (32 ∷ version))
after_target l m method long space slash =
    let d = drop (m + 1) l in
    let t = before 32 d in
    let here : m < length l = omega arith in
    let good = target_good d (simp length-drop (omega arith)) slash in
    (take m l, take t d, (method, good.0, good.1), ap (λ s. s ++ (32 ∷ version)) (take_mark m t 32 l here space) ∙ append_assoc (take m l) (32 ∷ take t d) (32 ∷ version))

-- after a part of the version: the rest of it
after_part : (l : Text) (m t g : ℕ) → t ≡ before 32 (drop (m + 1) l) → g ≡ agree (drop (m + 1 + t + 1) l) version → T (canonical_method (take m l)) → m + 1 + t < length l → get_or l m 0 ≡ 32 → get_or (drop (m + 1) l) 0 0 ≡ 47 →
    GoodFirst (take (m + 1 + t + 1 + g) l ++ drop g version)
after_part l m t g ist isg method long space slash =
    let d = drop (m + 1) l in
    let e = drop (m + 1 + t + 1) l in
    let here : m < length l = omega arith in
    let there : t < length d = simp length-drop (omega arith) in
    let mark : get_or d t 0 ≡ 32 = ap (λ n. get_or d n 0) ist ∙ mark_at 32 d (omega arith) in
    let good = target_good d (omega arith) slash in
    let rest : drop (t + 1) d ≡ e = drop-drop (t + 1) (m + 1) l ∙ ap (λ n. drop n l) (let k : m + 1 + (t + 1) ≡ m + 1 + t + 1 = omega arith in k) in
    let part : take g e ≡ take g version = ap (λ n. take n e) isg ∙ agree_take e version ∙ ap (λ n. take n version) (sym isg) in
    let after : take (t + 1 + g) d ≡ take t d ++ (32 ∷ take g version) = take_mark t g 32 d there mark ∙ ap (λ s. take t d ++ (32 ∷ take g s)) rest ∙ ap (λ s. take t d ++ (32 ∷ s)) part in
    let front : take (m + 1 + t + 1 + g) l ≡ take m l ++ (32 ∷ (take t d ++ (32 ∷ take g version))) =
    ap (λ n. take n l) (let k : m + 1 + t + 1 + g ≡ m + 1 + (t + 1 + g) = omega arith in k) ∙ take_mark m (t + 1 + g) 32 l here space ∙ ap (λ s. take m l ++ (32 ∷ s)) after
    in
    let text : take (m + 1 + t + 1 + g) l ++ drop g version ≡ first_line (take m l) (take t d) =
    ap (λ s. s ++ drop g version) front ∙ append_assoc (take m l) (32 ∷ (take t d ++ (32 ∷ take g version))) (drop g version)
    ∙ ap (λ s. take m l ++ (32 ∷ s)) (append_assoc (take t d) (32 ∷ take g version) (drop g version) ∙ ap (λ s. take t d ++ (32 ∷ s)) (take-append-drop g version))
    in
    (take m l, take t d, (method, subst (λ n. T (begins_with_slash (take n d))) (sym ist) good.0, subst (λ n. T (all (λ c. not (eqb c 32)) (take n d))) (sym ist) good.1), text)

-- WHERE IT MAY NOT

no_letter : (l u : Text) → prefix_len upper l ≡ 0 → 0 < length l → GoodFirst (take 1 l ++ u) → ⊥
no_letter l u none long good = let same = leading_front upper 1 l u (omega arith) (omega arith) in omega (arith, (facts (take 1 l ++ u) good).1.some)

many_letters : (l u : Text) → 16 < prefix_len upper l → GoodFirst (take 17 l ++ u) → ⊥
many_letters l u many good = let least = leading_least upper 17 l u (omega arith) in omega (arith, (facts (take 17 l ++ u) good).1.few)

no_space : (l u : Text) (m : ℕ) → m ≡ prefix_len upper l → m < length l → (get_or l m 0 ≡ 32 → ⊥) → GoodFirst (take (m + 1) l ++ u) → ⊥
no_space l u m is long fails good =
    let s = take (m + 1) l ++ u in
    let same : prefix_len upper s ≡ m = leading_front upper (m + 1) l u (omega arith) (omega arith) ∙ sym is in
    fails (sym (get_or_front (m + 1) m l u (omega arith) (omega arith)) ∙ ap (λ n. get_or s n 0) (sym same) ∙ (facts s good).1.space)

no_slash : (l u : Text) (m : ℕ) → m ≡ prefix_len upper l → m + 1 < length l → (get_or l (m + 1) 0 ≡ 47 → ⊥) → GoodFirst (take (m + 1 + 1) l ++ u) → ⊥
no_slash l u m is long fails good =
    let s = take (m + 1 + 1) l ++ u in
    let same : prefix_len upper s ≡ m = leading_front upper (m + 1 + 1) l u (omega arith) (omega arith) ∙ sym is in
    fails (sym (get_or_front (m + 1 + 1) (m + 1) l u (omega arith) (omega arith)) ∙ ap (λ n. get_or s (n + 1) 0) (sym same) ∙ (facts s good).1.slash)

-- the byte behind what agrees with the version
no_version : (l u : Text) (m t g : ℕ) → m ≡ prefix_len upper l → t ≡ before 32 (drop (m + 1) l) → g ≡ agree (drop (m + 1 + t + 1) l) version → m + 1 + t + 1 + g < length l → GoodFirst (take (m + 1 + t + 1 + g + 1) l ++ u) → ⊥
no_version l u m t g ism ist isg long good =
    let n = m + 1 + t + 1 + g + 1 in
    let s = take n l ++ u in
    let d = drop (m + 1) l in
    let e = drop (m + 1 + t + 1) l in
    let k = (facts s good).1 in
    let method : prefix_len upper s ≡ m = leading_front upper n l u (omega arith) (omega arith) ∙ sym ism in
    let count : n ≡ m + 1 + (t + 1 + g + 1) = omega arith in
    let behind : drop (m + 1) s ≡ take (t + 1 + g + 1) d ++ u = ap (λ j. drop (m + 1) (take j l ++ u)) count ∙ drop_front (m + 1) (t + 1 + g + 1) l u (omega arith) in
    let wide : t + 1 + g + 1 ≤ length d = simp length-drop (omega arith) in
    let target : before 32 (drop (prefix_len upper s + 1) s) ≡ t = ap (λ j. before 32 (drop (j + 1) s)) method ∙ ap (before 32) behind ∙ leading_front (λ c. not (eqb c 32)) (t + 1 + g + 1) d u (omega arith) wide ∙ sym ist in
    let count2 : n ≡ m + 1 + t + 1 + (g + 1) = omega arith in
    let end : drop (prefix_len upper s + 1 + before 32 (drop (prefix_len upper s + 1) s) + 1) s ≡ take (g + 1) e ++ u =
    ap₂ (λ i j. drop (i + 1 + j + 1) s) method target ∙ ap (λ j. drop (m + 1 + t + 1) (take j l ++ u)) count2 ∙ drop_front (m + 1 + t + 1) (g + 1) l u (omega arith)
    in
    let some : g + 1 ≤ length e = simp length-drop (omega arith) in
    let agrees : agree (take (g + 1) e ++ u) version ≡ g = agree_front (g + 1) e version u (omega arith) some ∙ sym isg in
    let least : 8 ≤ g = omega (arith, k.agrees, ap (λ v. agree v version) end, agrees) in
    let most : length (take (g + 1) e ++ u) ≤ 8 = omega (arith, k.short, ap length end) in
    omega (arith, length-append (take (g + 1) e) u, length-take-le (g + 1) e some)

-- WHERE IT BREAKS

letters_stop : (l : Text) → eqb (prefix_len upper l) 0 || ltb 16 (prefix_len upper l) ≡ true → Stops GoodFirst l (min (prefix_len upper l) 16)
letters_stop l a =
    let m = prefix_len upper l in
    let most = prefix_len-le-length upper l in
    ⊎_elim
    (λ z.
    let none = eqb-true m 0 z in
    let zero : min m 16 ≡ 0 = omega arith in
    rw zero (record { within = omega arith; begins = (first_line (65 ∷ []) (47 ∷ []), after_nothing); no_further = no_more GoodFirst l 0 (omega arith) (λ h u g. no_letter l u none h g) }))
    (λ z.
    let many = ltb-true 16 m z in
    let all : min m 16 ≡ 16 = omega arith in
    rw all (record { within = omega arith; begins = (32 ∷ 47 ∷ 32 ∷ version, after_letters l 16 (omega arith) (omega arith) (omega arith)); no_further = no_more GoodFirst l 16 (omega arith) (λ h u g. many_letters l u many g) }))
    (or_cases (eqb m 0) (ltb 16 m) a)

-- a byte that is not the one wanted, or none
not_byte : (l : Text) (i c : ℕ) → leb (length l) i || not (eqb (get_or l i 0) c) ≡ true → i < length l → get_or l i 0 ≡ c → ⊥
not_byte l i c b h e =
    ⊎_elim (λ z. let k = leb-true (length l) i z in omega arith) (λ z. eqb-false (get_or l i 0) c (not-true (eqb (get_or l i 0) c) z) e) (or_cases (leb (length l) i) (not (eqb (get_or l i 0) c)) b)

abbrev Stopped : Text → Flaw → Type 0
Stopped l v = (p : ℕ) × (v ≡ flaw FirstLine p) × Stops GoodFirst l p

stops : (l : Text) (ended : Bool) (m t g : ℕ) → m ≡ prefix_len upper l → t ≡ before 32 (drop (m + 1) l) → g ≡ agree (drop (m + 1 + t + 1) l) version → IfErr (first_at l ended m t g) (Stopped l)
stops l ended m t g ism ist isg =
    let P : Result First Flaw → Type 0 = λ r. IfErr r (Stopped l) in
    let most = prefix_len-le-length upper l in
    cond_both (eqb m 0 || ltb 16 m) _ _ P (λ a. (min m 16, refl, rw ism (letters_stop l (rw ism at a)))) (λ a.
    let a' = or_parts (eqb m 0) (ltb 16 m) a in
    let some : 0 < m = let no = eqb-false m 0 a'.0 in omega (arith, no) in
    let few : m ≤ 16 = ltb-false 16 m a'.1 in
    let led : m ≤ prefix_len upper l = omega arith in
    let method = method_good l m some few led in
    cond_both (leb (length l) m || not (eqb (get_or l m 0) 32)) _ _ P
    (λ b. (
      m,
      refl,
      record {
        within = omega arith;
        begins = (32 ∷ 47 ∷ 32 ∷ version, after_letters l m some few led);
        no_further = no_more GoodFirst l m (omega arith) (λ h u x. no_space l u m ism h (not_byte l m 32 b h) x);
      },
    )) (λ b.
    let space = is_byte l m 32 b in
    let long = space.0 in
    cond_both (leb (length l) (m + 1) || not (eqb (get_or l (m + 1) 0) 47)) _ _ P
    (λ c. (
      m + 1,
      refl,
      record {
        within = omega arith;
        begins = (47 ∷ 32 ∷ version, after_space l m method long space.1);
        no_further = no_more GoodFirst l (m + 1) (omega arith) (λ h u x. no_slash l u m ism h (not_byte l (m + 1) 47 c h) x);
      },
    )) (λ c.
    let slash = is_byte l (m + 1) 47 c in
    let longer = slash.0 in
    let d = drop (m + 1) l in
    let first : get_or d 0 0 ≡ 47 = get_or-drop (m + 1) l 0 0 ∙ ap (λ n. get_or l n 0) (add-zero (m + 1)) ∙ slash.1 in
    let wide : length d ≡ length l - (m + 1) = length-drop (m + 1) l in
    let inside : t ≤ length d = rw ist (prefix_len-le-length (λ x. not (eqb x 32)) d) in
    cond_both (leb (length l) (m + 1 + t)) _ _ P
    (λ e.
    let end = leb-true (length l) (m + 1 + t) e in (
      m + 1 + t,
      refl,
      record {
        within = omega arith;
        begins = (32 ∷ version, rw ist (after_target l m method longer space.1 first));
        no_further = λ u x. omega arith;
      },
    )) (λ e.
    let longest = leb-false (length l) (m + 1 + t) e in
    let near : g ≤ length (drop (m + 1 + t + 1) l) = rw isg (agree_long (drop (m + 1 + t + 1) l) version) in
    let room : m + 1 + t + 1 + g ≤ length l = omega (arith, length-drop (m + 1 + t + 1) l) in
    cond_both (ltb g 8 || ltb 8 (length (drop (m + 1 + t + 1) l)) || not ended) _ _ P
    (λ f. (
      m + 1 + t + 1 + g,
      refl,
      record {
        within = room;
        begins = (drop g version, after_part l m t g ist isg method longest space.1 first);
        no_further = no_more GoodFirst l (m + 1 + t + 1 + g) room (λ h u x. no_version l u m t g ism ist isg h x);
      },
    )) (λ f. tt)))))

not_good : (l : Text) (ended : Bool) (v : Flaw) → check_first l ended ≡ Err v → GoodFirst l → ended ≡ false
not_good l true v e g = let k = (good_read l g).1 in cc
not_good l false v e g = refl

-- where a first line is refused it breaks
pub first_breaks : (l : Text) (ended : Bool) (v : Flaw) → check_first l ended ≡ Err v → (p : ℕ) × (v ≡ flaw FirstLine p) × Breaks GoodFirst l ended p
first_breaks l ended v e =
    let m = prefix_len upper l in
    let t = before 32 (drop (m + 1) l) in
    let k = MatchResult-at_err (λ _. Unit {0}) (Stopped l) v e (stops l ended m t (agree (drop (m + 1 + t + 1) l) version) refl refl refl) in
    (k.0, k.1, breaks_by k.2 (not_good l ended v e))

-- a line that is not refused does not break
good_whole : (l : Text) (ended : Bool) (f : First) → check_first l ended ≡ Ok f → GoodFirst l × (ended ≡ true)
good_whole l true f e = let s = first_read l f e in ((_, _, s.parts, s.text), refl)
good_whole l false f e = absurd (first_stray l f e)

refused : (l : Text) (ended : Bool) (p : ℕ) (r : Result First Flaw) → check_first l ended ≡ r → Breaks GoodFirst l ended p → r ≡ not_first p
refused l ended p (Ok f) e b = let g = good_whole l ended f e in let f = b.bad g.0 in cc
refused l ended p (Err v) e b = let k = first_breaks l ended v e in ap Err (k.1 ∙ ap (flaw FirstLine) (one_place GoodFirst l ended ended k.0 p k.2 b))

-- where it breaks it is refused
pub first_refused : (l : Text) (ended : Bool) (p : ℕ) → Breaks GoodFirst l ended p → check_first l ended ≡ Err (flaw FirstLine p)
first_refused l ended p b = refused l ended p (check_first l ended) refl b
