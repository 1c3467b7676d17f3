-- The first line is read as the grammar says.
use Rattle.std.proofs.Common.{◌≡◌, ℕ, ◌+◌, ◌<◌, ◌≤◌, Bool, true, false, not, ◌&&◌, ◌||◌, T, eqb, ltb, leb, [], ◌∷◌, ◌++◌, length, get_or, take, drop, IfOk, Ok, sym, refl, ap, ◌∙◌, subst, add-zero, add_assoc, arith}
use Rattle.std.specs.List.{prefix_len}
use Rattle.std.proofs.lemmas.Result.{IfOk-at_ok}
use Rattle.std.proofs.lemmas.Bool.{cond_both, false≢true, leb-true, eq-eqb, ne_eqb, or_parts, le-leb, lt-leb, le-ltb, eqb-true, eqb-false, leb-false, ltb-false, not-false}
use Rattle.std.proofs.lemmas.List.{take-append-drop, drop_more, drop-drop, length-drop, length-take-le, get_or-drop, get_or-take, get_or_at, get_or-append-add, drop_at, length-append}
use Rattle.text.specs.Bytes.{Text, all, upper, nonempty}
use Rattle.text.specs.Marks.{before}
use Rattle.text.proofs.Passing.{is_true, and_i, and_l, and_r}
use Rattle.text_laws.proofs.Fronts.{leading_at}
use Rattle.request.specs.Canonical.{canonical_method, begins_with_slash, first_line, version}
use Rattle.request.specs.First.{agree, first_at, first_with, check_first}
use Rattle.request.specs.declared.first.First.{First}
use Rattle.request_laws.specs.HeadLaws.{FirstSpelled, FirstRead}
use Rattle.request_laws.proofs.Leads.{all_leading, mark_at, nonempty_by, nonempty_long}

-- what the tests of a first line that is good say
pub record Good (l : Text) (ended : Bool) (m t g : ℕ) (f : First) : Type 0 where
  pub is : f ≡ record { method = m; target = t }
  pub some : 0 < m
  pub few : m ≤ 16
  pub space : get_or l m 0 ≡ 32
  pub slash : get_or l (m + 1) 0 ≡ 47
  pub long : m + 1 + t < length l
  pub agrees : 8 ≤ g
  pub short : length (drop (m + 1 + t + 1) l) ≤ 8
  pub whole : ended ≡ true

-- a byte that is the one wanted
pub is_byte : (l : Text) (i c : ℕ) → leb (length l) i || not (eqb (get_or l i 0) c) ≡ false → (i < length l) × (get_or l i 0 ≡ c)
is_byte l i c b =
    let k = or_parts (leb (length l) i) (not (eqb (get_or l i 0) c)) b in
    (leb-false (length l) i k.0, eqb-true (get_or l i 0) c (not-false (eqb (get_or l i 0) c) k.1))

pub good : (l : Text) (ended : Bool) (m t g : ℕ) → IfOk (first_at l ended m t g) (Good l ended m t g)
good l ended m t g =
    let P : _ → Type 0 = λ r. IfOk r (Good l ended m t g) in
    cond_both (eqb m 0 || ltb 16 m) _ _ P (λ _. tt) (λ a.
    cond_both (leb (length l) m || not (eqb (get_or l m 0) 32)) _ _ P (λ _. tt) (λ b.
    cond_both (leb (length l) (m + 1) || not (eqb (get_or l (m + 1) 0) 47)) _ _ P (λ _. tt) (λ c.
    cond_both (leb (length l) (m + 1 + t)) _ _ P (λ _. tt) (λ d.
    cond_both (ltb g 8 || ltb 8 (length (drop (m + 1 + t + 1) l)) || not ended) _ _ P (λ _. tt) (λ e.
    let a' = or_parts (eqb m 0) (ltb 16 m) a in
    let no = eqb-false m 0 a'.0 in
    let e' = or_parts (ltb g 8 || ltb 8 (length (drop (m + 1 + t + 1) l))) (not ended) e in
    let e'' = or_parts (ltb g 8) (ltb 8 (length (drop (m + 1 + t + 1) l))) e'.0 in
    record {
      is = refl;
      some = omega (arith, no);
      few = ltb-false 16 m a'.1;
      space = (is_byte l m 32 b).1;
      slash = (is_byte l (m + 1) 47 c).1;
      long = leb-false (length l) (m + 1 + t) d;
      agrees = ltb-false g 8 e''.0;
      short = ltb-false 8 (length (drop (m + 1 + t + 1) l)) e''.1;
      whole = not-false ended e'.1;
    })))))

-- texts that agree in as many bytes as the one has, and the other has no more
agree_all : (s w : Text) → length w ≤ agree s w → length s ≤ length w → s ≡ w
unfolding agree
agree_all [] [] g h = refl
agree_all [] (d ∷ w) g h = absurd (omega arith)
agree_all (c ∷ s) [] g h = absurd (omega arith)
agree_all (c ∷ s) (d ∷ w) g h =
    cond_both (eqb c d) (1 + agree s w) 0 (λ n. length (d ∷ w) ≤ n → c ∷ s ≡ d ∷ w) (λ e k. let f = agree_all s w (omega arith) (omega arith) in let i = eqb-true c d e in cc) (λ _ k. absurd (omega arith)) g

agree_same : (w : Text) → agree w w ≡ length w
unfolding agree
agree_same [] = refl
agree_same (d ∷ w) = let more = agree_same w in rw (eq-eqb d d refl) (omega arith)

-- a line that has a space at m, and another t bytes behind the byte after it, and then the version
parts_of_so : (l : Text) (m t : ℕ) → get_or l m 0 ≡ 32 → m + 1 + t < length l → get_or (drop (m + 1) l) t 0 ≡ 32 → drop (m + 1 + t + 1) l ≡ version → l ≡ first_line (take m l) (take t (drop (m + 1) l))
parts_of_so l m t space long next end =
    let d = drop (m + 1) l in
    let here : m < length l = omega arith in
    let there : t < length d = simp length-drop (omega arith) in
    let rest : drop (t + 1) d ≡ version = drop-drop (t + 1) (m + 1) l ∙ ap (λ n. drop n l) (sym (add_assoc (m + 1) t 1)) ∙ end in
    let behind : drop t d ≡ 32 ∷ version = drop_more d t 0 there ∙ ap (λ c. c ∷ drop (t + 1) d) next ∙ ap (λ u. 32 ∷ u) rest in
    let front : drop m l ≡ 32 ∷ d = drop_more l m 0 here ∙ ap (λ c. c ∷ d) space in
    sym (take-append-drop m l) ∙ ap (λ u. take m l ++ u) front ∙ ap (λ u. take m l ++ (32 ∷ u)) (sym (take-append-drop t d) ∙ ap (λ u. take t d ++ u) behind)

-- a text with a slash in front
pub slash_first : (t : Text) → 0 < length t → get_or t 0 0 ≡ 47 → T (begins_with_slash t)
unfolding begins_with_slash
slash_first [] h e = absurd (omega arith)
slash_first (c ∷ t) h e = rw (eq-eqb c 47 e) tt

-- the target is not empty, since it begins with a byte that is no space
pub some_target : (d : Text) → 0 < length d → get_or d 0 0 ≡ 47 → 0 < before 32 d
some_target [] h e = absurd (omega arith)
some_target (c ∷ d) h e = let slash : c ≡ 47 = e in rw (ne_eqb c 32 (omega arith)) (omega arith)

-- a first line that is good is a method, a target and the version
pub first_read : (l : Text) (f : First) → check_first l true ≡ Ok f → FirstSpelled l f
first_read l f e =
    let m = prefix_len upper l in
    let d = drop (m + 1) l in
    let t = before 32 d in
    let s = drop (m + 1 + t + 1) l in
    let k = IfOk-at_ok (Good l true m t (agree s version)) e (good l true m t (agree s version)) in
    let there : t < length d = simp length-drop (omega (arith, k.long)) in
    let some : 0 < length d = omega arith in
    let first : get_or d 0 0 ≡ 47 = get_or-drop (m + 1) l 0 0 ∙ ap (λ n. get_or l n 0) (add-zero (m + 1)) ∙ k.slash in
    let has : 0 < t = some_target d some first in
    let method-long : length (take m l) ≡ m = length-take-le m l (omega (arith, k.long)) in
    let target-long : length (take t d) ≡ t = length-take-le t d (omega arith) in
    let slash : T (begins_with_slash (take t d)) = slash_first (take t d) (omega arith) (get_or-take t d 0 0 has ∙ first) in
    let named : T (nonempty (take m l)) = nonempty_by (take m l) (omega (arith, k.some)) in
    let few : leb (length (take m l)) 16 ≡ true = le-leb (length (take m l)) 16 (omega (arith, k.few)) in
    subst (FirstSpelled l) (sym k.is) (record {
      text = parts_of_so l m t k.space k.long (mark_at 32 d there) (agree_all s version k.agrees k.short);
      parts = (and_i _ _ (and_i _ _ named (rw few tt)) (all_leading upper l), slash, all_leading (λ c. not (eqb c 32)) d);
      method = method-long;
      target = target-long;
    })

-- a line that passes the tests is good
passes : (l : Text) (m t : ℕ) → 0 < m → m ≤ 16 → get_or l m 0 ≡ 32 → get_or l (m + 1) 0 ≡ 47 → m + 1 + t < length l → drop (m + 1 + t + 1) l ≡ version → first_at l true m t 8 ≡ Ok (record { method = m; target = t })
passes l m t some few space slash long end =
    let a : eqb m 0 ≡ false = ne_eqb m 0 (omega arith) in
    let b : leb (length l) m ≡ false = lt-leb (length l) m (omega arith) in
    let c : leb (length l) (m + 1) ≡ false = lt-leb (length l) (m + 1) (omega arith) in
    rw (a, le-ltb 16 m few, b, space, c, slash, lt-leb (length l) (m + 1 + t) long, end)

starts : (t u : Text) → T (begins_with_slash t) → get_or (t ++ u) 0 0 ≡ 47
unfolding begins_with_slash
starts [] u h = absurd h
starts (c ∷ t) u h = eqb-true c 47 (is_true (eqb c 47) h)

-- a method, a target and the version are a good first line
pub first_spelled : (m t : Text) → T (canonical_method m) → T (begins_with_slash t) → T (all (λ c. not (eqb c 32)) t) → check_first (first_line m t) true ≡ Ok (record { method = length m; target = length t })
first_spelled m t method_good begins spaceless =
    let l = first_line m t in
    let d = t ++ (32 ∷ version) in
    let both = and_l (nonempty m && leb (length m) 16) (all upper m) method_good in
    let method : prefix_len upper l ≡ length m = leading_at upper m (32 ∷ d) (and_r (nonempty m && leb (length m) 16) (all upper m) method_good) tt in
    let rest : drop (length m + 1) l ≡ d = sym (drop-drop 1 (length m) l) ∙ ap (drop 1) (drop_at m (32 ∷ d) (length m) refl) in
    let target : before 32 d ≡ length t = leading_at (λ c. not (eqb c 32)) t (32 ∷ version) spaceless tt in
    let end : drop (length m + 1 + length t + 1) l ≡ version = sym (drop-drop 1 (length m + 1 + length t) l) ∙ ap (drop 1) (sym (drop-drop (length t) (length m + 1) l) ∙ ap (drop (length t)) rest ∙ drop_at t (32 ∷ version) (length t) refl) in
    let few = leb-true (length m) 16 (is_true (leb (length m) 16) (and_r (nonempty m) (leb (length m) 16) both)) in
    let slash : get_or l (length m + 1) 0 ≡ 47 = get_or-append-add m (32 ∷ d) 1 0 ∙ starts t (32 ∷ version) begins in
    let long : length m + 1 + length t < length l = simp length-append (omega arith) in
    ap (λ n. first_with l true n (before 32 (drop (n + 1) l))) method ∙ ap (λ u. first_with l true (length m) (before 32 u)) rest ∙ ap (first_with l true (length m)) target
    ∙ ap (λ u. first_at l true (length m) (length t) (agree u version)) end ∙ ap (first_at l true (length m) (length t)) (agree_same version)
    ∙ passes l (length m) (length t) (nonempty_long m (and_l (nonempty m) (leb (length m) 16) both)) few (get_or_at m 32 d 0 (length m) refl) slash long end

-- a line that a stray byte cuts off is never good
pub first_stray : (l : Text) (f : First) → check_first l false ≡ Ok f → ⊥
first_stray l f e =
    let m = prefix_len upper l in
    let t = before 32 (drop (m + 1) l) in
    let g = agree (drop (m + 1 + t + 1) l) version in
    false≢true (IfOk-at_ok (Good l false m t g) e (good l false m t g)).whole

pub first : FirstRead
first = (first_read, λ m t h. first_spelled m t h.0 h.1 h.2)
