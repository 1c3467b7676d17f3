-- A line is cut off a text as the laws say.
use Rattle.std.proofs.Common.{◌≡◌, ◌+◌, ◌<◌, ◌≤◌, cond, T, eqb, ◌⊎◌, [], ◌∷◌, ◌++◌, length, drop, sym, refl, ap, ◌∙◌, inl, inr, ⊎_elim, append-nil, arith}
use Rattle.std.proofs.lemmas.List.{length-append, get_or_at, get_or-append-add, take_at, drop_at, drop-drop}
use Rattle.std.proofs.lemmas.Bool.{le-leb, lt-leb, ne_eqb, eqb-true, or_cases, cases_eq, not-false}
use Rattle.text.specs.Bytes.{Text, clean, line_end}
use Rattle.text.specs.Cuts.{LineCut, whole, short, stray, cut_end, cut_line}
use Rattle.text_laws.specs.Laws.{Iff, WholeLine, ShortLine, StrayLine, Strays, lone_lf, lone_cr}
use Rattle.text.proofs.Passing.{is_false, not_end}
use Rattle.text_laws.proofs.Fronts.{exactly, stops, split, leading_at}

-- what the laws say of each cut
abbrev Found : Text → LineCut → Type 0
Found t (whole l rest) = T (clean l) × (t ≡ l ++ (13 ∷ 10 ∷ rest))
Found t short = T (clean t) ⊎ ((l : Text) × T (clean l) × (t ≡ l ++ (13 ∷ [])))
Found t (stray n) = (l s : Text) × T (clean l) × (length l ≡ n) × (t ≡ l ++ s) × Strays s

-- the cut after a clean text l: where s comes behind a CR, and where s comes next
abbrev cut_behind : Text → Text → LineCut
cut_behind l [] = short
cut_behind l (d ∷ s) = cond (eqb d 10) (whole l s) (stray (length l))

abbrev cut_of : Text → Text → LineCut
cut_of l [] = short
cut_of l (c ∷ s) = cond (eqb c 10) (stray (length l)) (cut_behind l s)

cut_at_so : (l s : Text) → cut_end (length l) (l ++ s) ≡ cut_of l s
cut_at_so l [] = let all : length (l ++ []) ≤ length l = simp append-nil (omega arith) in rw (le-leb _ _ all)
cut_at_so l (c ∷ []) =
    let some : length l < length (l ++ (c ∷ [])) = simp length-append (omega arith) in
    let all : length (l ++ (c ∷ [])) ≤ length l + 1 = simp length-append (omega arith) in
    rw (lt-leb _ _ some, get_or_at l c [] 0 (length l) refl, le-leb _ _ all)
cut_at_so l (c ∷ d ∷ s) =
    let t = l ++ (c ∷ d ∷ s) in
    let some : length l < length t = simp length-append (omega arith) in
    let more : length l + 1 < length t = simp length-append (omega arith) in
    let rest : drop (length l + 2) t ≡ s = sym (drop-drop 2 (length l) t) ∙ ap (drop 2) (drop_at l (c ∷ d ∷ s) (length l) refl) in
    rw (lt-leb _ _ some, get_or_at l c (d ∷ s) 0 (length l) refl, lt-leb _ _ more, get_or-append-add l (c ∷ d ∷ s) 1 0, take_at l (c ∷ d ∷ s) (length l) refl, rest)

cut : (l s : Text) → T (clean l) → T (stops not_end s) → cut_line (l ++ s) ≡ cut_of l s
cut l s g h = ap (λ n. cut_end n (l ++ s)) (leading_at not_end l s g h) ∙ cut_at_so l s

cut_stray : (l s : Text) → Strays s → T (stops not_end s) × (cut_of l s ≡ stray (length l))
cut_stray l s lone_lf = (tt, refl)
cut_stray l s (lone_cr {d} f) = (tt, rw (ne_eqb d 10 f))

only : (t : Text) (c : LineCut) → Found t c → cut_line t ≡ c
only t (whole l rest) f = ap cut_line f.1 ∙ cut l (13 ∷ 10 ∷ rest) f.0 tt
only t short (inl g) = ap cut_line (sym (append-nil t)) ∙ cut t [] g tt
only t short (inr f) = ap cut_line f.2 ∙ cut f.0 (13 ∷ []) f.1 tt
only t (stray n) f = let s = cut_stray f.0 f.1 f.5 in ap cut_line f.4 ∙ cut f.0 f.1 f.2 s.0 ∙ s.1 ∙ ap stray f.3

-- what is found at a CR, and at any byte that is not clean
at_cr : (t l s : Text) → T (clean l) → t ≡ l ++ (13 ∷ s) → (c : LineCut) × Found t c
at_cr t l [] g e = (short, inr (l, g, e))
at_cr t l (d ∷ s) g e = ⊎_elim (λ f. (whole l s, (g, e ∙ ap (λ x. l ++ (13 ∷ x ∷ s)) f))) (λ f. (stray (length l), (l, 13 ∷ d ∷ s, g, refl, e, lone_cr f))) (cases_eq d 10)

some : (t l s : Text) → T (clean l) → T (stops not_end s) → t ≡ l ++ s → (c : LineCut) × Found t c
some t l [] g h e = (short, inl (rw (e, append-nil l) g))
some t l (c ∷ s) g h e =
    ⊎_elim (λ f. at_cr t l s g (e ∙ ap (λ x. l ++ (x ∷ s)) (eqb-true c 13 f))) (λ f. (stray (length l), (l, 10 ∷ s, g, refl, e ∙ ap (λ x. l ++ (x ∷ s)) (eqb-true c 10 f), lone_lf)))
    (or_cases (eqb c 13) (eqb c 10) (not-false (line_end c) (is_false (not_end c) h)))

found : (t : Text) (c : LineCut) → Iff (cut_line t ≡ c) (Found t c)
found = exactly cut_line Found (λ t. let s = split not_end t in some t s.front s.rest s.passes s.ends s.joined) only

pub whole_line : WholeLine
whole_line t l rest = found t (whole l rest)

pub short_line : ShortLine
short_line t = found t short

pub stray_line : StrayLine
stray_line t n = found t (stray n)
