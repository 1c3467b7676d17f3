-- A trimmed value is what the laws say.
use Rattle.std.proofs.Common.{◌≡◌, ℕ, ◌-◌, Bool, true, not, T, [], ◌∷◌, ◌++◌, reverse, length, drop, sym, refl, ap, ◌∙◌, append-nil, arith}
use mathlib.Core.List.{reverse-cons}
use Rattle.std.specs.List.{prefix_len, suffix_len}
use Rattle.std.proofs.lemmas.List.{length-append, length-reverse, reverse-append, reverse-reverse, take_at, drop_at}
use Rattle.text.specs.Bytes.{Text, blank, all}
use Rattle.text.specs.Trims.{trimmed_front, trimmed_back, trimmed}
use Rattle.text_laws.specs.Laws.{blank_first, blank_last, TrimsTo, Trims}
use Rattle.text.proofs.Passing.{and_i, and_l, and_r, all_append}
use Rattle.text_laws.proofs.Fronts.{exactly, stops, split, leading_at}

all_reverse : (p : ℕ → Bool) (t : Text) → T (all p t) → T (all p (reverse t))
unfolding all
all_reverse p [] h = tt
all_reverse p (c ∷ t) h = rw (reverse-cons c t) (all_append p (reverse t) (c ∷ []) (all_reverse p t (and_r (p c) (all p t) h)) (and_i (p c) true (and_l (p c) (all p t) h) tt))

-- the last byte is the first from behind
last_push : (t : Text) (c : ℕ) → blank_last (t ++ (c ∷ [])) ≡ blank c
unfolding blank_last
last_push [] c = refl
last_push (d ∷ []) c = refl
last_push (d ∷ e ∷ t) c = last_push (e ∷ t) c

last_is : (t : Text) → not (blank_last (reverse t)) ≡ stops blank t
last_is [] = unfold blank_last in refl
last_is (c ∷ t) = rw (reverse-cons c t, last_push (reverse t) c)

first_of : (v back : Text) → T (stops blank (v ++ back)) → T (not (blank_first v))
unfolding blank_first
first_of [] back h = tt
first_of (c ∷ v) back h = h

-- what is trimmed off in front, and behind
front_off : (front rest : Text) → T (all blank front) → T (stops blank rest) → trimmed_front (front ++ rest) ≡ rest
front_off front rest g h = ap (λ n. drop n (front ++ rest)) (leading_at blank front rest g h) ∙ drop_at front rest (length front) refl

back_off : (v back : Text) → T (all blank back) → T (not (blank_last v)) → trimmed_back (v ++ back) ≡ v
back_off v back g h =
    let ends : T (stops blank (reverse v)) = rw (← last_is (reverse v), reverse-reverse v) h in
    let n : suffix_len blank (v ++ back) ≡ length back = ap (prefix_len blank) (reverse-append v back) ∙ leading_at blank (reverse back) (reverse v) (all_reverse blank back g) ends ∙ length-reverse back in
    take_at v back (length (v ++ back) - suffix_len blank (v ++ back)) (omega (arith, n, length-append v back))

only : (t v : Text) → TrimsTo t v → trimmed t ≡ v
only t [] h = ap trimmed (h.joined ∙ sym (append-nil (h.front ++ h.back))) ∙ ap trimmed_back (front_off (h.front ++ h.back) [] (all_append blank h.front h.back h.blanks.0 h.blanks.1) tt)
only t (c ∷ v) h =
    let first : T (not (blank c)) = unfold blank_first in h.bare.0 in
    ap trimmed h.joined ∙ ap trimmed_back (front_off h.front (c ∷ (v ++ h.back)) h.blanks.0 first) ∙ back_off (c ∷ v) h.back h.blanks.1 h.bare.1

some : (t : Text) → (v : Text) × TrimsTo t v
some t =
    let s = split blank t in
    let r = split blank (reverse s.rest) in
    let v = reverse r.rest in
    let back = reverse r.front in
    let rest : s.rest ≡ v ++ back = sym (reverse-reverse s.rest) ∙ ap reverse r.joined ∙ reverse-append r.front r.rest in (
      v,
      record {
        front = s.front;
        back = back;
        blanks = (s.passes, all_reverse blank r.front r.passes);
        bare = (first_of v back (rw rest at s.ends), rw (last_is r.rest) r.ends);
        joined = s.joined ∙ ap (λ u. s.front ++ u) rest;
      },
    )

pub trims : Trims
trims = exactly trimmed TrimsTo some only
