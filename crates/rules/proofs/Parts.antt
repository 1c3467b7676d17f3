-- The parts of a rule's path compared with those of a path as one text, in lower case.
use Rattle.std.specs.List.{list_all, zip}
use Rattle.std.proofs.Common.{◌≡◌, ℕ, ◌<◌, ◌≤◌, Bool, true, false, cond, ◌&&◌, eqb, List, [], ◌∷◌, ◌++◌, length, take, drop, take-append-drop, sym, refl, ap, ◌∙◌, ap₂, arith}
use Rattle.std.proofs.lemmas.Bool.{eqb-true, eqb-false, eq-eqb, ne_eqb, and_left, le-leb, lt-leb, cond-true, cond-false}
use Rattle.std.proofs.lemmas.Bool.Decides.{nat_tests}
use Rattle.text.specs.Bytes.{Text, lower, lowered, same}
use Rattle.text.specs.Marks.{split, on_first}
use Rattle.rules.specs.Rules.{begins, ends_part, parts_of}

-- the text in lower case goes on as the word does, and then ends or goes on with a slash
unfoldable pub goes_on : Text → Text → Bool
goes_on [] [] = true
goes_on [] (c ∷ cs) = eqb c 47
goes_on (w ∷ ws) [] = false
goes_on (w ∷ ws) (c ∷ cs) = eqb w (lower c) && goes_on ws cs

-- a text has at least one piece
abbrev Some-parts : List Text → Type 0
Some-parts [] = ⊥
Some-parts (t ∷ ts) = Unit {0}

on_first_some : (c : ℕ) (ts : List Text) → Some-parts (on_first c ts)
on_first_some c [] = tt
on_first_some c (t ∷ ts) = tt

one_some : (b : Bool) (c : ℕ) (ts : List Text) → Some-parts (cond b ([] ∷ ts) (on_first c ts))
one_some true c ts = tt
one_some false c ts = on_first_some c ts

split_some : (m : ℕ) (t : Text) → Some-parts (split m t)
unfolding split
split_some m [] = tt
split_some m (c ∷ cs) = one_some (eqb c m) c (split m cs)

-- no path without parts begins with any
begins_none : (ts : List Text) → Some-parts ts → begins ts [] ≡ false
unfolding begins
begins_none [] h = absurd h
begins_none (t ∷ ts) h = refl

-- the cases of one byte: an empty word, and an empty text
empty_word : (b : Bool) (c : ℕ) (ps : List Text) → begins ([] ∷ []) (cond b ([] ∷ ps) (on_first c ps)) ≡ b
unfolding begins same lowered
empty_word true c ps = refl
empty_word false c [] = refl
empty_word false c (p ∷ ps) = refl

empty_text : (b : Bool) (w : ℕ) (ts : List Text) → Some-parts ts → begins (cond b ([] ∷ ts) (on_first w ts)) ([] ∷ []) ≡ false
unfolding begins same lowered
empty_text true w ts h = begins_none ts h
empty_text false w [] h = refl
empty_text false w (t ∷ ts) h = refl

and_no : (b : Bool) → (b && false) ≡ false
and_no true = refl
and_no false = refl

and_assoc : (a b c : Bool) → ((a && b) && c) ≡ (a && (b && c))
and_assoc true b c = refl
and_assoc false b c = refl

-- a slash on both sides, on one only, and on neither
both_slash : (ts ps : List Text) → begins ([] ∷ ts) ([] ∷ ps) ≡ begins ts ps
unfolding begins same lowered
both_slash ts ps = refl

slash_left : (c : ℕ) (ts ps : List Text) → begins ([] ∷ ts) (on_first c ps) ≡ false
unfolding begins same lowered
slash_left c ts [] = refl
slash_left c ts (p ∷ ps) = refl

slash_right : (w : ℕ) (ts ps : List Text) → begins (on_first w ts) ([] ∷ ps) ≡ false
unfolding begins same lowered
slash_right w [] ps = refl
slash_right w (t ∷ ts) ps = refl

no_slash : (w c : ℕ) (ts ps : List Text) → Some-parts ts → Some-parts ps → begins (on_first w ts) (on_first c ps) ≡ (eqb w (lower c) && begins ts ps)
unfolding begins same lowered
no_slash w c [] ps g h = absurd g
no_slash w c (t ∷ ts) [] g h = absurd h
no_slash w c (t ∷ ts) (p ∷ ps) g h = and_assoc (eqb w (lower c)) (same t (lowered p)) (begins ts ps)

-- a slash is no letter
slash_lower : (c : ℕ) → lower c ≡ 47 → c ≡ 47
slash_lower c e = grind (arith, nat_tests)

one_byte : (a b : Bool) (w c : ℕ) (ts ps : List Text) → eqb w 47 ≡ a → eqb c 47 ≡ b → Some-parts ts → Some-parts ps → begins (cond a ([] ∷ ts) (on_first w ts)) (cond b ([] ∷ ps) (on_first c ps)) ≡ (eqb w (lower c) && begins ts ps)
one_byte true true w c ts ps e f g h = both_slash ts ps ∙ ap (λ b. b && begins ts ps) (sym (eq-eqb w (lower c) (eqb-true w 47 e ∙ sym (ap lower (eqb-true c 47 f)))))
one_byte true false w c ts ps e f g h = slash_left c ts ps ∙ sym (and_left _ _ (ne_eqb w (lower c) (λ k. eqb-false c 47 f (slash_lower c (sym k ∙ eqb-true w 47 e)))))
one_byte false true w c ts ps e f g h = slash_right w ts ps ∙ sym (and_left _ _ (ne_eqb w (lower c) (λ k. eqb-false w 47 e (k ∙ ap lower (eqb-true c 47 f)))))
one_byte false false w c ts ps e f g h = no_slash w c ts ps g h

-- comparing part by part is comparing the texts
pub parts_text_so : (ws cs : Text) → begins (split 47 ws) (split 47 cs) ≡ goes_on ws cs
unfolding goes_on split begins same lowered
parts_text_so [] [] = refl
parts_text_so [] (c ∷ cs) = empty_word (eqb c 47) c (split 47 cs)
parts_text_so (w ∷ ws) [] = empty_text (eqb w 47) w (split 47 ws) (split_some 47 ws)
parts_text_so (w ∷ ws) (c ∷ cs) =
    one_byte (eqb w 47) (eqb c 47) w c (split 47 ws) (split 47 cs) refl refl (split_some 47 ws) (split_some 47 cs) ∙ ap (λ b. eqb w (lower c) && b) (parts_text_so ws cs)

-- two texts of one length agree, the first in lower case
abbrev pub agreed : Text → Text → Bool
agreed front ws = list_all (λ p. eqb p.1 (lower p.0)) (zip front ws)

end_one : (rest : Text) → goes_on [] rest ≡ ends_part rest
unfolding goes_on
end_one [] = refl
end_one (c ∷ cs) = refl

goes_both : (ws front rest : Text) → length front ≡ length ws → goes_on ws (front ++ rest) ≡ (agreed front ws && ends_part rest)
unfolding goes_on
goes_both [] [] rest h = end_one rest
goes_both [] (c ∷ front) rest h = absurd (omega arith)
goes_both (w ∷ ws) [] rest h = absurd (omega arith)
goes_both (w ∷ ws) (c ∷ front) rest h = ap (λ b. eqb w (lower c) && b) (goes_both ws front rest (omega arith)) ∙ sym (and_assoc (eqb w (lower c)) (agreed front ws) (ends_part rest))

goes_short : (ws cs : Text) → length cs < length ws → goes_on ws cs ≡ false
unfolding goes_on
goes_short [] cs h = absurd (omega arith)
goes_short (w ∷ ws) [] h = refl
goes_short (w ∷ ws) (c ∷ cs) h = ap (λ b. eqb w (lower c) && b) (goes_short ws cs (omega arith)) ∙ and_no (eqb w (lower c))

-- a path that is cut where the parts of a rule end, and one that is shorter than they are
pub begins_cut : (ws front rest path : Text) → front ≡ take (length ws) path → rest ≡ drop (length ws) path → length front ≡ length ws → begins (split 47 ws) (split 47 path) ≡ (agreed front ws && ends_part rest)
begins_cut ws front rest path e f h =
    ap (λ t. begins (split 47 ws) (split 47 t)) (sym (ap₂ (λ s t. s ++ t) e f ∙ take-append-drop (length ws) path)) ∙ parts_text_so ws (front ++ rest) ∙ goes_both ws front rest h

pub begins_short : (ws cs : Text) → length cs < length ws → begins (split 47 ws) (split 47 cs) ≡ false
begins_short ws cs h = parts_text_so ws cs ∙ goes_short ws cs h

-- a rule's path without parts, one with some where the path has some too, and where it has none
pub parts_none : (start path : Text) → length start ≤ 1 → begins (parts_of start) (parts_of path) ≡ true
unfolding begins
parts_none start path h = ap (λ ts. begins ts (parts_of path)) (cond-true _ _ _ (le-leb (length start) 1 h))

pub parts_some : (start path : Text) → 1 < length start → 1 < length path → begins (parts_of start) (parts_of path) ≡ begins (split 47 (drop 1 start)) (split 47 (drop 1 path))
parts_some start path h k = ap₂ begins (cond-false _ _ _ (lt-leb (length start) 1 h)) (cond-false _ _ _ (lt-leb (length path) 1 k))

pub parts_lack : (start path : Text) → 1 < length start → length path ≤ 1 → begins (parts_of start) (parts_of path) ≡ false
parts_lack start path h k =
    ap₂ begins (cond-false _ _ _ (lt-leb (length start) 1 h)) (cond-true _ _ _ (le-leb (length path) 1 k)) ∙ begins_none (split 47 (drop 1 start)) (split_some 47 (drop 1 start))
