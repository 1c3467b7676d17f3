-- How a path is read on: token by token, and part by part.
use Rattle.std.proofs.Common.{◌≡◌, ℕ, ◌+◌, ◌<◌, ◌≤◌, Bool, true, false, cond, eqb, ltb, List, [], ◌∷◌, length, drop, Some, None, sym, refl, ap, ◌∙◌, arith}
use Rattle.std.proofs.lemmas.List.{length-drop}
use Rattle.std.proofs.lemmas.Bool.{eqb-true, ne_eqb, lt-ltb, cond-true, cond-false}
use Rattle.text.specs.Bytes.{Text}
use Rattle.text.specs.Marks.{split, on_first}
use Rattle.request.specs.Targets.{Stand, free, percent, half, tokens_at, tokens, token_in, first_token, width, good_token, bad_token, bad_part, bad_part_in}
use Rattle.request.specs.declared.target.Token.{Token}
use Rattle.request.specs.declared.target.Token.TheVariants.{Byte}

-- a % with fewer than two bytes behind it is read alone
half_read : (b : Bool) (a : ℕ) → eqb a 37 ≡ b → Byte a ∷ [] ≡ cond b (Byte 37 ∷ []) (Byte a ∷ [])
half_read true a e = ap (λ b. Byte b ∷ []) (eqb-true a 37 e)
half_read false a e = refl

-- the first token, and then the others
first_is : (b : Bool) (c : ℕ) (cs : Text) → eqb c 37 ≡ b → tokens (c ∷ cs) ≡ token_in (c ∷ cs) ∷ tokens (drop (width (token_in (c ∷ cs))) (c ∷ cs))
unfolding tokens_at
first_is false c cs e = rw e
first_is true c [] e = rw e (ap (λ b. Byte b ∷ []) (sym (eqb-true c 37 e)))
first_is true c (a ∷ []) e = rw e (ap (λ b. Byte b ∷ Byte a ∷ []) (sym (eqb-true c 37 e)) ∙ ap (λ ts. Byte c ∷ ts) (half_read (eqb a 37) a refl))
first_is true c (a ∷ b ∷ cs) e = let long : ltb 2 (length (c ∷ a ∷ b ∷ cs)) ≡ true = lt-ltb 2 (length (c ∷ a ∷ b ∷ cs)) (omega arith) in rw (e, long)

some_byte : (c : ℕ) (cs : Text) → eqb (length (c ∷ cs)) 0 ≡ false
some_byte c cs = ne_eqb (length (c ∷ cs)) 0 (λ e. absurd (omega arith))

pub none_first : (t : Text) → None ≡ first_token t → tokens t ≡ []
unfolding tokens_at
none_first [] e = refl
none_first (c ∷ cs) e = let some = some_byte c cs in cc

pub some_first : (t : Text) (k : Token) → Some k ≡ first_token t → tokens t ≡ k ∷ tokens (drop (width k) t)
some_first [] k e = cc
some_first (c ∷ cs) k e =
    let some = some_byte c cs in
    let is : k ≡ token_in (c ∷ cs) = cc in
    first_is (eqb c 37) c cs refl ∙ ap (λ j. j ∷ tokens (drop (width j) (c ∷ cs))) (sym is)

-- how many bytes tokens have as sent: as many as the text that they were read from
unfoldable pub widths : List Token → ℕ
widths [] = 0
widths (t ∷ ts) = width t + widths ts

abbrev seen : Stand → ℕ
seen free = 0
seen percent = 1
seen (half a) = 2

widths_byte : (b : Bool) (c : ℕ) (cs : Text) → widths (tokens_at percent cs) ≡ 1 + length cs → widths (tokens_at free cs) ≡ length cs → widths (cond b (tokens_at percent cs) (Byte c ∷ tokens_at free cs)) ≡ 0 + length (c ∷ cs)
unfolding widths
widths_byte true c cs e f = omega arith
widths_byte false c cs e f = omega arith

widths_at : (s : Stand) (t : Text) → widths (tokens_at s t) ≡ seen s + length t
unfolding tokens_at widths
widths_at free [] = refl
widths_at free (c ∷ cs) = widths_byte (eqb c 37) c cs (widths_at percent cs) (omega (arith, widths_at free cs))
widths_at percent [] = refl
widths_at percent (c ∷ cs) = omega (arith, widths_at (half c) cs)
widths_at (half a) [] = refl
widths_at (half a) (c ∷ cs) = omega (arith, widths_at free cs)

pub widths_all : (t : Text) → widths (tokens t) ≡ length t
widths_all t = omega (arith, widths_at free t)

-- the tokens that are left decide what all decide, and lie inside the path
pub record Left (path : Text) (at : ℕ) (ts : List Token) : Type 0 where
  pub decide : bad_token at ts ≡ bad_token 0 (tokens path)
  pub within : at + widths ts ≡ length path

pub left_all : (path : Text) → Left path 0 (tokens path)
left_all path = record { decide = refl; within = omega (arith, widths_all path) }

pub left_good : (path : Text) (at n : ℕ) (k : Token) (ts us : List Token) → Left path at ts → ts ≡ k ∷ us → true ≡ good_token k → n ≡ width k → Left path (at + n) us
unfolding bad_token widths
left_good path at n k ts us h e good w = record {
  decide = sym (ap (bad_token at) e ∙ cond-true _ _ _ (sym good) ∙ ap (λ m. bad_token (at + m) us) (sym w)) ∙ h.decide;
  within = omega (arith, h.within, ap widths e);
}

pub left_bad : (path : Text) (at : ℕ) (k : Token) (ts us : List Token) → Left path at ts → ts ≡ k ∷ us → false ≡ good_token k → Some at ≡ bad_token 0 (tokens path)
unfolding bad_token
left_bad path at k ts us h e bad = sym (ap (bad_token at) e ∙ cond-false _ _ _ (sym bad)) ∙ h.decide

pub left_none : (path : Text) (at : ℕ) (ts : List Token) → Left path at ts → ts ≡ [] → None ≡ bad_token 0 (tokens path)
unfolding bad_token
left_none path at ts h e = sym (ap (bad_token at) e) ∙ h.decide

-- how many bytes pieces have with a mark behind each: one more than the text that they were cut from
unfoldable pub sizes : List Text → ℕ
sizes [] = 0
sizes (p ∷ ps) = length p + 1 + sizes ps

sizes_on : (c : ℕ) (ps : List Text) → 0 < sizes ps → sizes (on_first c ps) ≡ sizes ps + 1
unfolding sizes
sizes_on c [] h = absurd (omega arith)
sizes_on c (p ∷ ps) h = omega arith

sizes_one : (b : Bool) (m c : ℕ) (cs : Text) → sizes (split m cs) ≡ length cs + 1 → sizes (cond b ([] ∷ split m cs) (on_first c (split m cs))) ≡ length (c ∷ cs) + 1
unfolding sizes
sizes_one true m c cs e = omega arith
sizes_one false m c cs e = omega (arith, sizes_on c (split m cs) (omega arith))

sizes_split : (m : ℕ) (t : Text) → sizes (split m t) ≡ length t + 1
unfolding split sizes
sizes_split m [] = refl
sizes_split m (c ∷ cs) = sizes_one (eqb c m) m c cs (sizes_split m cs)

-- the parts that are left decide what all decide, and lie inside the path
pub record LeftParts (path : Text) (at : ℕ) (ps : List Text) : Type 0 where
  pub decide : bad_part_in at ps ≡ bad_part_in 1 (split 47 (drop 1 path))
  pub within : at + sizes ps ≡ length path + 1

pub parts_all : (path : Text) (ps : List Text) → 1 < length path → ps ≡ split 47 (drop 1 path) → LeftParts path 1 ps
parts_all path ps h e = record {
  decide = ap (bad_part_in 1) e;
  within = omega (arith, ap sizes e, sizes_split 47 (drop 1 path), length-drop 1 path);
}

-- the next part lies inside the path
pub part_within : (path : Text) (at : ℕ) (p : Text) (ps qs : List Text) → LeftParts path at ps → ps ≡ p ∷ qs → at + length p ≤ length path
unfolding sizes
part_within path at p ps qs h e = omega (arith, h.within, ap sizes e)

pub parts_good : (path : Text) (at : ℕ) (p : Text) (ps qs : List Text) → LeftParts path at ps → ps ≡ p ∷ qs → false ≡ bad_part p → LeftParts path (at + (length p + 1)) qs
unfolding bad_part_in sizes
parts_good path at p ps qs h e good = record {
  decide = sym (ap (bad_part_in at) e ∙ cond-false _ _ _ (sym good)) ∙ h.decide;
  within = omega (arith, h.within, ap sizes e);
}

pub parts_bad : (path : Text) (at : ℕ) (p : Text) (ps qs : List Text) → LeftParts path at ps → ps ≡ p ∷ qs → true ≡ bad_part p → Some (at + length p) ≡ bad_part_in 1 (split 47 (drop 1 path))
unfolding bad_part_in
parts_bad path at p ps qs h e bad = sym (ap (bad_part_in at) e ∙ cond-true _ _ _ (sym bad)) ∙ h.decide

pub parts_none : (path : Text) (at : ℕ) (ps : List Text) → LeftParts path at ps → ps ≡ [] → None ≡ bad_part_in 1 (split 47 (drop 1 path))
unfolding bad_part_in
parts_none path at ps h e = sym (ap (bad_part_in at) e) ∙ h.decide
