-- How the bytes of a payload come one after the other, and what they spell together.
use Rattle.std.proofs.Common.{◌≡◌, ℕ, suc, ◌≤◌, Bool, true, false, cond, eqb, List, [], ◌∷◌, ◌++◌, length, is_some, Some, None, Option, Bor, MatchOption, not, sym, refl, ap, ◌∙◌, arith}
use Rattle.std.specs.Bool.{then_some}
use Rattle.std.specs.Option.{option_map}
use Rattle.std.specs.List.{list_all}
use Rattle.std.proofs.lemmas.Bool.{eqb-true}
use Rattle.text.specs.Bytes.{Text, between}
use Rattle.text.specs.Numerals.{hex_pair}
use Rattle.script.specs.Payloads.{Mode, Move, To, Put, Bad, Start, Whole, Plain, Escape, First, Closed, put_of, escaped, first_pair, first_escaped, first_quoted, closed, has_ended, move_of, moved, brought, ends, spelled_from, bytes_from, bytes_of}
use Rattle.script.specs.declared.payload.Payload.{Payload}
use Rattle.script.specs.declared.payload.Payload.TheVariants.{Hex, Quoted}

-- what the bytes spell together: nothing where one is misspelled
abbrev pub whole : List (Option ℕ) → Option Text
whole [] = Some []
whole (None ∷ os) = None
whole (Some b ∷ os) = option_map (λ t. b ∷ t) (whole os)

whole_end : (b : Bool) → whole (cond b [] (None ∷ [])) ≡ cond b (Some []) None
whole_end true = refl
whole_end false = refl

whole_move : (v : Move) (f : Mode → List (Option ℕ)) (g : Mode → Option Text) → ((m : Mode) → whole (f m) ≡ g m) → whole (brought v f) ≡ moved v g
whole_move (To m) f g h = h m
whole_move (Put b m) f g h = ap (option_map (λ t. b ∷ t)) (h m)
whole_move Bad f g h = refl

pub whole_spelled : (m : Mode) (t : Text) → whole (bytes_from m t) ≡ spelled_from m t
unfolding bytes_from spelled_from
whole_spelled m [] = whole_end (ends m)
whole_spelled m (c ∷ cs) = whole_move (move_of m c) (λ n. bytes_from n cs) (λ n. spelled_from n cs) (λ n. whole_spelled n cs)

-- a check passes where each byte is well spelled
kept : (b : ℕ) (o : Option Text) → is_some (option_map (λ t. b ∷ t) o) ≡ is_some o
kept b None = refl
kept b (Some t) = refl

pub all_spelled : (os : List (Option ℕ)) → list_all is_some os ≡ is_some (whole os)
all_spelled [] = refl
all_spelled (None ∷ os) = refl
all_spelled (Some b ∷ os) = all_spelled os ∙ sym (kept b (whole os))

-- what is in front in digits and in quotes, and what comes behind it from a mode on
abbrev pub Front : Option (ℕ × Text) → List (Option ℕ) → Mode → Type 0
Front o os m = MatchOption o (os ≡ None ∷ []) (λ p. os ≡ Some p.0 ∷ bytes_from m p.1)

front : (v : Option ℕ) (m : Mode) (t : Text) → Front (option_map (λ b. (b, t)) v) (brought (put_of v m) (λ n. bytes_from n t)) m
front None m t = refl
front (Some b) m t = refl

pub digits_front : (t : Text) → Front (first_pair t) (bytes_from Start t) Whole
unfolding bytes_from
digits_front [] = refl
digits_front (x ∷ []) = refl
digits_front (x ∷ y ∷ t) = front (hex_pair x y) Whole t

coded_front : (t : Text) → Front (first_pair t) (bytes_from First t) Plain
unfolding bytes_from
coded_front [] = refl
coded_front (x ∷ []) = refl
coded_front (x ∷ y ∷ t) = front (hex_pair x y) Plain t

after_slash : (a : Bool) (v : Option ℕ) (t : Text) → Front (cond a (first_pair t) (option_map (λ b. (b, t)) v)) (brought (cond a (To First) (put_of v Plain)) (λ n. bytes_from n t)) Plain
after_slash true v t = coded_front t
after_slash false v t = front v Plain t

escaped_front : (t : Text) → Front (first_escaped t) (bytes_from Escape t) Plain
unfolding bytes_from
escaped_front [] = refl
escaped_front (c ∷ t) = after_slash (eqb c 120) (escaped c) t

plain_front : (a b : Bool) (c : ℕ) (t : Text) → Front (cond a (first_escaped t) (cond b (Some (c, t)) None)) (brought (cond a (To Escape) (cond b (Put c Plain) Bad)) (λ n. bytes_from n t)) Plain
plain_front true b c t = escaped_front t
plain_front false true c t = refl
plain_front false false c t = refl

-- the same where something may be asked of a text that is misspelled
abbrev pub FrontIf : Type 0 → Option (ℕ × Text) → List (Option ℕ) → Mode → Type 0
FrontIf X o os m = MatchOption o (X → os ≡ None ∷ []) (λ p. os ≡ Some p.0 ∷ bytes_from m p.1)

always : (X : Type 0) (o : Option (ℕ × Text)) (os : List (Option ℕ)) (m : Mode) → Front o os m → FrontIf X o os m
always X None os m h = λ _. h
always X (Some p) os m h = h

in_quotes : (X : Type 0) (a b d : Bool) (c : ℕ) (t : Text) → (X → a ≡ true → bytes_from Closed t ≡ None ∷ []) → FrontIf X (cond a None (cond b (first_escaped t) (cond d (Some (c, t)) None))) (brought (cond a (To Closed) (cond b (To Escape) (cond d (Put c Plain) Bad))) (λ n. bytes_from n t)) Plain
in_quotes X true b d c t h = λ x. h x refl
in_quotes X false b d c t h = always X _ _ Plain (plain_front b d c t)

pub quotes_front : (t : Text) → FrontIf (closed t ≡ false) (first_quoted t) (bytes_from Plain t) Plain
unfolding bytes_from
quotes_front [] = λ _. refl
quotes_front (c ∷ []) = in_quotes _ (eqb c 34) (eqb c 92) (between 32 126 c) c [] (λ x e. cc)
quotes_front (c ∷ d ∷ t) = in_quotes _ (eqb c 34) (eqb c 92) (between 32 126 c) c (d ∷ t) (λ x e. refl)

-- nothing follows the closing quote
pub quotes_end : (t : Text) → closed t ≡ true → bytes_from Plain t ≡ []
unfolding bytes_from
quotes_end [] h = cc
quotes_end (c ∷ []) h = rw h refl
quotes_end (c ∷ d ∷ t) h = cc

pub ended : (p : Payload) → has_ended p ≡ true → bytes_of (Some p) ≡ []
ended (Hex t) h = cc
ended (Quoted t) h = quotes_end t.now h

-- and nothing the last digits
none_behind : (t : Text) → true ≡ eqb (length t) 0 → bytes_from Whole t ≡ []
unfolding bytes_from
none_behind [] e = refl
none_behind (c ∷ t) e = let z = eqb-true (length (c ∷ t)) 0 (sym e) in absurd (omega arith)

some_behind : (t : Text) → false ≡ eqb (length t) 0 → bytes_from Start t ≡ bytes_from Whole t
unfolding bytes_from
some_behind [] e = cc
some_behind (c ∷ t) e = refl

pub digits_behind : (r : Bor Text) (b : Bool) → b ≡ eqb (length r.now) 0 → bytes_of (then_some (not b) (Hex r)) ≡ bytes_from Whole r.now
digits_behind r true e = sym (none_behind r.now e)
digits_behind r false e = some_behind r.now e

-- a payload with what is in front in it
pub hex_first : (p : Payload) (d : Bor Text) (o : Option (ℕ × Text)) → p ≡ Hex d → o ≡ first_pair d.now → Front o (bytes_of (Some p)) Whole
hex_first p d o e f = rw (e, f) (digits_front d.now)

pub quoted_first : (p : Payload) (t : Bor Text) (o : Option (ℕ × Text)) → p ≡ Quoted t → o ≡ first_quoted t.now → FrontIf (has_ended p ≡ false) o (bytes_of (Some p)) Plain
quoted_first p t o e f = rw (e, f) (quotes_front t.now)

-- what was spelled, in front of what is still to come
abbrev pub joined : Text → Option Text → Option Text
joined t o = option_map (λ u. t ++ u) o

pub joined_none : (o : Option Text) → joined [] o ≡ o
joined_none None = refl
joined_none (Some t) = refl

-- each byte takes at least one to spell
abbrev pub puts : List (Option ℕ) → ℕ
puts [] = 0
puts (None ∷ os) = puts os
puts (Some b ∷ os) = suc (puts os)

puts_end : (b : Bool) → puts (cond b [] (None ∷ [])) ≡ 0
puts_end true = refl
puts_end false = refl

puts_move : (v : Move) (f : Mode → List (Option ℕ)) (n : ℕ) → ((m : Mode) → puts (f m) ≤ n) → puts (brought v f) ≤ suc n
puts_move (To m) f n h = let k = h m in omega arith
puts_move (Put b m) f n h = let k = h m in omega arith
puts_move Bad f n h = omega arith

pub puts_few : (m : Mode) (t : Text) → puts (bytes_from m t) ≤ length t
unfolding bytes_from
puts_few m [] = let e = puts_end (ends m) in omega arith
puts_few m (c ∷ cs) = puts_move (move_of m c) (λ n. bytes_from n cs) (length cs) (λ n. puts_few n cs)
