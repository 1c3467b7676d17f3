-- What a fair view shows fits a rule's parts exactly where the parts of the place do.
use Rattle.std.proofs.Common.{◌≡◌, ℕ, ◌+◌, Bool, true, false, cond, not, ◌&&◌, ◌||◌, T, ⊎_elim, eqb, List, [], ◌∷◌, sym, refl, ap, ◌∙◌, ap₂, arith, inl}
use Rattle.std.specs.List.{list_any}
use Rattle.std.proofs.lemmas.Bool.{cases_Bool}
use Rattle.std.proofs.lemmas.Bool.Decides.{nat_tests}
use Rattle.text.specs.Bytes.{Text, rule_byte, query_byte, lower, lowered, all, same, nonempty, among}
use Rattle.text.proofs.Passing.{is_true, and_l, and_r, differs}
use Rattle.request.specs.Places.{Piece, Plain, Coded, is_plain, part_text, good_part, good_parts, part_texts, good_place, target_of}
use Rattle.rules.specs.Rules.{Rule, begins, ruling_of, ruled_from, parts_in}
use Rattle.rules.specs.declared.Ruling.{Ruling}
use Rattle.rules_laws.specs.Views.{View, shows, foreign, FairView, untouched, good_start, good_rules}
use Rattle.rules_laws.specs.Laws.{RuledAlike, UntouchedIsFair, JudgedAlike}
use Rattle.rules_laws.proofs.Slashes.{parts_in_target}

-- a byte that no rule has is in lower case none that a rule has
not_rule : (c : ℕ) → foreign c ≡ true → rule_byte (lower c) ≡ false
not_rule c e = grind (arith, nat_tests)

-- texts that differ at the first byte, or behind it
either : (x y first rest : Bool) → T (x || y) → (T x → first ≡ false) → (T y → rest ≡ false) → (first && rest) ≡ false
either true y first rest h f g = rw (f tt) refl
either false y true rest h f g = g h
either false y false rest h f g = refl

-- so a text that has such a byte is in lower case no rule's part
no_part : (t s : Text) → T (all rule_byte t) → T (list_any foreign s) → same t (lowered s) ≡ false
unfolding all same lowered
no_part t [] g h = absurd h
no_part [] (c ∷ s) g h = refl
no_part (d ∷ t) (c ∷ s) g h =
    either (foreign c) (list_any foreign s) (eqb d (lower c)) (same t (lowered s)) h (λ k. differs rule_byte (lower c) d (not_rule c (is_true (foreign c) k)) (and_l (rule_byte d) (all rule_byte t) g))
    (λ k. no_part t s (and_r (rule_byte d) (all rule_byte t) g) k)

-- a part with a code is written with such a byte, the sign of the code
or_later : (a b : Bool) → T b → T (a || b)
or_later true b h = tt
or_later false b h = h

pub coded_text : (p : List Piece) → T (not (is_plain p)) → T (list_any foreign (part_text p))
unfolding is_plain part_text
coded_text [] h = absurd h
coded_text (Plain c ∷ ps) h = or_later (foreign c) (list_any foreign (part_text ps)) (coded_text ps h)
coded_text (Coded a e ∷ ps) h = tt

-- two lists of parts that no good rule tells apart
Alike : List Text → List Text → Type 0
Alike seen written = (ts : List Text) → T (good_start ts) → begins ts seen ≡ begins ts written

-- one part
part_alike : (v : View) → FairView v → (t : Text) → T (all rule_byte t) → (p : List Piece) → T (good_part p) → same t (lowered (v.shown p)) ≡ same t (lowered (part_text p))
part_alike v f t g p h =
    ⊎_elim (λ e. ap (same t) (f.plain p h (rw e tt))) (λ e. no_part t (v.shown p) g (f.coded p h (rw e tt)) ∙ sym (no_part t (part_text p) g (coded_text p (rw e tt)))) (cases_Bool (is_plain p))

parts_alike : (v : View) → FairView v → (ps : List (List Piece)) → T (good_parts ps) → (ts : List Text) → T (good_start ts) → begins ts (shows v ps) ≡ begins ts (part_texts ps)
unfolding shows good_parts part_texts begins good_start
parts_alike v f ps h [] g = refl
parts_alike v f [] h (t ∷ ts) g = refl
parts_alike v f (p ∷ ps) h (t ∷ ts) g =
    let one = and_l (nonempty t && all rule_byte t) (good_start ts) g in
    ap₂ (λ a b. a && b) (part_alike v f t (and_r (nonempty t) (all rule_byte t) one) p (and_l (good_part p) (good_parts ps) h))
    (parts_alike v f ps (and_r (good_part p) (good_parts ps) h) ts (and_r (nonempty t && all rule_byte t) (good_start ts) g))

-- no part, and an empty one
none_alike : (ts : List Text) → T (good_start ts) → begins ts ([] ∷ []) ≡ begins ts []
unfolding begins good_start same lowered nonempty
none_alike [] g = refl
none_alike ([] ∷ ts) g = absurd g
none_alike ((c ∷ t) ∷ ts) g = refl

-- what is seen of a good place, and its parts
module _ (v : View) (f : FairView v) where
  place_alike : (ps : List (List Piece)) (q : Text) → T (good_place (record { parts = ps; query = q })) → Alike (v.see (target_of (record { parts = ps; query = q }))) (part_texts ps)
  unfolding Alike part_texts
  place_alike [] q h ts g =
      let seen = λ (us : List Text). begins ts us in
      ⊎_elim (λ e. ap seen e) (λ e. ap seen e ∙ none_alike ts g) (f.root (record { parts = []; query = q }) h refl)
  place_alike (p ∷ ps) q h ts g =
      ap (λ us. begins ts us) (f.sees (record { parts = p ∷ ps; query = q }) h (λ e. cc)) ∙ parts_alike v f (p ∷ ps) (and_l (good_parts (p ∷ ps)) (all query_byte q) h) ts g

-- rules that can't tell two lists apart rule alike
ruled : (n : ℕ) (us : List Rule) (m : Text) (seen written : List Text) → T (good_rules us) → Alike seen written → ruled_from n us m seen ≡ ruled_from n us m written
unfolding ruled_from good_rules Alike
ruled n [] m seen written g a = refl
ruled n (u ∷ us) m seen written g a =
    ap₂ (λ b r. cond (b && among m u.methods) (ruling_of n u.says) r) (a u.start (and_l (good_start u.start) (good_rules us) g))
    (ruled (n + 1) us m seen written (and_r (good_start u.start) (good_rules us) g) a)

pub ruled_alike : RuledAlike
ruled_alike v f us g m p h =
    ruled 0 us m (v.see (target_of p)) (part_texts p.parts) g (place_alike v f p.parts p.query h) ∙ ap (λ ts. ruled_from 0 us m ts) (sym (parts_in_target p h))

pub judged_alike : (us : List Rule) (m t : Text) (ruling : Ruling) → ruling ≡ ruled_from 0 us m (parts_in t) → JudgedAlike us m t ruling
judged_alike us m t ruling is g p h e v f =
    is ∙ ap (λ s. ruled_from 0 us m (parts_in s)) e ∙ sym (ruled_alike v f us g m p h) ∙ ap (λ s. ruled_from 0 us m (v.see s)) (sym e)

-- the view that does nothing
untouched_shows : (ps : List (List Piece)) → part_texts ps ≡ shows untouched ps
unfolding shows part_texts
untouched_shows [] = refl
untouched_shows (p ∷ ps) = ap (λ ts. part_text p ∷ ts) (untouched_shows ps)

pub untouched_fair : UntouchedIsFair
unfolding part_texts
untouched_fair = record {
  sees = λ p h _. parts_in_target p h ∙ untouched_shows p.parts;
  root = λ p h e. inl (parts_in_target p h ∙ ap part_texts e);
  plain = λ p h e. refl;
  coded = λ p h e. coded_text p e;
}
