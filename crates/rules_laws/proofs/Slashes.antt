-- Paths cut at slashes: the parts that are found are those that were written.
use Rattle.std.proofs.Common.{◌≡◌, ℕ, suc, ◌+◌, ◌<◌, Bool, not, ◌&&◌, ◌||◌, T, eqb, List, [], ◌∷◌, ◌++◌, length, take, sym, refl, ap, ◌∙◌, subst, append-nil, arith}
use Rattle.std.specs.List.{AllByRecursion}
use Rattle.std.proofs.lemmas.Bool.{cond-false, lt-leb}
use Rattle.std.proofs.lemmas.Bool.Decides.{nat_tests}
use Rattle.text.specs.Bytes.{Text, plain_byte, rule_byte, query_byte, all, nonempty}
use Rattle.text.specs.Marks.{before, split}
use Rattle.text.proofs.Passing.{is_true, and_i, and_l, and_r, differs, all_weaker, all_append, so}
use Rattle.text.proofs.Marking.{split_cut, pieced, cut_at_so}
use Rattle.request.specs.Places.{Piece, Plain, Coded, high_digit, capital_digit, good_pieces, part_text, last_is_dot, good_part, good_parts, parts_text, part_texts, or_root, with_query}
use Rattle.rules.specs.Rules.{parts_of, view_rule, view_rules}
use Rattle.rules_laws.specs.Views.{good_start, good_rules}
use Rattle.rules_laws.specs.Laws.{after_slashes, PartsIn, RuleParts, GoodRules}

-- no slash
abbrev pub not_slash : ℕ → Bool
not_slash c = not (eqb c 47)

-- no question mark
abbrev pub not_mark : ℕ → Bool
not_mark c = not (eqb c 63)

-- parts that are not empty and have no slash
abbrev pub Apart : List Text → Type 0
Apart ts = AllByRecursion (λ t. T (nonempty t) × T (all not_slash t)) ts

-- one part, and a part in front of others
split_one : (t : Text) → T (all not_slash t) → split 47 t ≡ t ∷ []
unfolding all split
split_one [] h = refl
split_one (c ∷ t) h = rw (differs not_slash 47 c refl (and_l (not_slash c) (all not_slash t) h), split_one t (and_r (not_slash c) (all not_slash t) h))

split_parts : (t : Text) (ts : List Text) → T (all not_slash t) → Apart ts → split 47 (t ++ after_slashes ts) ≡ t ∷ ts
unfolding after_slashes
split_parts t [] h g = ap (split 47) (append-nil t) ∙ split_one t h
split_parts t (u ∷ us) h g =
    let rest = u ++ after_slashes us in
    split_cut 47 (t ++ (47 ∷ rest)) ∙ ap (pieced 47 (t ++ (47 ∷ rest))) (cut_at_so 47 not_slash refl t rest h) ∙ ap (λ vs. t ∷ vs) (split_parts u us g.0.1 g.1)

-- a path that is a slash alone, or parts that each follow one, has those parts
pub parts_found : (ts : List Text) → Apart ts → parts_of (or_root (after_slashes ts)) ≡ ts
unfolding after_slashes or_root nonempty
parts_found [] g = refl
parts_found ([] ∷ ts) g = absurd g.0.0
parts_found ((c ∷ t) ∷ ts) g =
    let rest = (c ∷ t) ++ after_slashes ts in
    let long : 1 < length (47 ∷ rest) = omega arith in
    cond-false _ _ _ (lt-leb (length (47 ∷ rest)) 1 long) ∙ split_parts (c ∷ t) ts g.0.1 g.1

-- the parts of a rule: rule bytes are no slashes
start_apart : (ts : List Text) → T (good_start ts) → Apart ts
unfolding good_start
start_apart [] h = tt
start_apart (t ∷ ts) h =
    let one = and_l (nonempty t && all rule_byte t) (good_start ts) h in
    let bytes = all_weaker rule_byte not_slash (λ c k. rw (differs rule_byte 47 c refl k) tt) t (and_r (nonempty t) (all rule_byte t) one) in
    ((and_l (nonempty t) (all rule_byte t) one, bytes), start_apart ts (and_r (nonempty t && all rule_byte t) (good_start ts) h))

pub rule_parts : RuleParts
rule_parts r h = ap parts_of h.joined ∙ parts_found h.parts (start_apart h.parts h.good)

pub rules_good : GoodRules
unfolding good_rules
rules_good [] h = tt
rules_good (r ∷ rs) h =
    let written = h.0 in
    and_i (good_start (view_rule r).start) (good_rules (view_rules rs)) (subst (λ ts. T (good_start ts)) (sym (rule_parts r written)) written.good) (rules_good rs h.1)

-- the bytes of a part: plain ones, and % with two digits that are plain; and those of a path
abbrev pub part_byte : ℕ → Bool
part_byte c = plain_byte c || eqb c 37

abbrev pub path_byte : ℕ → Bool
path_byte c = part_byte c || eqb c 47

plain_part : (c : ℕ) → T (plain_byte c) → T (part_byte c)
plain_part c h = so (plain_byte c) (part_byte c) (λ e. grind (arith, nat_tests)) h

high_part : (c : ℕ) → T (high_digit c) → T (part_byte c)
high_part c h = so (high_digit c) (part_byte c) (λ e. grind (arith, nat_tests)) h

digit_part : (c : ℕ) → T (capital_digit c) → T (part_byte c)
digit_part c h = so (capital_digit c) (part_byte c) (λ e. grind (arith, nat_tests)) h

part_path : (c : ℕ) → T (part_byte c) → T (path_byte c)
part_path c h = so (part_byte c) (path_byte c) (λ e. grind (arith, nat_tests)) h

pub part_bytes : (p : List Piece) → T (good_pieces p) → T (all part_byte (part_text p))
unfolding good_pieces part_text all
part_bytes [] h = tt
part_bytes (Plain c ∷ ps) h = and_i (part_byte c) (all part_byte (part_text ps)) (plain_part c (and_l (plain_byte c) (good_pieces ps) h)) (part_bytes ps (and_r (plain_byte c) (good_pieces ps) h))
part_bytes (Coded a e ∷ ps) h =
    let code = and_l (high_digit a && capital_digit e) (good_pieces ps) h in
    let more = part_bytes ps (and_r (high_digit a && capital_digit e) (good_pieces ps) h) in
    and_i (part_byte a) (part_byte e && all part_byte (part_text ps)) (high_part a (and_l (high_digit a) (capital_digit e) code)) (and_i (part_byte e) (all part_byte (part_text ps)) (digit_part e (and_r (high_digit a) (capital_digit e) code)) more)

-- what a good part is
pub record Good (p : List Piece) : Type 0 where
  pub some : T (nonempty (part_text p))
  pub bytes : T (all part_byte (part_text p))

good : (p : List Piece) → T (good_part p) → Good p
good p h =
    let both = and_l (good_pieces p && nonempty (part_text p)) (not (last_is_dot (part_text p))) h in
    record { some = and_r (good_pieces p) (nonempty (part_text p)) both; bytes = part_bytes p (and_l (good_pieces p) (nonempty (part_text p)) both) }

-- the parts of a good place
parts_apart : (ps : List (List Piece)) → T (good_parts ps) → Apart (part_texts ps)
unfolding good_parts part_texts
parts_apart [] h = tt
parts_apart (p ∷ ps) h =
    let g = good p (and_l (good_part p) (good_parts ps) h) in
    let bytes = all_weaker part_byte not_slash (λ c k. rw (differs part_byte 47 c refl k) tt) (part_text p) g.bytes in
    ((g.some, bytes), parts_apart ps (and_r (good_part p) (good_parts ps) h))

parts_after : (ps : List (List Piece)) → parts_text ps ≡ after_slashes (part_texts ps)
unfolding parts_text part_texts after_slashes
parts_after [] = refl
parts_after (p ∷ ps) = ap (λ t. (47 ∷ part_text p) ++ t) (parts_after ps)

-- and its path, which has no question mark
pub parts_bytes : (ps : List (List Piece)) → T (good_parts ps) → T (all path_byte (parts_text ps))
unfolding good_parts parts_text all
parts_bytes [] h = tt
parts_bytes (p ∷ ps) h =
    let g = good p (and_l (good_part p) (good_parts ps) h) in
    all_append path_byte (part_text p) (parts_text ps) (all_weaker part_byte path_byte part_path (part_text p) g.bytes) (parts_bytes ps (and_r (good_part p) (good_parts ps) h))

pub root_bytes : (t : Text) → T (all path_byte t) → T (all path_byte (or_root t))
unfolding or_root all
root_bytes [] h = tt
root_bytes (c ∷ t) h = h

-- what stands before the first question mark
front : (f r : Text) → T (all not_mark f) → before 63 r ≡ 0 → take (before 63 (f ++ r)) (f ++ r) ≡ f
unfolding all
front [] r h e = ap (λ n. take n r) e
front (c ∷ f) r h e =
    let n = before 63 (f ++ r) in
    let next : 1 + n ≡ suc n = omega arith in
    rw (is_true (not_mark c) (and_l (not_mark c) (all not_mark f) h), next) (ap (λ t. c ∷ t) (front f r (and_r (not_mark c) (all not_mark f) h) e))

pub path_front : (f q : Text) → T (all not_mark f) → take (before 63 (with_query f q)) (with_query f q) ≡ f
unfolding with_query
path_front f [] h = subst (λ t. take (before 63 t) t ≡ f) (append-nil f) (front f [] h refl)
path_front f (c ∷ q) h = front f (63 ∷ c ∷ q) h refl

pub parts_in_target : PartsIn
parts_in_target p h =
    let ps = p.parts in
    let fine = and_l (good_parts ps) (all query_byte p.query) h in
    let close = all_weaker path_byte not_mark (λ c k. rw (differs path_byte 63 c refl k) tt) (or_root (parts_text ps)) (root_bytes (parts_text ps) (parts_bytes ps fine)) in
    ap parts_of (path_front (or_root (parts_text ps)) p.query close ∙ ap or_root (parts_after ps)) ∙ parts_found (part_texts ps) (parts_apart ps fine)
