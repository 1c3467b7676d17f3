-- Names between commas, fields that are named, and fields that are kept, one at a time.
use Rattle.std.proofs.Common.{◌≡◌, ℕ, suc, ◌≤◌, Bool, true, false, cond, not, ◌||◌, List, [], ◌∷◌, length, map, refl, take, ap, arith}
use Rattle.std.proofs.lemmas.List.{take_all, length-map}
use Rattle.std.specs.List.{filter, list_any}
use Rattle.message.specs.Fields.{Field}
use Rattle.message.specs.Hops.{is_dropped, canonical_of, kept_among, kept_of, held_as, held_all}
use Rattle.message.specs.SentViews.{view_sent_field}
use Rattle.message.specs.declared.sent.Line.{Line}

pub any-map : {X Y : Type 0} (p : Y → Bool) (f : X → Y) (xs : List X) → list_any p (map f xs) ≡ list_any (λ x. p (f x)) xs
any-map p f [] = refl
any-map p f (x ∷ xs) = ap (λ b. p (f x) || b) (any-map p f xs)

-- what is kept, as values: that which passes the test, in canonical form
sent_on : (b : Bool) (l : Line) (ls : List Line) (fs : List Field) → map (λ (k : Line). view_sent_field k.field) ls ≡ fs → map (λ (k : Line). view_sent_field k.field) (cond (not b) (l ∷ ls) ls) ≡ cond b fs (view_sent_field l.field ∷ fs)
sent_on true l ls fs e = e
sent_on false l ls fs e = ap (λ gs. view_sent_field l.field ∷ gs) e

pub kept_is : (all : List Field) (ls : List Line) → map (λ (l : Line). view_sent_field l.field) (filter (λ (l : Line). not (is_dropped all l.field.name.now)) ls) ≡ kept_among all (held_all ls)
unfolding kept_among
kept_is all [] = refl
kept_is all (l ∷ ls) = sent_on (is_dropped all l.field.name.now) l (filter (λ (k : Line). not (is_dropped all k.field.name.now)) ls) (kept_among all (held_all ls)) (kept_is all ls)

-- no more are kept than there are
fewer_by : (b : Bool) (f : Field) (fs : List Field) (n : ℕ) → length fs ≤ n → length (cond b fs (f ∷ fs)) ≤ suc n
fewer_by true f fs n h = omega arith
fewer_by false f fs n h = omega arith

pub fewer : (all fs : List Field) → length (kept_among all fs) ≤ length fs
unfolding kept_among
fewer all [] = omega arith
fewer all (f ∷ fs) = fewer_by (is_dropped all f.name) (canonical_of f) (kept_among all fs) (length fs) (fewer all fs)

pub all_kept : (ls : List Line) (n : ℕ) → length ls ≤ n → take n (kept_of (held_all ls)) ≡ kept_of (held_all ls)
all_kept ls n h =
    let few = fewer (held_all ls) (held_all ls) in
    let long = length-map ls held_as in
    take_all n (kept_of (held_all ls)) (omega arith)
