-- How a path is undone in place: what is written, and what is left to be read.
use Rattle.std.proofs.Common.{◌≡◌, ℕ, ◌+◌, ◌-◌, ◌≤◌, Bool, true, false, cond, [], ◌∷◌, ◌++◌, length, take, drop, Some, None, Option, sym, refl, ap, ◌∙◌, append_assoc, arith}
use borrow.Rule.Slice.PartMut.{put_mid}
use Rattle.std.proofs.lemmas.List.{append-nil, length-append, drop_at, drop-drop, take_rest}
use Rattle.text.specs.Bytes.{Text, plain_byte, Wrote}
use Rattle.text.specs.Numerals.{hex_pair}
use Rattle.text.proofs.Places.{length_placed, placed_fits, wrote_more, wrote_as}
use Rattle.request.specs.Targets.{tokens, first_token, width, capital, spell_code, spell, spelled, undone_path}
use Rattle.request.specs.declared.target.Token.{Token}
use Rattle.request.specs.declared.target.Token.TheVariants.{Byte, Code}
use Rattle.request.proofs.Paths.{none_first, some_first}

-- a token is never written longer than it was
code_short : (a b : ℕ) (o : Option ℕ) → length (spell_code a b o) ≤ 3
code_short a b None = omega arith
code_short a b (Some v) = plain (plain_byte v)
  where
    plain : (p : Bool) → length (cond p (v ∷ []) (37 ∷ capital a ∷ capital b ∷ [])) ≤ 3
    plain true = omega arith
    plain false = omega arith

spell_short : (t : Token) → length (spell t) ≤ width t
spell_short (Byte c) = omega arith
spell_short (Code a b) = code_short a b (hex_pair a b)

-- What stands in place of the path e where the tokens up to i are read: their canonical forms, and behind them what stood there.
pub record Undone (e v : Text) (at i : ℕ) : Type 0 where
  pub done : Text
  pub wrote : Wrote done e v at
  pub short : length done ≤ i
  pub whole : done ++ spelled (tokens (drop i e)) ≡ undone_path e

module _ (e v : Text) (at i : ℕ) (h : i ≤ length e) (u : Undone e v at i) where
  pub undone_long : length v ≡ length e
  undone_long = ap length u.wrote.holds ∙ length_placed u.done e

  -- what is left to be read is as it was
  left : drop i v ≡ drop i e
  left =
      let k = length u.done in
      let room : k ≤ length e = omega (arith, u.short) in
      let far : k + (i - k) ≡ i = omega (arith, u.short) in
      let behind : drop k v ≡ drop k e = ap (drop k) (u.wrote.holds ∙ placed_fits u.done e room) ∙ drop_at u.done (drop k e) k refl in
      ap (λ j. drop j v) (sym far) ∙ sym (drop-drop (i - k) k v) ∙ ap (drop (i - k)) behind ∙ drop-drop (i - k) k e ∙ ap (λ j. drop j e) far

  first_left : (o : Option Token) → o ≡ first_token (take (length v - i) (drop i v)) → o ≡ first_token (drop i e)
  first_left o is = is ∙ ap first_token (take_rest v i ∙ left)

  module _ (k : Token) (is : Some k ≡ first_token (take (length v - i) (drop i v))) (part : Text) (m : ℕ) (w : Wrote (spell k) (take (length v - at) (drop at v)) part m) where
    pub undone_more : Undone e (put_mid at (length v - at) v part) (at + m) (i + width k)
    unfolding spelled
    undone_more =
        let rest = spelled (tokens (drop (i + width k) e)) in
        let next : tokens (drop i e) ≡ k ∷ tokens (drop (i + width k) e) = some_first (drop i e) k (first_left (Some k) is) ∙ ap (λ ys. k ∷ tokens ys) (drop-drop (width k) i e) in
        record {
          done = u.done ++ spell k;
          wrote = wrote_more u.done (spell k) e v part at m u.wrote w;
          short = simp length-append (omega (arith, spell_short k, u.short));
          whole = append_assoc u.done (spell k) rest ∙ ap (λ ts. u.done ++ spelled ts) (sym next) ∙ u.whole;
        }

  -- the end: all of it is written
  module _ (none : None ≡ first_token (take (length v - i) (drop i v))) where
    all_done : u.done ≡ undone_path e
    unfolding spelled
    all_done = sym (append-nil u.done) ∙ ap (λ ts. u.done ++ spelled ts) (sym (none_first (drop i e) (first_left None none))) ∙ u.whole

    pub undone_all : Wrote (undone_path e) e v at
    undone_all = wrote_as e v at all_done u.wrote

    pub undone_within : length (undone_path e) ≤ length e
    undone_within = omega (arith, ap length all_done, u.short)
