-- One element of a list, where it stands among the others; and names that are the same but for case.
use Rattle.std.proofs.Common.{◌≡◌, false, T, List, [], ◌∷◌, ◌++◌, map, refl, ap, ◌∙◌, ap₂}
use Rattle.text.specs.Bytes.{Text, lowered, same, same_no_case}
use Rattle.text.proofs.Passing.{is_true, same_is}

-- a list whose images have one among others has that one's origin among the others'
pub record Origin {A B : Type 0} (h : A → B) (xs : List A) (before behind : List B) (y : B) : Type 0 where
  pub front : List A
  pub here : A
  pub back : List A
  pub joined : xs ≡ front ++ (here ∷ back)
  pub fronts : map h front ≡ before
  pub is : h here ≡ y
  pub backs : map h back ≡ behind

pub origin : {A B : Type 0} (h : A → B) (xs : List A) (before behind : List B) (y : B) → map h xs ≡ before ++ (y ∷ behind) → Origin h xs before behind y
origin h [] [] behind y e = cc
origin h [] (b ∷ bs) behind y e = cc
origin h (x ∷ xs) [] behind y e = record { front = []; here = x; back = xs; joined = refl; fronts = refl; is = cc; backs = cc }
origin h (x ∷ xs) (b ∷ bs) behind y e =
    let more : map h xs ≡ bs ++ (y ∷ behind) = cc in
    let first : h x ≡ b = cc in
    let o = origin h xs bs behind y more in
    record { front = x ∷ o.front; here = o.here; back = o.back; joined = ap (λ u. x ∷ u) o.joined; fronts = ap₂ (λ c cs. c ∷ cs) first o.fronts; is = o.is; backs = o.backs }

-- of two names that are not the same, a text is one only
pub one_name : (t a b : Text) → T (same_no_case t a) → same_no_case a b ≡ false → same_no_case t b ≡ false
one_name t a b h e = ap (λ u. same u (lowered b)) (same_is (lowered t) (lowered a) (is_true (same_no_case t a) h)) ∙ e
