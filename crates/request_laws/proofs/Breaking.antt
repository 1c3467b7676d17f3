-- Where a text breaks is one place; and what is found in the front of a text is found there whatever follows.
use Rattle.std.proofs.Common.{◌≡◌, ℕ, zero, suc, ◌+◌, ◌<◌, ◌≤◌, Bool, false, [], ◌∷◌, ◌++◌, length, get_or, take, drop, sym, ap, ◌∙◌, subst, ⊎_elim, append_assoc, arith, take-add}
use Rattle.std.specs.List.{prefix_len}
use Rattle.std.proofs.lemmas.List.{length-take-le, take-take, take-append-drop, drop-append-le, drop-take, drop_more, get_or_append_left, get_or-take}
use Rattle.std.proofs.lemmas.Bool.{cases_Bool, cases_lt, cases_order}
use Rattle.text.specs.Bytes.{Text}
use Rattle.message_laws.specs.Breaks.{Breaks}

-- the shorter of two beginnings goes on as the longer does
begins_both : (Good : Text → Type 0) (l : Text) (p q : ℕ) → p < q → q ≤ length l → ((u : Text) → Good (take (p + 1) l ++ u) → p ≡ length l) → (u : Text) → Good (take q l ++ u) → ⊥
begins_both Good l p q less within no_further u good =
    let front : take q l ≡ take (p + 1) l ++ drop (p + 1) (take q l) = sym (take-append-drop (p + 1) (take q l)) ∙ ap (λ t. t ++ drop (p + 1) (take q l)) (take-take (p + 1) q l (omega arith)) in
    let longer : Good (take (p + 1) l ++ (drop (p + 1) (take q l) ++ u)) = subst Good (ap (λ t. t ++ u) front ∙ append_assoc (take (p + 1) l) (drop (p + 1) (take q l)) u) good in
    let end = no_further (drop (p + 1) (take q l) ++ u) longer in
    omega arith

pub one_place : (Good : Text → Type 0) (l : Text) (e f : Bool) (p q : ℕ) → Breaks Good l e p → Breaks Good l f q → p ≡ q
one_place Good l e f p q b c =
    ⊎_elim (λ h. h) (⊎_elim
    (λ h. absurd (begins_both Good l p q h c.within b.no_further c.begins.0 c.begins.1))
    (λ h. absurd (begins_both Good l q p h b.within c.no_further b.begins.0 b.begins.1))) (cases_order p q)

-- the first p bytes can go on, and no more of them
pub record Stops (Good : Text → Type 0) (l : Text) (p : ℕ) : Type 0 where
  pub within : p ≤ length l
  pub begins : (u : Text) × Good (take p l ++ u)
  pub no_further : (u : Text) → Good (take (p + 1) l ++ u) → p ≡ length l

pub breaks_by : {Good : Text → Type 0} {l : Text} {ended : Bool} {p : ℕ} → Stops Good l p → (Good l → ended ≡ false) → Breaks Good l ended p
breaks_by s bad = record { within = s.within; begins = s.begins; no_further = s.no_further; bad = bad }

-- nothing to go on with, or nothing that may go on
pub no_more : (Good : Text → Type 0) (l : Text) (p : ℕ) → p ≤ length l → (p < length l → (u : Text) → Good (take (p + 1) l ++ u) → ⊥) → (u : Text) → Good (take (p + 1) l ++ u) → p ≡ length l
no_more Good l p within f u g = ⊎_elim (λ h. absurd (f h u g)) (λ h. omega arith) (cases_lt p (length l))

-- bytes that stand in the front
pub get_or_front : (n i : ℕ) (l u : Text) → i < n → n ≤ length l → get_or (take n l ++ u) i 0 ≡ get_or l i 0
get_or_front n i l u h k = get_or_append_left (take n l) u 0 i (omega (arith, length-take-le n l k)) ∙ get_or-take n l i 0 h

pub drop_front : (i j : ℕ) (l u : Text) → i + j ≤ length l → drop i (take (i + j) l ++ u) ≡ take j (drop i l) ++ u
drop_front i j l u h = drop-append-le i (take (i + j) l) u (omega (arith, length-take-le (i + j) l h)) ∙ ap (λ t. t ++ u) (drop-take i j l)

-- so many bytes that pass, and then one that does not, within the first n
pub leading_front : (p : ℕ → Bool) (n : ℕ) (l u : Text) → prefix_len p l < n → n ≤ length l → prefix_len p (take n l ++ u) ≡ prefix_len p l
leading_front p zero l u h k = absurd (omega arith)
leading_front p (suc n) [] u h k = absurd (omega arith)
leading_front p (suc n) (c ∷ l) u h k =
    ⊎_elim (λ e. let less : 1 + prefix_len p l < suc n = rw e at h in let more = leading_front p n l u (omega arith) (omega arith) in rw e (omega arith)) (λ e. rw e) (cases_Bool (p c))

-- so many at least
pub leading_least : (p : ℕ → Bool) (n : ℕ) (l u : Text) → n ≤ prefix_len p l → n ≤ prefix_len p (take n l ++ u)
leading_least p zero l u h = omega arith
leading_least p (suc n) [] u h = absurd (omega arith)
leading_least p (suc n) (c ∷ l) u h =
    ⊎_elim (λ e. let less : suc n ≤ 1 + prefix_len p l = rw e at h in let more = leading_least p n l u (omega arith) in rw e (omega arith))
    (λ e. let none : suc n ≤ 0 = rw e at h in absurd (omega arith)) (cases_Bool (p c))

-- a text up to a byte, that byte, and some of what follows
pub take_mark : (m j c : ℕ) (l : Text) → m < length l → get_or l m 0 ≡ c → take (m + 1 + j) l ≡ take m l ++ (c ∷ take j (drop (m + 1) l))
take_mark m j c l h e =
    let d = drop (m + 1) l in
    ap (λ n. take n l) (let k : m + 1 + j ≡ m + suc j = omega arith in k) ∙ take-add m (suc j) l ∙ ap (λ t. take m l ++ take (suc j) t) (drop_more l m 0 h ∙ ap (λ b. b ∷ d) e)
