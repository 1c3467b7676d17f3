-- Responses go through the owners in order: who was given one, who was told, and who waits.
use Rattle.std.proofs.Common.{◌≡◌, ℕ, suc, ◌+◌, ◌<◌, Bool, true, false, cond, ◌&&◌, T, eqb, List, [], ◌∷◌, ◌++◌, length, sym, refl, ap, ◌∙◌, subst, ⊎_elim, append_assoc, append-nil, eq-eqb, arith}
use Rattle.std.specs.List.{Contains}
use Rattle.std.proofs.lemmas.List.Elements.{Contains-push_cases, Contains-append_cases, Contains-append_right}
use Rattle.text.specs.Bytes.{Text}
use Rattle.request.specs.Canonical.{Req}
use Rattle.connection.specs.Model.{Ear, Response, Owner, Sent, Given, Conn, asked, down, gave, Event}
use Rattle.connection_laws.specs.Moments.{Leads}
use Rattle.connection_laws.specs.Laws.{owners_from, owners_of, in_order, OnlyOwners, answered, Everyone, EveryoneServed}
use Rattle.connection_laws.proofs.Kept.{Kept, kept}

-- responses given to owners in order, each with its turn, and the owners that are left then
pub data Serves : List Owner → List Given → List Owner → Type 0 where
  nothing : {os left : List Owner} → os ≡ left → Serves os [] left
  last : {o : Owner} {os left : List Owner} {g : Given} {gs : List Given} → g.to ≡ o → g.response.last ≡ true → Serves os gs left → Serves (o ∷ os) (g ∷ gs) left
  early : {o : Owner} {os left : List Owner} {g : Given} {gs : List Given} → g.to ≡ o → g.response.last ≡ false → Serves (o ∷ os) gs left → Serves (o ∷ os) (g ∷ gs) left

module _ (o : Owner) (left : List Owner) (g : Given) (to : g.to ≡ o) where
  one_more : (b : Bool) → g.response.last ≡ b → Serves (o ∷ left) (g ∷ []) (cond b left (o ∷ left))
  one_more true l = last to l (nothing refl)
  one_more false l = early to l (nothing refl)

  -- a response to the first who is left
  pub serves_push : {os : List Owner} {gs : List Given} {rest : List Owner} → rest ≡ o ∷ left → Serves os gs rest → Serves os (gs ++ (g ∷ [])) (cond g.response.last left (o ∷ left))
  serves_push w (nothing e) = subst (λ os. Serves os (g ∷ []) (cond g.response.last left (o ∷ left))) (sym (e ∙ w)) (one_more g.response.last refl)
  serves_push w (last t l s) = last t l (serves_push w s)
  serves_push w (early t l s) = early t l (serves_push w s)

-- owners behind the others
pub serves_more : (xs : List Owner) {os : List Owner} {gs : List Given} {left : List Owner} → Serves os gs left → Serves (os ++ xs) gs (left ++ xs)
serves_more xs (nothing e) = nothing (ap (λ os. os ++ xs) e)
serves_more xs (last t l s) = last t l (serves_more xs s)
serves_more xs (early t l s) = early t l (serves_more xs s)

pub owners_push : (k : ℕ) (xs : List Sent) (x : Sent) → owners_from k (xs ++ (x ∷ [])) ≡ owners_from k xs ++ (record { client = x.client; number = k + length xs; method = x.request.method } ∷ [])
unfolding owners_from
owners_push k [] x = ap (λ n. record { client = x.client; number = n; method = x.request.method } ∷ []) (omega arith)
owners_push k (y ∷ xs) x =
    ap (λ os. record { client = y.client; number = k; method = y.request.method } ∷ os)
    (owners_push (suc k) xs x ∙ ap (λ n. owners_from (suc k) xs ++ (record { client = x.client; number = n; method = x.request.method } ∷ [])) (omega arith))

-- who was given what, who was told and who waits
pub record InTurn (c : Conn) : Type 0 where
  pub serves : Serves (owners_of c) c.given (c.told ++ c.waiting)
  pub up : c.up ≡ true → c.told ≡ []
  pub down : c.up ≡ false → (c.waiting ≡ []) × (c.part ≡ [])

module _ (c : Conn) (h : InTurn c) where
  turn_ask : (p : ℕ) (q : Req) → c.up ≡ true → InTurn (asked p q c)
  turn_ask p q u =
      let o : Owner = record { client = p; number = length c.sent; method = q.method } in
      let own : owners_of (asked p q c) ≡ owners_of c ++ (o ∷ []) = owners_push 0 c.sent (record { client = p; request = q }) ∙ ap (λ n. owners_of c ++ (record { client = p; number = n; method = q.method } ∷ [])) (omega arith) in
      record {
        serves = subst (λ os. Serves os c.given (c.told ++ (c.waiting ++ (o ∷ [])))) (sym own) (subst (Serves (owners_of c ++ (o ∷ [])) c.given) (append_assoc c.told c.waiting (o ∷ [])) (serves_more (o ∷ []) h.serves));
        up = h.up;
        down = λ d. cc;
      }

  turn_gift : (o : Owner) (os : List Owner) (a : Response) (rest : Text) → c.up ≡ true → c.waiting ≡ o ∷ os → InTurn (gave o a os rest c)
  turn_gift o os a rest u w =
      let none = h.up u in
      let left : c.told ++ c.waiting ≡ o ∷ os = ap (λ ts. ts ++ c.waiting) none ∙ w in
      let g : Given = record { to = o; from = c.used; response = a } in
      record {
        serves = subst (λ ts. Serves (owners_of c) (c.given ++ (g ∷ [])) (ts ++ cond a.last os (o ∷ os))) (sym none) (serves_push o os g refl left h.serves);
        up = h.up;
        down = λ d. cc;
      }

  turn_fall : c.up ≡ true → InTurn (down c)
  turn_fall u = record {
    serves = subst (Serves (owners_of c) c.given) (ap (λ ts. ts ++ c.waiting) (h.up u) ∙ sym (append-nil c.waiting)) h.serves;
    up = λ d. cc;
    down = λ d. (refl, refl);
  }

pub in_turn : (e : Ear) → Kept e (λ xs c. InTurn c)
unfolding owners_from
in_turn e = record {
  at_start = record { serves = nothing refl; up = λ u. refl; down = λ d. (refl, refl) };
  at_ask = λ xs p q c l r n u m h. turn_ask c h p q u;
  at_refusal = λ xs p q c l r n u h. h;
  at_say = λ xs s c l r n u h. record { serves = h.serves; up = h.up; down = λ d. cc };
  at_deaf = λ xs s c l r n u h. h;
  at_gift = λ xs c o os a rest l u w f h. turn_gift c h o os a rest u w;
  at_fall = λ xs c l u f h. turn_fall c h u;
}

pub turns : (e : Ear) (vs : List Event) (c : Conn) → Leads e vs c → InTurn c
turns e vs c l = kept e (λ xs c. InTurn c) (in_turn e) l

-- the owners in order are those who were given a last response, and those who are left
answered_first : {os : List Owner} {gs : List Given} {left : List Owner} → Serves os gs left → os ≡ answered gs ++ left
unfolding answered
answered_first (nothing e) = e
answered_first (last {o = o} t l s) = rw (l, t) (ap (λ os. o ∷ os) (answered_first s))
answered_first (early l2 l s) = rw l (answered_first s)

everyone : (c : Conn) → InTurn c → Everyone c
everyone c h = record { one_of_three = answered_first h.serves; up_tells_none = h.up; down_has_none = h.down }

pub everyone_served : EveryoneServed
everyone_served e st vs c l = everyone c (turns e vs c l)

-- numbers, from k on
numbered : ℕ → List Owner → Type 0
numbered k [] = Unit {0}
numbered k (o ∷ os) = (o.number ≡ k) × numbered (suc k) os

owners_numbered : (k : ℕ) (xs : List Sent) → numbered k (owners_from k xs)
unfolding numbered owners_from
owners_numbered k [] = tt
owners_numbered k (x ∷ xs) = (refl, owners_numbered (suc k) xs)

both : (a b : Bool) → a ≡ true → T b → T (a && b)
both true b h t = t
both false b h t = cc

order_served : (k : ℕ) {os : List Owner} {gs : List Given} {left : List Owner} → numbered k os → Serves os gs left → T (in_order k gs)
unfolding numbered in_order
order_served k n (nothing e) = tt
order_served k n (last {g = g} {gs = gs} t l s) =
    both (eqb g.to.number k) (in_order (cond g.response.last (suc k) k) gs) (eq-eqb _ _ (ap (λ (o : Owner). o.number) t ∙ n.0)) (rw l (order_served (suc k) n.1 s))
order_served k n (early {g = g} {gs = gs} t l s) =
    both (eqb g.to.number k) (in_order (cond g.response.last (suc k) k) gs) (eq-eqb _ _ (ap (λ (o : Owner). o.number) t ∙ n.0)) (rw l (order_served k n s))

-- what a list contains
module _ {A : Type 0} where
  contains_none : {P : Type 0} (x : A) → Contains [] x → P
  contains_none x h = let lt = h.1 in absurd (omega arith)

  pub contains_one : (y x : A) → Contains (y ∷ []) x → y ≡ x
  contains_one y x h = ⊎_elim (λ n. contains_none x n) (λ e. e) (Contains-push_cases [] y x h)

  pub contains_first : (y : A) (xs : List A) → Contains (y ∷ xs) y
  contains_first y xs = (0, omega arith, refl)

  pub contains_behind : (y : A) (xs : List A) (x : A) → Contains xs x → Contains (y ∷ xs) x
  contains_behind y xs x h = Contains-append_right (y ∷ []) xs x h

  pub contains_cons : {P : Type 0} (y : A) (xs : List A) (x : A) → (y ≡ x → P) → (Contains xs x → P) → Contains (y ∷ xs) x → P
  contains_cons y xs x f g h = ⊎_elim (λ n. f (contains_one y x n)) g (Contains-append_cases (y ∷ []) xs x h)

pub served_owners : {os : List Owner} {gs : List Given} {left : List Owner} → Serves os gs left → (x : Given) → Contains gs x → Contains os x.to
served_owners (nothing e) x m = contains_none x m
served_owners (last {o = o} {os = os} {g = g} {gs = gs} t l s) x m =
    contains_cons g gs x (λ same. subst (Contains (o ∷ os)) (sym t ∙ ap (λ (y : Given). y.to) same) (contains_first o os)) (λ n. contains_behind o os x.to (served_owners s x n)) m
served_owners (early {o = o} {os = os} {g = g} {gs = gs} t l s) x m =
    contains_cons g gs x (λ same. subst (Contains (o ∷ os)) (sym t ∙ ap (λ (y : Given). y.to) same) (contains_first o os)) (λ n. served_owners s x n) m

-- those who are left are owners too
pub left_owners : {os : List Owner} {gs : List Given} {left : List Owner} → Serves os gs left → (x : Owner) → Contains left x → Contains os x
left_owners (nothing e) x m = subst (λ ws. Contains ws x) (sym e) m
left_owners (last {o = o} {os = os} t l s) x m = contains_behind o os x (left_owners s x m)
left_owners (early t l s) x m = left_owners s x m

below : (k : ℕ) (xs : List Sent) (o : Owner) → Contains (owners_from k xs) o → o.number < k + length xs
unfolding owners_from
below k [] o m = contains_none o m
below k (x ∷ xs) o m =
    contains_cons (record { client = x.client; number = k; method = x.request.method }) (owners_from (suc k) xs) o (λ same. omega (arith, ap (λ (y : Owner). y.number) same)) (λ n. omega (arith, below (suc k) xs o n)) m

-- the numbers of owners are below the number of requests that went out
pub numbers_below : (xs : List Sent) (o : Owner) → Contains (owners_from 0 xs) o → o.number < length xs
numbers_below xs o m = omega (arith, below 0 xs o m)

pub only_owners : OnlyOwners
only_owners e st vs c l = let s = (turns e vs c l).serves in (order_served 0 (owners_numbered 0 c.sent) s, served_owners s)
