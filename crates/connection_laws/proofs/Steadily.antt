-- What is found in texts that begin alike, by a steady way of reading.
use Rattle.std.proofs.Common.{◌≡◌, ◌≢◌, ◌+◌, ◌<◌, ◌≤◌, [], ◌∷◌, ◌++◌, length, take, drop, sym, refl, ap, ◌∙◌, length-append, take-append-drop, take_at, arith, inl, inr}
use Rattle.std.proofs.lemmas.List.{take-append-le}
use Rattle.std.proofs.lemmas.Bool.{cases_lt}
use Rattle.text.specs.Bytes.{Text}
use Rattle.connection.specs.Model.{Ear, Steady, Found, Response, more, unreadable, whole}

-- of two ways to cut one text, the shorter front begins the longer
pub cut_front : (p s t u : Text) → p ++ s ≡ t ++ u → length t ≤ length p → p ≡ t ++ drop (length t) p
cut_front p s t u e l =
    let same : take (length t) p ≡ t = sym (take-append-le (length t) p s l) ∙ ap (take (length t)) e ∙ take_at t u (length t) refl in
    sym (take-append-drop (length t) p) ∙ ap (λ z. z ++ drop (length t) p) same

pub some_bytes : (t : Text) → t ≢ [] → 0 < length t
some_bytes [] n = absurd (n refl)
some_bytes (x ∷ t) n = omega arith

module _ (e : Ear) (st : Steady e) (m : Text) where
  -- a response has a byte at least
  pub whole_some : (t : Text) (a : Response) (rest : Text) → e m t ≡ whole a rest → t ≢ []
  whole_some t a rest h z = let none : e m t ≡ more = ap (e m) z ∙ st.silent m in cc

  pub shrinks : (s : Text) (a : Response) (rest : Text) → e m s ≡ whole a rest → length rest < length s
  shrinks s a rest h =
      let w = st.own m s a rest h in
      omega (arith, some_bytes w.0 (whole_some w.0 a [] w.2), ap length w.1, length-append w.0 rest)

  by_found : (s t : Text) (f : Found) → e m s ≡ f → e m (s ++ t) ≡ more → e m s ≡ more
  by_found s t more h w = h
  by_found s t unreadable h w = let bad = st.stays_unreadable m s t h in cc
  by_found s t (whole a rest) h w = let all = st.stays m s t a rest h in cc

  -- the beginning of a text in which nothing is found yet
  pub more_before : (s t : Text) → e m (s ++ t) ≡ more → e m s ≡ more
  more_before s t w = by_found s t (e m s) refl w

  -- where nothing was found yet in p, a response that is found behind it leaves no byte of p
  pub past : (p t : Text) (a : Response) (rest : Text) → e m p ≡ more → e m (p ++ t) ≡ whole a rest → length rest ≤ length t
  past p t a rest h g =
      let w = st.own m (p ++ t) a rest g in
      let l : length p + length t ≡ length w.0 + length rest = sym (length-append p t) ∙ ap length w.1 ∙ length-append w.0 rest in
      elim (cases_lt (length t) (length rest)) [
        | inl lt ↦
            let cut : p ≡ w.0 ++ drop (length w.0) p = cut_front p t w.0 rest w.1 (omega arith) in
            let found : e m p ≡ whole a (drop (length w.0) p) = ap (e m) cut ∙ st.stays m w.0 (drop (length w.0) p) a [] w.2 in
            cc
        | inr ge ↦ ge
      ]

  -- two whole responses at the front of one text are the same
  pub one_front : (t u : Text) (a b : Response) (x y : Text) → e m t ≡ whole a [] → e m u ≡ whole b [] → t ++ x ≡ u ++ y → (a ≡ b) × (x ≡ y)
  one_front t u a b x y h g same =
      let first : e m (t ++ x) ≡ whole a x = st.stays m t x a [] h in
      let other : e m (u ++ y) ≡ whole b y = st.stays m u y b [] g in
      let read : whole a x ≡ whole b y = sym first ∙ ap (e m) same ∙ other in
      (cc, cc)
