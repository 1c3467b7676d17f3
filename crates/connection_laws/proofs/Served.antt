-- An honest server's responses go each to the client who asked.
use Rattle.std.proofs.Common.{◌≡◌, ℕ, ◌+◌, ◌-◌, ◌<◌, ◌≤◌, Bool, true, false, cond, leb, List, [], ◌∷◌, ◌++◌, length, drop, inl, inr, sym, refl, ap, ◌∙◌, subst, append_assoc, append-nil, length-append, le-leb, arith}
use Rattle.std.specs.List.{concat}
use Rattle.std.proofs.lemmas.Bool.{cases_lt, cond-true, cond-false, lt-leb}
use Rattle.text.specs.Bytes.{Text}
use Rattle.connection.specs.Model.{Ear, Steady, Response, Owner, Given, Conn, more, unreadable, whole, Event}
use Rattle.connection_laws.specs.Moments.{Rests, Leads}
use Rattle.connection_laws.specs.Laws.{said_in, owners_of, AllHeard, nothing as none_heard, next, Unwanted, Said, texts_of, whole_in, Reads, Answers, last as last_answer, early as early_answer, Honest, Paired, nothing as no_pairs, last as last_pair, early as early_pair, Served, ToOwner}
use Rattle.connection_laws.proofs.Lost.{lost}
use Rattle.connection_laws.proofs.Ordered.{Serves, nothing as none_served, last as last_served, early as early_served, turns}
use Rattle.connection_laws.proofs.Steadily.{cut_front, whole_some, one_front}
use Rattle.connection_laws.proofs.Turns.{Quiet, quiet_of}

no_length : (t : Text) → length t ≡ 0 → t ≡ []
no_length [] h = refl
no_length (x ∷ t) h = absurd (omega arith)

-- what each relation says of lists that begin so
heard_none : (e : Ear) (n : ℕ) (us : List Text) → AllHeard e n [] us → us ≡ []
heard_none e n us none_heard = refl

heard_some : (e : Ear) (n : ℕ) (g : Given) (gs : List Given) (us : List Text) → AllHeard e n (g ∷ gs) us →
    (x : Text) × (xs : List Text) × (us ≡ x ∷ xs) × (e g.to.method x ≡ whole g.response []) × AllHeard e (n + length x) gs xs
heard_some e n g gs us (next {t = x} {ts = xs} f r h) = (x, xs, refl, r, h)

answers_none : {P : Type 0} (e : Ear) (t : Said) (ts : List Said) → Answers e [] (t ∷ ts) → P
answers_none e t ts a = elim a [ ]

answers_some : (e : Ear) (o : Owner) (os : List Owner) (t : Said) (ts : List Said) → Answers e (o ∷ os) (t ∷ ts) → (a : Response) × Reads e o t a × Answers e (cond t.last os (o ∷ os)) ts
answers_some e o os t ts (last_answer a r l h) = (a, r, subst (λ b. Answers e (cond b os (o ∷ os)) ts) (sym l) h)
answers_some e o os t ts (early_answer a r l h) = (a, r, subst (λ b. Answers e (cond b os (o ∷ os)) ts) (sym l) h)

served_none : (os left : List Owner) → Serves os [] left → os ≡ left
served_none os left (none_served e) = e

served_some : (os left : List Owner) (g : Given) (gs : List Given) → Serves os (g ∷ gs) left →
    (o : Owner) × (ws : List Owner) × (os ≡ o ∷ ws) × (g.to ≡ o) × Serves (cond g.response.last ws (o ∷ ws)) gs left
served_some os left g gs (last_served {o = o} {os = ws} t l s) = (o, ws, refl, t, subst (λ b. Serves (cond b ws (o ∷ ws)) gs left) (sym l) s)
served_some os left g gs (early_served {o = o} {os = ws} t l s) = (o, ws, refl, t, subst (λ b. Serves (cond b ws (o ∷ ws)) gs left) (sym l) s)

pair_cons : (e : Ear) (o : Owner) (os : List Owner) (t : Said) (ts : List Said) (g : Given) (gs : List Given) (b : Bool) → t.last ≡ b → g.to ≡ o → Reads e o t g.response → Paired e (cond b os (o ∷ os)) ts gs →
    Paired e (o ∷ os) (t ∷ ts) (g ∷ gs)
pair_cons e o os t ts g gs true l to r p = last_pair to r l p
pair_cons e o os t ts g gs false l to r p = early_pair to r l p

-- of an honest server's responses the first are those that were given, and those behind them answer the owners who are left
record Pairs (e : Ear) (os left : List Owner) (gs : List Given) (us : List Text) (ts : List Said) (over : Text) : Type 0 where
  pub first : List Said
  pub behind : List Said
  pub cut : ts ≡ first ++ behind
  pub paired : Paired e os first gs
  pub answers : Answers e left behind
  pub rest : texts_of behind ≡ over
  pub long : length (texts_of first) ≡ length (concat us)

module _ (e : Ear) (st : Steady e) where
  pairs_none : (os left : List Owner) (us : List Text) (ts : List Said) (over : Text) → os ≡ left → us ≡ [] → Answers e os ts → texts_of ts ≡ concat us ++ over → Pairs e os left [] us ts over
  unfolding texts_of
  pairs_none os left us ts over w u a s = record {
    first = [];
    behind = ts;
    cut = refl;
    paired = no_pairs;
    answers = subst (λ ws. Answers e ws ts) w a;
    rest = s ∙ ap (λ z. concat z ++ over) u;
    long = ap (λ z. length (concat z)) (sym u);
  }

  module _ (o : Owner) (os left : List Owner) (g : Given) (gs : List Given) (x : Text) (us : List Text) (over : Text) (to : g.to ≡ o) (read : e g.to.method x ≡ whole g.response []) where
    pairs_more : (ts : List Said) → Answers e (o ∷ os) ts → texts_of ts ≡ (x ++ concat us) ++ over →
        ((ts : List Said) → Answers e (cond g.response.last os (o ∷ os)) ts → texts_of ts ≡ concat us ++ over → Pairs e (cond g.response.last os (o ∷ os)) left gs us ts over) → Pairs e (o ∷ os) left (g ∷ gs) (x ∷ us) ts over
    unfolding texts_of
    pairs_more [] a s f =
        let z : length (x ++ (concat us ++ over)) ≡ 0 = sym (ap length (s ∙ append_assoc x (concat us) over)) in
        absurd (whole_some e st g.to.method x g.response [] read (no_length x (omega (arith, length-append x (concat us ++ over)))))
    pairs_more (t ∷ ts) a s f =
        let w = answers_some e o os t ts a in
        let mine : e o.method x ≡ whole g.response [] = ap (λ (y : Owner). e y.method x) (sym to) ∙ read in
        let one = one_front e st o.method t.text x w.0 g.response (texts_of ts) (concat us ++ over) w.1.1 mine (s ∙ append_assoc x (concat us) over) in
        let same : t.last ≡ g.response.last = sym w.1.0 ∙ ap (λ (b : Response). b.last) one.0 in
        let p = f ts (subst (λ b. Answers e (cond b os (o ∷ os)) ts) same w.2) one.1 in
        let reads : Reads e o t g.response = (sym same, w.1.1 ∙ ap (λ b. whole b []) one.0) in
        record {
          first = t ∷ p.first;
          behind = p.behind;
          cut = ap (λ z. t ∷ z) p.cut;
          paired = pair_cons e o os t p.first g gs g.response.last same to reads p.paired;
          answers = p.answers;
          rest = p.rest;
          long = omega (arith, p.long, ap length s, length-append t.text (texts_of ts), ap length one.1, length-append (x ++ concat us) over, length-append x (concat us), length-append (concat us) over, length-append t.text (texts_of p.first));
        }

  pairs : (gs : List Given) (os left : List Owner) (n : ℕ) (us : List Text) (ts : List Said) (over : Text) → Serves os gs left → AllHeard e n gs us → Answers e os ts → texts_of ts ≡ concat us ++ over → Pairs e os left gs us ts over
  pairs [] os left n us ts over s h a q = pairs_none os left us ts over (served_none os left s) (heard_none e n us h) a q
  pairs (g ∷ gs) os left n us ts over s h a q =
      let w = served_some os left g gs s in
      let k = heard_some e n g gs us h in
      let o = w.0 in
      let all = pairs_more o w.1 left g gs k.0 k.1 over w.3 k.3 ts (subst (λ ws. Answers e ws ts) w.2 a) (q ∙ ap (λ z. concat z ++ over) k.2) (λ ys b r. pairs gs (cond g.response.last w.1 (o ∷ w.1)) left (n + length k.0) k.1 ys over w.4 k.4 b r) in
      let moved = subst (λ ws. Pairs e ws left (g ∷ gs) (k.0 ∷ k.1) ts over) (sym w.2) all in
      subst (λ vs. Pairs e os left (g ∷ gs) vs ts over) (sym k.2) moved

-- the responses that lie whole in a text: all the first, and of those behind as many as lie whole in the rest
whole_front : (first behind : List Said) (k : ℕ) → whole_in (length (texts_of first) + k) (first ++ behind) ≡ first ++ whole_in k behind
unfolding whole_in texts_of
whole_front [] behind k = ap (λ n. whole_in n behind) (omega arith)
whole_front (t ∷ first) behind k =
    let n : ℕ = length (t.text ++ texts_of first) + k in
    let fits : length t.text ≤ n = omega (arith, length-append t.text (texts_of first)) in
    let less : n - length t.text ≡ length (texts_of first) + k = omega (arith, length-append t.text (texts_of first)) in
    cond-true (leb (length t.text) n) (t ∷ whole_in (n - length t.text) (first ++ behind)) [] (le-leb (length t.text) n fits) ∙ ap (λ m. t ∷ whole_in m (first ++ behind)) less ∙
    ap (λ ts. t ∷ ts) (whole_front first behind k)

no_front : (s t : Text) → [] ≡ s ++ t → s ≡ []
no_front [] t h = refl
no_front (x ∷ s) t h = cc

module _ (e : Ear) (st : Steady e) where
  -- of responses that begin with a part in which nothing is whole yet, none lies whole in it
  short_first : (o : Owner) (os : List Owner) (part rest : Text) (t : Said) (ts : List Said) → e o.method part ≡ more → Answers e (o ∷ os) (t ∷ ts) → t.text ++ texts_of ts ≡ part ++ rest → length part < length t.text
  short_first o os part rest t ts h a s =
      let w = answers_some e o os t ts a in
      elim (cases_lt (length part) (length t.text)) [
        | inl lt ↦ lt
        | inr ge ↦
            let cut : part ≡ t.text ++ drop (length t.text) part = cut_front part rest t.text (texts_of ts) (sym s) ge in
            let found : e o.method part ≡ whole w.0 (drop (length t.text) part) = ap (e o.method) cut ∙ st.stays o.method t.text (drop (length t.text) part) w.0 [] w.1.1 in
            cc
      ]

  none_whole : (c : Conn) (ws : List Owner) (rest : Text) (ts : List Said) → c.waiting ≡ ws → Quiet e c → Answers e ws ts → texts_of ts ≡ c.part ++ rest → whole_in (length c.part) ts ≡ []
  unfolding whole_in texts_of
  none_whole c ws rest [] w q a s = refl
  none_whole c [] rest (t ∷ ts) w q a s = answers_none e t ts a
  none_whole c (o ∷ os) rest (t ∷ ts) w q a s =
      cond-false (leb (length t.text) (length c.part)) (t ∷ whole_in (length c.part - length t.text) ts) [] (lt-leb (length t.text) (length c.part) (short_first o os c.part rest t ts (q.first o os w) a s))

  -- an honest server says nothing for which a connection goes down
  wanted : (os : List Owner) (left rest : Text) (ts : List Said) → Answers e os ts → texts_of ts ≡ left ++ rest → Unwanted e os left → ⊥
  unfolding texts_of
  wanted [] left rest [] a s n = n (no_front left rest s)
  wanted [] left rest (t ∷ ts) a s n = answers_none e t ts a
  wanted (o ∷ os) left rest [] a s n = let none : e o.method left ≡ more = ap (e o.method) (no_front left rest s) ∙ st.silent o.method in cc
  wanted (o ∷ os) left rest (t ∷ ts) a s n =
      let w = answers_some e o os t ts a in
      let good : e o.method (t.text ++ texts_of ts) ≡ whole w.0 (texts_of ts) = st.stays o.method t.text (texts_of ts) w.0 [] w.1.1 in
      let bad : e o.method (left ++ rest) ≡ unreadable = st.stays_unreadable o.method left rest n in
      let both : unreadable ≡ whole w.0 (texts_of ts) = sym bad ∙ ap (e o.method) (sym s) ∙ good in
      cc

  module _ (vs : List Event) (c : Conn) (l : Leads e vs c) (ts : List Said) (h : Honest e vs c ts) where
    all_said : texts_of ts ≡ concat (lost e st vs c l).lost.texts ++ ((lost e st vs c l).lost.left ++ h.rest)
    all_said = let k = (lost e st vs c l).lost in h.said ∙ ap (λ z. z ++ h.rest) k.said ∙ append_assoc (concat k.texts) k.left h.rest

    paired : Pairs e (owners_of c) (c.told ++ c.waiting) c.given (lost e st vs c l).lost.texts ts ((lost e st vs c l).lost.left ++ h.rest)
    paired = let k = (lost e st vs c l).lost in pairs e st c.given (owners_of c) (c.told ++ c.waiting) 0 k.texts ts (k.left ++ h.rest) (turns e vs c l).serves k.heard h.answers all_said

    up_by : (b : Bool) → c.up ≡ b → c.up ≡ true
    up_by true u = u
    up_by false u =
        let k = (lost e st vs c l).lost in
        let none : c.told ++ c.waiting ≡ c.told = ap (λ ws. c.told ++ ws) ((turns e vs c l).down u).0 ∙ append-nil c.told in
        absurd (wanted c.told k.left h.rest paired.behind (subst (λ ws. Answers e ws paired.behind) none paired.answers) paired.rest (k.once_down u))

    all_whole : Rests e c → paired.first ≡ whole_in (length (said_in vs)) ts
    all_whole r =
        let k = (lost e st vs c l).lost in
        let p = paired in
        let u : c.up ≡ true = up_by c.up refl in
        let waits : c.told ++ c.waiting ≡ c.waiting = ap (λ os. os ++ c.waiting) ((turns e vs c l).up u) in
        let none : whole_in (length c.part) p.behind ≡ [] =
        none_whole c c.waiting h.rest p.behind refl (quiet_of e c u r) (subst (λ ws. Answers e ws p.behind) waits p.answers) (p.rest ∙ ap (λ z. z ++ h.rest) (k.while_up u)) in
        let size : length (said_in vs) ≡ length (texts_of p.first) + length c.part = omega (arith, p.long, ap length k.said, length-append (concat k.texts) k.left, ap length (k.while_up u)) in
        sym (ap (λ n. whole_in n ts) size ∙ ap (whole_in (length (texts_of p.first) + length c.part)) p.cut ∙ whole_front p.first p.behind (length c.part) ∙ ap (λ z. p.first ++ z) none ∙ append-nil p.first)

    served : Served e vs c ts
    served = record { first = paired.first; behind = paired.behind; cut = paired.cut; paired = paired.paired; all_whole = all_whole; stays_up = up_by c.up refl }

pub to_owner : ToOwner
to_owner e st vs c l ts h = served e st vs c l ts h
