-- Nothing that a server says is lost: it is the texts of what was handed over, and what is left.
use Rattle.std.proofs.Common.{◌≡◌, ◌≢◌, ℕ, ◌+◌, Bool, true, false, cond, ◌&&◌, List, [], ◌∷◌, ◌++◌, length, sym, refl, ap, ◌∙◌, subst, append_assoc, append-nil, length-append, arith}
use Rattle.std.specs.List.{concat}
use Rattle.text.specs.Bytes.{Text}
use Rattle.request.specs.Canonical.{Req}
use Rattle.connection.specs.Model.{Ear, Steady, Response, Owner, Given, Conn, whole, has_room, asked, down, put, gave, drained, Event, asks, says, step}
use Rattle.connection_laws.specs.Moments.{Leads}
use Rattle.connection_laws.specs.Laws.{said_in, AllHeard, nothing, next, Unwanted, NothingLost, NothingIsLost, Settled}
use Rattle.connection_laws.proofs.Kept.{Kept, kept}
use Rattle.connection_laws.proofs.Steadily.{shrinks}
use Rattle.connection_laws.proofs.Turns.{quiet_of}

pub said_ask : (xs : List Event) (p : ℕ) (q : Req) → said_in (xs ++ (asks p q ∷ [])) ≡ said_in xs
unfolding said_in
said_ask [] p q = refl
said_ask (asks p' q' ∷ xs) p q = said_ask xs p q
said_ask (says t ∷ xs) p q = ap (λ z. t ++ z) (said_ask xs p q)

pub said_say : (xs : List Event) (s : Text) → said_in (xs ++ (says s ∷ [])) ≡ said_in xs ++ s
unfolding said_in
said_say [] s = append-nil s
said_say (asks p q ∷ xs) s = said_say xs s
said_say (says t ∷ xs) s = ap (λ z. t ++ z) (said_say xs s) ∙ sym (append_assoc t (said_in xs) s)

concat_push : (ts : List Text) (t : Text) → concat (ts ++ (t ∷ [])) ≡ concat ts ++ t
concat_push [] t = append-nil t
concat_push (x ∷ ts) t = ap (λ z. x ++ z) (concat_push ts t) ∙ sym (append_assoc x (concat ts) t)

module _ (e : Ear) (g : Given) (t : Text) (read : e g.to.method t ≡ whole g.response []) where
  heard_push : {n : ℕ} {gs : List Given} {ts : List Text} → g.from ≡ n + length (concat ts) → AllHeard e n gs ts → AllHeard e n (gs ++ (g ∷ [])) (ts ++ (t ∷ []))
  heard_push from nothing = next (from ∙ omega arith) read nothing
  heard_push from (next {t = u} {ts = us} f r h) = next f r (heard_push (from ∙ omega (arith, length-append u (concat us))) h)

some_left : (s t : Text) → s ≢ [] → s ++ t ≢ []
some_left [] t n = absurd (n refl)
some_left (x ∷ s) t n = λ z. cc

unwanted_more : (e : Ear) → Steady e → (os : List Owner) (s t : Text) → Unwanted e os s → Unwanted e os (s ++ t)
unwanted_more e st [] s t n = some_left s t n
unwanted_more e st (o ∷ os) s t h = st.stays_unreadable o.method s t h

-- beside that, how many bytes the responses had
pub record Lost (e : Ear) (vs : List Event) (c : Conn) : Type 0 where
  pub lost : NothingLost e vs c
  pub counted : c.up ≡ true → c.used ≡ length (concat lost.texts)

module _ (e : Ear) (st : Steady e) (xs : List Event) (c : Conn) (h : Lost e xs c) where
  lost_ask : (p : ℕ) (q : Req) → Lost e (xs ++ (asks p q ∷ [])) (asked p q c)
  lost_ask p q = let l = h.lost in record {
    lost = record { texts = l.texts; left = l.left; said = said_ask xs p q ∙ l.said; heard = l.heard; while_up = l.while_up; once_down = l.once_down };
    counted = h.counted;
  }

  lost_refusal : (p : ℕ) (q : Req) → Lost e (xs ++ (asks p q ∷ [])) c
  lost_refusal p q = let l = h.lost in record {
    lost = record { texts = l.texts; left = l.left; said = said_ask xs p q ∙ l.said; heard = l.heard; while_up = l.while_up; once_down = l.once_down };
    counted = h.counted;
  }

  lost_say : (s : Text) → c.up ≡ true → Lost e (xs ++ (says s ∷ [])) (put s c)
  lost_say s u = let l = h.lost in record {
    lost = record {
      texts = l.texts;
      left = l.left ++ s;
      said = said_say xs s ∙ ap (λ z. z ++ s) l.said ∙ append_assoc (concat l.texts) l.left s;
      heard = l.heard;
      while_up = λ v. ap (λ z. z ++ s) (l.while_up v);
      once_down = λ d. cc;
    };
    counted = h.counted;
  }

  lost_deaf : (s : Text) → c.up ≡ false → Lost e (xs ++ (says s ∷ [])) c
  lost_deaf s d = let l = h.lost in record {
    lost = record {
      texts = l.texts;
      left = l.left ++ s;
      said = said_say xs s ∙ ap (λ z. z ++ s) l.said ∙ append_assoc (concat l.texts) l.left s;
      heard = l.heard;
      while_up = λ v. cc;
      once_down = λ v. unwanted_more e st c.told l.left s (l.once_down v);
    };
    counted = h.counted;
  }

  lost_gift : (o : Owner) (os : List Owner) (a : Response) (rest : Text) → c.up ≡ true → e o.method c.part ≡ whole a rest → Lost e xs (gave o a os rest c)
  lost_gift o os a rest u f =
      let l = h.lost in
      let w = st.own o.method c.part a rest f in
      let less = shrinks e st o.method c.part a rest f in
      record {
        lost = record {
          texts = l.texts ++ (w.0 ∷ []);
          left = rest;
          said = l.said ∙ ap (λ z. concat l.texts ++ z) (l.while_up u ∙ w.1) ∙ sym (append_assoc (concat l.texts) w.0 rest) ∙ ap (λ z. z ++ rest) (sym (concat_push l.texts w.0));
          heard = heard_push e (record { to = o; from = c.used; response = a }) w.0 w.2 (h.counted u ∙ omega arith) l.heard;
          while_up = λ v. refl;
          once_down = λ d. cc;
        };
        counted = λ v. omega (arith, h.counted u, ap length (concat_push l.texts w.0), length-append (concat l.texts) w.0, ap length w.1, length-append w.0 rest);
      }

  lost_fall : c.up ≡ true → Unwanted e c.waiting c.part → Lost e xs (down c)
  lost_fall u n = let l = h.lost in record {
    lost = record {
      texts = l.texts;
      left = l.left;
      said = l.said;
      heard = l.heard;
      while_up = λ v. cc;
      once_down = λ v. subst (Unwanted e c.waiting) (sym (l.while_up u)) n;
    };
    counted = λ v. cc;
  }

pub nothing_lost : (e : Ear) → Steady e → Kept e (Lost e)
unfolding said_in
nothing_lost e st = record {
  at_start = record { lost = record { texts = []; left = []; said = refl; heard = nothing; while_up = λ u. refl; once_down = λ d. cc }; counted = λ u. refl };
  at_ask = λ xs p q c l r n u m h. lost_ask e st xs c h p q;
  at_refusal = λ xs p q c l r n u h. lost_refusal e st xs c h p q;
  at_say = λ xs s c l r n u h. lost_say e st xs c h s u;
  at_deaf = λ xs s c l r n u h. lost_deaf e st xs c h s u;
  at_gift = λ xs c o os a rest l u w f h. lost_gift e st xs c h o os a rest u f;
  at_fall = λ xs c l u f h. lost_fall e st xs c h u f;
}

pub lost : (e : Ear) → Steady e → (vs : List Event) (c : Conn) → Leads e vs c → Lost e vs c
lost e st vs c l = kept e (Lost e) (nothing_lost e st) l

pub nothing_is_lost : NothingIsLost
nothing_is_lost e st vs c l = (lost e st vs c l).lost

-- Settled
stays_down : (e : Ear) (c : Conn) → c.up ≡ false → (v : Event) → step e v c ≡ c
stays_down e c d (asks p q) = ap (λ (u : Bool). cond (u && has_room c) (asked p q c) c) d
stays_down e c d (says s) = ap (λ (u : Bool). cond u (drained e (put s c)) c) d

pub settled : Settled
settled e st vs c l r = record { none_wait = λ u. (quiet_of e c u r).none; first_waits = λ u. (quiet_of e c u r).first; once_down = stays_down e c }
