-- What was given, told and sent stays so, and what comes after it goes behind it.
use Rattle.std.proofs.Common.{◌≡◌, ℕ, zero, suc, Bool, true, false, cond, ◌&&◌, List, [], ◌∷◌, ◌++◌, length, sym, refl, ap, ◌∙◌, subst, append_assoc, append-nil}
use Rattle.text.specs.Bytes.{Text}
use Rattle.request.specs.Canonical.{Req}
use Rattle.connection.specs.Model.{Ear, Steady, Conn, Turn, rests, gives, falls, fresh, has_room, asked, down, put, gave, turn, drain, drained, Event, asks, says, step, run}
use Rattle.connection_laws.specs.Moments.{Leads}
use Rattle.connection_laws.specs.Laws.{OnlyGrows}
use Rattle.connection_laws.proofs.Ordered.{turns}
use Rattle.connection_laws.proofs.Runs.{run_append, drain_turn, now_turn, ends}
use Rattle.connection_laws.proofs.Turns.{Gift, gift_of}

abbrev pub Longer : {A : Type 0} → List A → List A → Type 0
Longer {A} xs ys = (zs : List A) × (ys ≡ xs ++ zs)

module _ {A : Type 0} where
  longer_same : (xs : List A) → Longer xs xs
  longer_same xs = ([], sym (append-nil xs))

  longer_trans : (xs ys zs : List A) → Longer xs ys → Longer ys zs → Longer xs zs
  longer_trans xs ys zs (us, p) (vs, q) = (us ++ vs, q ∙ ap (λ ws. ws ++ vs) p ∙ append_assoc xs us vs)

-- none is told of a connection that is up
abbrev NoneTold : Conn → Type 0
NoneTold c = c.up ≡ true → c.told ≡ []

record Grows (c d : Conn) : Type 0 where
  pub given : Longer c.given d.given
  pub told : Longer c.told d.told
  pub sent : Longer c.sent d.sent
  pub none : NoneTold d

same : (c : Conn) → NoneTold c → Grows c c
same c n = record { given = longer_same c.given; told = longer_same c.told; sent = longer_same c.sent; none = n }

then : (c d f : Conn) → Grows c d → Grows d f → Grows c f
then c d f g h = record { given = longer_trans c.given d.given f.given g.given h.given; told = longer_trans c.told d.told f.told g.told h.told; sent = longer_trans c.sent d.sent f.sent g.sent h.sent; none = h.none }

module _ (e : Ear) where
  grows_gift : (c d : Conn) → Gift e c d → NoneTold c → Grows c d
  grows_gift c d g n =
      let new : Conn = gave g.to g.response g.behind g.rest c in
      subst (Grows c) (sym g.is) (record { given = (record { to = g.to; from = c.used; response = g.response } ∷ [], refl); told = longer_same c.told; sent = longer_same c.sent; none = n })

  grows_fall : (c : Conn) → c.up ≡ true → NoneTold c → Grows c (down c)
  grows_fall c u n = record { given = longer_same c.given; told = (c.waiting, ap (λ os. os ++ c.waiting) (sym (n u))); sent = longer_same c.sent; none = λ v. cc }

  grows_turn : (k : ℕ) (c : Conn) (t : Turn) → c.up ≡ true → turn e c ≡ t → NoneTold c → ((d : Conn) → Gift e c d → NoneTold d → Grows d (drain k e d)) → Grows c (drain (suc k) e c)
  grows_turn k c rests u h n f = subst (Grows c) (sym (drain_turn e k c rests h)) (same c n)
  grows_turn k c falls u h n f = subst (Grows c) (sym (drain_turn e k c falls h)) (grows_fall c u n)
  grows_turn k c (gives d) u h n f =
      let g = gift_of e c d (now_turn e c u ∙ h) in
      let first = grows_gift c d g n in
      subst (Grows c) (sym (drain_turn e k c (gives d) h)) (then c d (drain k e d) first (f d g first.none))

  grows_drained : (k : ℕ) (c : Conn) → c.up ≡ true → NoneTold c → Grows c (drain k e c)
  unfolding drain
  grows_drained zero c u n = same c n
  grows_drained (suc k) c u n = grows_turn k c (turn e c) u refl n (λ d g m. grows_drained k d (ap (λ (x : Conn). x.up) g.is ∙ g.up) m)

  grows_cond : (b : Bool) (c d : Conn) → NoneTold c → (b ≡ true → Grows c d) → Grows c (cond b d c)
  grows_cond true c d n f = f refl
  grows_cond false c d n f = same c n

  grows_asked : (p : ℕ) (q : Req) (c : Conn) → NoneTold c → Grows c (asked p q c)
  grows_asked p q c n = record { given = longer_same c.given; told = longer_same c.told; sent = (record { client = p; request = q } ∷ [], refl); none = n }

  -- bytes that come change nothing of what is spoken of here
  grows_put : (s : Text) (c : Conn) → NoneTold c → Grows c (put s c)
  grows_put s c n = record { given = longer_same c.given; told = longer_same c.told; sent = longer_same c.sent; none = n }

  grows_step : (v : Event) (c : Conn) → NoneTold c → Grows c (step e v c)
  grows_step (asks p q) c n = grows_cond (c.up && has_room c) c (asked p q c) n (λ u. grows_asked p q c n)
  grows_step (says s) c n =
      grows_cond c.up c (drained e (put s c)) n (λ u. then c (put s c) (drained e (put s c)) (grows_put s c n) (grows_drained (suc (length (put s c).part)) (put s c) u n))

  grows_run : (vs : List Event) (c : Conn) → NoneTold c → Grows c (run e vs c)
  unfolding run
  grows_run [] c n = same c n
  grows_run (v ∷ vs) c n = let first = grows_step v c n in then c (step e v c) (run e vs (step e v c)) first (grows_run vs (step e v c) first.none)

  grows_finished : (c : Conn) → NoneTold c → Grows c (cond c.up (drained e c) c)
  grows_finished c n = grows_cond c.up c (drained e c) n (λ u. grows_drained (suc (length c.part)) c u n)

  grows_on : Steady e → (vs ws : List Event) (c : Conn) → Leads e vs c → Grows c (run e (vs ++ ws) fresh)
  grows_on st vs ws c l =
      let n : NoneTold c = (turns e vs c l).up in
      let now = subst (Grows c) (ends e st vs c l) (grows_finished c n) in
      subst (Grows c) (sym (run_append e vs ws fresh)) (then c (run e vs fresh) (run e ws (run e vs fresh)) now (grows_run ws (run e vs fresh) now.none))

  -- handing over sends nothing
  sent_turn : (k : ℕ) (c : Conn) (t : Turn) → c.up ≡ true → turn e c ≡ t → ((d : Conn) → Gift e c d → (drain k e d).sent ≡ d.sent) → (drain (suc k) e c).sent ≡ c.sent
  sent_turn k c rests u h f = ap (λ (x : Conn). x.sent) (drain_turn e k c rests h)
  sent_turn k c falls u h f = ap (λ (x : Conn). x.sent) (drain_turn e k c falls h)
  sent_turn k c (gives d) u h f = let g = gift_of e c d (now_turn e c u ∙ h) in ap (λ (x : Conn). x.sent) (drain_turn e k c (gives d) h) ∙ f d g ∙ ap (λ (x : Conn). x.sent) g.is

  sent_drained : (k : ℕ) (c : Conn) → c.up ≡ true → (drain k e c).sent ≡ c.sent
  unfolding drain
  sent_drained zero c u = refl
  sent_drained (suc k) c u = sent_turn k c (turn e c) u refl (λ d g. sent_drained k d (ap (λ (x : Conn). x.up) g.is ∙ g.up))

  sent_finished : (c : Conn) (b : Bool) → c.up ≡ b → (cond b (drained e c) c).sent ≡ c.sent
  sent_finished c true u = sent_drained (suc (length c.part)) c u
  sent_finished c false u = refl

  pub sent_is : Steady e → (vs : List Event) (c : Conn) → Leads e vs c → c.sent ≡ (run e vs fresh).sent
  sent_is st vs c l = sym (sent_finished c c.up refl) ∙ ap (λ (x : Conn). x.sent) (ends e st vs c l)

pub only_grows : OnlyGrows
only_grows e st vs ws c l = let g = grows_on e st vs ws c l in (g.given, g.told, g.sent)
