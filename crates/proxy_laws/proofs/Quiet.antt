-- Where nothing more is to be done at a connection, and where one goes down, what is kept stays so.
use Rattle.std.proofs.Common.{◌≡◌, ◌≢◌, ℕ, Bool, true, false, cond, List, [], ◌∷◌, ◌++◌, sym, refl, ap, ◌∙◌, subst, append-nil, ⊎_elim}
use Rattle.std.specs.Prelude.{Some, None, slice_get, ◌==◌}
use Rattle.std.proofs.lemmas.Bool.{cases_eq}
use Rattle.std.proofs.lemmas.List.Elements.{Contains-append_right}
use Rattle.connection.specs.Model.{Conn, Owner, rests, falls, down}
use Rattle.connection.specs.Stands.{turn_now}
use Rattle.connection_laws.specs.Moments.{Rests}
use Rattle.connection_laws.proofs.Ordered.{contains_first}
use Rattle.response_laws.specs.Ear.{ear}
use Rattle.proxy.specs.Model.{Servers, Client, Doing, nothing, hears, tells, downs, changed, quiet, fallen}
use Rattle.proxy_laws.specs.Traces.{Entry, went}
use Rattle.proxy_laws.proofs.AtClient.{at_kept}
use Rattle.proxy_laws.proofs.AtServer.{AtServer, Happens, Nothing, happens_one, server_kept, server_falls}
use Rattle.proxy_laws.proofs.Changed.{Each, each_changed, changed_here, changed_long}
use Rattle.proxy_laws.proofs.Keeps.{Keeps, gate, Kept, unheard_none, sent_none, outs_none, no_step}
use Rattle.proxy_laws.proofs.Owed.{Owed, untold, pending}
use Rattle.proxy_laws.proofs.Projections.{sent_one, outs_one, own, other}
use Rattle.proxy_laws.proofs.Waits.{Onward, Any, onward_same, onward_changed}
use Rattle.std.specs.List.{Contains}

module _ (servers : Servers) (es : List Entry) (xs : List Client) (ds : List Conn) (line : List ℕ) where
  -- nothing goes on at a connection any more: all rest, and nobody is to be told
  module _ (w : Doing) (h : Keeps servers es (gate xs ds w line)) (rest : (k : ℕ) (d : Conn) → slice_get ds k ≡ Some d → Rests ear d) (none : (k : ℕ) → untold k w ≡ []) where
    pub quiet_keeps : Kept servers es (quiet (gate xs ds w line))
    quiet_keeps =
        no_step servers es [] (gate xs ds w line) h ds nothing line refl sent_none outs_none
        (λ d y i a. at_kept servers es [] d (sent_none d) line line y (h.now d) (outs_none d) a (λ m. m))
        (λ k d i. server_kept servers es [] w nothing k d (h.connections k d i) [] (unheard_none k) (sym (none k)) (λ n. rest k d i))
        (λ k d i. subst (λ os. Owed h.now k (os ++ d.waiting)) (none k) (h.owed k d i)) (onward_same Any ds w nothing (λ k d o i _ m. subst (λ os. Contains (os ++ d.waiting) o) (none k) m)) tt

  -- all were told
  none_told : (s k : ℕ) (b : Bool) → (s == k) ≡ b → cond {A = List Owner} b [] [] ≡ []
  none_told s k true e = refl
  none_told s k false e = refl

  pub told_keeps : (s : ℕ) → Keeps servers es (gate xs ds (tells s []) line) → Kept servers es (quiet (gate xs ds (tells s []) line))
  told_keeps s h = quiet_keeps (tells s []) h (λ k d i. (h.connections k d i).calm (λ z. cc)) (λ k. none_told s k (s == k) refl)

  module _ (s : ℕ) (h : Keeps servers es (gate xs ds (hears s) line)) where
    -- at the others nothing is heard
    pub others_rest : (k : ℕ) (d : Conn) → slice_get ds k ≡ Some d → k ≢ s → Rests ear d
    others_rest k d i n = (h.connections k d i).calm (λ z. let same : s ≡ k = cc in n (sym same))

    -- there is no such connection
    pub deaf_keeps : slice_get ds s ≡ None → Kept servers es (quiet (gate xs ds (hears s) line))
    deaf_keeps none = quiet_keeps (hears s) h (λ k d i. others_rest k d i (λ same. let here : slice_get ds s ≡ Some d = subst (λ j. slice_get ds j ≡ Some d) same i in cc)) (λ k. refl)

    module _ (c : Conn) (at : slice_get ds s ≡ Some c) where
      only_it : (y : Conn) → slice_get ds s ≡ Some y → c ≡ y
      only_it y j = cc

      -- nothing more of the piece is whole
      pub rest_keeps : turn_now ear c ≡ rests → Kept servers es (quiet (gate xs ds (hears s) line))
      rest_keeps t =
          quiet_keeps (hears s) h (λ k d i. ⊎_elim (λ same. subst (λ (z : Conn). Rests ear z) (only_it d (subst (λ j. slice_get ds j ≡ Some d) same i)) t) (others_rest k d i) (cases_eq k s)) (λ k. refl)

      -- it goes down
      abbrev falling : List Entry
      falling = went (downs s) ∷ []

      ends_it : Happens falling s [] [] [] [] [] (downs s ∷ [])
      ends_it = let z = happens_one (went (downs s)) s in record { order = z.order; says = z.says; asks = z.asks; gets = z.gets; tells = z.tells; ends = z.ends ∙ own s s (downs s ∷ []) [] refl }

      ends_no_other : (k : ℕ) → s ≢ k → Nothing falling k
      ends_no_other k n = let z = happens_one (went (downs s)) k in record { order = z.order; says = z.says; asks = z.asks; gets = z.gets; tells = z.tells; ends = z.ends ∙ other s k (downs s ∷ []) [] n }

      fallen_connections : turn_now ear c ≡ falls → Each (AtServer servers (es ++ falling) (tells s c.waiting)) (changed down s ds)
      fallen_connections t =
          let o : Entry = went (downs s) in
          each_changed (AtServer servers es (hears s)) (AtServer servers (es ++ falling) (tells s c.waiting)) down ds s
          (λ y j b. server_falls servers es falling (hears s) (tells s c.waiting) s y b (subst (λ (z : Conn). turn_now ear z ≡ falls) (only_it y j) t) ends_it refl (own s s c.waiting [] refl ∙ ap (λ (z : Conn). z.waiting) (only_it y j)) (Contains-append_right es falling o (contains_first o [])))
          (λ k y n i b. server_kept servers es falling (hears s) (tells s c.waiting) k y b [] (ends_no_other k (λ z. n (sym z))) (other s k c.waiting [] (λ z. n (sym z))) (λ z. others_rest k y i n)) h.connections

      fallen_owed : Each (λ k d. Owed h.now k (pending k (tells s c.waiting) d)) (changed down s ds)
      fallen_owed =
          each_changed (λ k d. Owed h.now k (pending k (hears s) d)) (λ k d. Owed h.now k (pending k (tells s c.waiting) d)) down ds s
          (λ y j b. subst (Owed h.now s) (sym (append-nil _ ∙ own s s c.waiting [] refl ∙ ap (λ (z : Conn). z.waiting) (only_it y j))) b)
          (λ k y n i b. subst (λ os. Owed h.now k (os ++ y.waiting)) (sym (other s k c.waiting [] (λ z. n (sym z)))) b) h.owed

      fallen_onward : Onward Any ds (hears s) (changed down s ds) (tells s c.waiting)
      fallen_onward =
          onward_changed Any ds (hears s) (tells s c.waiting) down s
          (λ y o j _ m. subst (λ os. Contains os o) (sym (append-nil _ ∙ own s s c.waiting [] refl ∙ ap (λ (z : Conn). z.waiting) (only_it y j))) m)
          (λ k y o n m. subst (λ os. Contains (os ++ y.waiting) o) (sym (other s k c.waiting [] (λ z. n (sym z)))) m)

      pub fall_keeps : turn_now ear c ≡ falls → Kept servers es (fallen (gate xs ds (hears s) line) s c.waiting)
      fall_keeps t =
          let o : Entry = went (downs s) in
          no_step servers es falling (gate xs ds (hears s) line) h (changed down s ds) (tells s c.waiting) line (changed_long down ds s) (λ d. sent_one d o) (λ d. outs_one d o)
          (λ d y i a. at_kept servers es falling d (sent_one d o) line line y (h.now d) (outs_one d o) a (λ m. m))
          (fallen_connections t) fallen_owed fallen_onward (Contains-append_right es falling o (contains_first o []), (down c, changed_here down ds s c at))
