-- What comes decides what goes out: the gate does one thing at a time, and an event comes only where it rests.
use Rattle.std.proofs.Common.{◌≡◌, ◌-◌, List, [], ◌∷◌, ◌++◌, map, refl, sym, ap, subst, ◌∙◌}
use Rattle.std.proofs.lemmas.Option.{none-some, same_Some}
use Rattle.std.proofs.Math.Nat.{add-sub_cancel}
use Rattle.proxy.specs.Model.{Servers, Gate, Out, sends, answers, fails, refuses, ends, downs, Event, from_client as client_says, from_server as server_says, comes}
use Rattle.worked.specs.Played.{Line, from_client, from_server, to_server, to_client, end_client, down_server, came, went, Plays, over, coming, doing, incoming}
use Rattle.worked.specs.Laws.{PlaysOneWay}

-- the first line, where there is one
first : Line → List Line → Line
first l [] = l
first l (k ∷ ks) = k

rest : List Line → List Line
rest [] = []
rest (k ∷ ks) = ks

-- the event of a line by which bytes come
event_of : Event → Line → Event
event_of v (from_client n s) = client_says (n - 1) s
event_of v (from_server n s) = server_says (n - 1) s
event_of v (to_server n s) = v
event_of v (to_client n s) = v
event_of v (end_client n) = v
event_of v (down_server n) = v

event_came : (u v : Event) → event_of u (came v) ≡ v
unfolding event_of
event_came u (client_says c s) = ap (λ n. client_says n s) (add-sub_cancel c 1)
event_came u (server_says k s) = ap (λ n. server_says n s) (add-sub_cancel k 1)

incoming_came : (v : Event) (ls : List Line) → incoming (came v ∷ ls) ≡ came v ∷ incoming ls
unfolding incoming
incoming_came (client_says c s) ls = refl
incoming_came (server_says k s) ls = refl

went_comes_not : (o : Out) (ls : List Line) → incoming (went o ∷ ls) ≡ incoming ls
unfolding incoming
went_comes_not (sends k c q) ls = refl
went_comes_not (answers k o a) ls = refl
went_comes_not (fails k o) ls = refl
went_comes_not (refuses c f) ls = refl
went_comes_not (ends c) ls = refl
went_comes_not (downs k) ls = refl

incoming_behind : (os : List Out) (ls : List Line) → incoming (map went os ++ ls) ≡ incoming ls
incoming_behind [] ls = refl
incoming_behind (o ∷ os) ls = went_comes_not o (map went os ++ ls) ∙ incoming_behind os ls

IsNothing : List Line → Type 0
IsNothing [] = Unit {0}
IsNothing (l ∷ ls) = ⊥

something : (l : Line) (ls : List Line) → [] ≡ l ∷ ls → ⊥
unfolding IsNothing
something l ls e = subst IsNothing e tt

module _ (v w : Event) (ls ms : List Line) (e : incoming (came v ∷ ls) ≡ incoming (came w ∷ ms)) where
  one : came v ∷ incoming ls ≡ came w ∷ incoming ms
  one = sym (incoming_came v ls) ∙ e ∙ incoming_came w ms

  same_event : v ≡ w
  unfolding first
  same_event = sym (event_came v v) ∙ ap (λ xs. event_of v (first (came v) xs)) one ∙ event_came v w

  same_rest : incoming ls ≡ incoming ms
  unfolding rest
  same_rest = ap rest one

module _ (servers : Servers) where
  same : {g : Gate} {ls ms : List Line} → Plays servers g ls → Plays servers g ms → incoming ls ≡ incoming ms → ls ≡ ms
  unfolding incoming
  same (over r) (over t) e = refl
  same (over r) (coming {ls = ms} w t q) e = absurd (something (came w) (incoming ms) (e ∙ incoming_came w ms))
  same (over r) (doing c t q) e = absurd (none-some c (sym r ∙ t))
  same (coming {ls = ls} v r p) (over t) e = absurd (something (came v) (incoming ls) (sym e ∙ incoming_came v ls))
  same (coming {g = g} {ls = ls} v r p) (coming {ls = ms} w t q) e =
      let f : v ≡ w = same_event v w ls ms e in
      let u : Plays servers (comes v g) ms = subst (λ x. Plays servers (comes x g) ms) (sym f) q in
      ap (λ xs. came v ∷ xs) (same p u (same_rest v w ls ms e)) ∙ ap (λ x. came x ∷ ms) f
  same (coming v r p) (doing c t q) e = absurd (none-some c (sym r ∙ t))
  same (doing d r p) (over t) e = absurd (none-some d (sym t ∙ r))
  same (doing d r p) (coming w t q) e = absurd (none-some d (sym t ∙ r))
  same (doing {ls = ls} d r p) (doing {ls = ms} c t q) e =
      let f : d ≡ c = same_Some d c (sym r ∙ t) in
      let u : Plays servers d.then ms = subst (λ x. Plays servers x.then ms) (sym f) q in
      ap (λ xs. map went d.out ++ xs) (same p u (sym (incoming_behind d.out ls) ∙ e ∙ incoming_behind c.out ms)) ∙ ap (λ x. map went x.out ++ ms) f

pub plays_one_way : PlaysOneWay
plays_one_way servers g ls ms p q e = same servers p q e
