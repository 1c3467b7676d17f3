-- The turns of a connection told apart: what makes it give, fall or rest.
use Rattle.std.proofs.Common.{◌≡◌, ◌≢◌, Bool, true, false, cond, List, [], ◌∷◌, sym, refl, ap, ◌∙◌}
use Rattle.text.specs.Bytes.{Text}
use Rattle.connection.specs.Model.{Ear, Found, Response, Owner, Conn, more, unreadable, whole, rests, gives, falls, gave, turn, turn_by, on_idle, on_found}
use Rattle.connection.specs.Stands.{turn_now}
use Rattle.connection_laws.specs.Laws.{Unwanted}

-- the first who waits is given a response
pub record Gift (e : Ear) (c d : Conn) : Type 0 where
  pub to : Owner
  pub behind : List Owner
  pub response : Response
  pub rest : Text
  pub up : c.up ≡ true
  pub waits : c.waiting ≡ to ∷ behind
  pub found : e to.method c.part ≡ whole response rest
  pub is : d ≡ gave to response behind rest c

module _ (e : Ear) (c d : Conn) where
  found_gives : (o : Owner) (os : List Owner) (f : Found) → c.up ≡ true → c.waiting ≡ o ∷ os → e o.method c.part ≡ f → on_found c o os f ≡ gives d → Gift e c d
  found_gives o os more u w h g = cc
  found_gives o os unreadable u w h g = cc
  found_gives o os (whole a rest) u w h g = record { to = o; behind = os; response = a; rest = rest; up = u; waits = w; found = h; is = cc }

  idle_gives : {P : Type 0} (t : Text) → on_idle t ≡ gives d → P
  idle_gives [] h = cc
  idle_gives (x ∷ t) h = cc

  waiting_gives : (ws : List Owner) → c.up ≡ true → c.waiting ≡ ws → turn_by e c ws ≡ gives d → Gift e c d
  waiting_gives [] u w g = idle_gives c.part g
  waiting_gives (o ∷ os) u w g = found_gives o os (e o.method c.part) u w refl g

  up_gives : (b : Bool) → c.up ≡ b → cond b (turn e c) rests ≡ gives d → Gift e c d
  up_gives true u g = waiting_gives c.waiting u refl g
  up_gives false u g = cc

  pub gift_of : turn_now e c ≡ gives d → Gift e c d
  gift_of g = up_gives c.up refl g

-- why the connection goes down
pub record Fall (e : Ear) (c : Conn) : Type 0 where
  pub up : c.up ≡ true
  pub unwanted : Unwanted e c.waiting c.part

module _ (e : Ear) (c : Conn) where
  found_falls : (o : Owner) (os : List Owner) (f : Found) → e o.method c.part ≡ f → on_found c o os f ≡ falls → e o.method c.part ≡ unreadable
  found_falls o os more h g = cc
  found_falls o os unreadable h g = h
  found_falls o os (whole a rest) h g = cc

  idle_falls : (t : Text) → on_idle t ≡ falls → t ≢ []
  idle_falls [] h = cc
  idle_falls (x ∷ t) h = λ z. cc

  waiting_falls : (ws : List Owner) → turn_by e c ws ≡ falls → Unwanted e ws c.part
  waiting_falls [] g = idle_falls c.part g
  waiting_falls (o ∷ os) g = found_falls o os (e o.method c.part) refl g

  up_falls : (b : Bool) → c.up ≡ b → cond b (turn e c) rests ≡ falls → Fall e c
  up_falls true u g = record { up = u; unwanted = waiting_falls c.waiting g }
  up_falls false u g = cc

  pub fall_of : turn_now e c ≡ falls → Fall e c
  fall_of g = up_falls c.up refl g

-- what waits where nothing is to be done
pub record Quiet (e : Ear) (c : Conn) : Type 0 where
  pub none : c.waiting ≡ [] → c.part ≡ []
  pub first : (o : Owner) (os : List Owner) → c.waiting ≡ o ∷ os → e o.method c.part ≡ more

module _ (e : Ear) (c : Conn) where
  found_rests : (o : Owner) (os : List Owner) (f : Found) → e o.method c.part ≡ f → on_found c o os f ≡ rests → e o.method c.part ≡ more
  found_rests o os more h g = h
  found_rests o os unreadable h g = cc
  found_rests o os (whole a rest) h g = cc

  idle_rests : (t : Text) → on_idle t ≡ rests → t ≡ []
  idle_rests [] h = refl
  idle_rests (x ∷ t) h = cc

  waiting_rests : (ws : List Owner) → c.waiting ≡ ws → turn_by e c ws ≡ rests → Quiet e c
  waiting_rests [] w g = record { none = λ z. idle_rests c.part g; first = λ o os z. cc }
  waiting_rests (p ∷ ps) w g = record { none = λ z. cc; first = λ o os z. let same : p ≡ o = cc in ap (λ (x : Owner). e x.method c.part) (sym same) ∙ found_rests p ps (e p.method c.part) refl g }

  pub quiet_of : c.up ≡ true → turn_now e c ≡ rests → Quiet e c
  quiet_of u g = waiting_rests c.waiting refl (ap (λ (b : Bool). cond b (turn e c) rests) (sym u) ∙ g)

  -- and the other way round
  found_quiet : (o : Owner) (os : List Owner) → c.waiting ≡ o ∷ os → e o.method c.part ≡ more → turn_by e c c.waiting ≡ rests
  found_quiet o os w h = ap (turn_by e c) w ∙ ap (on_found c o os) h

  waiting_quiet : (ws : List Owner) → c.waiting ≡ ws → Quiet e c → turn_by e c c.waiting ≡ rests
  waiting_quiet [] w q = ap (turn_by e c) w ∙ ap on_idle (q.none w)
  waiting_quiet (o ∷ os) w q = found_quiet o os w (q.first o os w)

  quiet_by : (b : Bool) → c.up ≡ b → (b ≡ true → Quiet e c) → cond b (turn e c) rests ≡ rests
  quiet_by true u q = waiting_quiet c.waiting refl (q refl)
  quiet_by false u q = refl

  pub rests_at : (c.up ≡ true → Quiet e c) → turn_now e c ≡ rests
  rests_at q = quiet_by c.up refl q
