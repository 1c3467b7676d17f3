-- What every step of a connection keeps holds at every moment.
use Rattle.std.proofs.Common.{◌≡◌, ℕ, Bool, true, false, cond, ◌&&◌, List, [], ◌∷◌, ◌++◌, sym, refl, subst}
use Rattle.text.specs.Bytes.{Text}
use Rattle.request.specs.Canonical.{Req}
use Rattle.connection.specs.Model.{Ear, Response, Owner, Conn, whole, fresh, has_room, asked, down, put, gave, Event, asks, says}
use Rattle.connection_laws.specs.Laws.{Unwanted}
use Rattle.connection_laws.specs.Moments.{Rests, Leads, start, asking, hearing, handing, falling}
use Rattle.connection_laws.proofs.Turns.{Gift, gift_of, fall_of}

-- By what a step is made of. Each is told the moment before it, and an event also the one after it.
pub record Kept (e : Ear) (P : List Event → Conn → Type 0) : Type 0 where
  pub at_start : P [] fresh
  pub at_ask : (xs : List Event) (p : ℕ) (q : Req) (c : Conn) → Leads e xs c → Rests e c → Leads e (xs ++ (asks p q ∷ [])) (asked p q c) → c.up ≡ true → has_room c ≡ true → P xs c → P (xs ++ (asks p q ∷ [])) (asked p q c)
  pub at_refusal : (xs : List Event) (p : ℕ) (q : Req) (c : Conn) → Leads e xs c → Rests e c → Leads e (xs ++ (asks p q ∷ [])) c → (c.up && has_room c) ≡ false → P xs c → P (xs ++ (asks p q ∷ [])) c
  pub at_say : (xs : List Event) (s : Text) (c : Conn) → Leads e xs c → Rests e c → Leads e (xs ++ (says s ∷ [])) (put s c) → c.up ≡ true → P xs c → P (xs ++ (says s ∷ [])) (put s c)
  pub at_deaf : (xs : List Event) (s : Text) (c : Conn) → Leads e xs c → Rests e c → Leads e (xs ++ (says s ∷ [])) c → c.up ≡ false → P xs c → P (xs ++ (says s ∷ [])) c
  pub at_gift : (xs : List Event) (c : Conn) (o : Owner) (os : List Owner) (a : Response) (rest : Text) → Leads e xs c → c.up ≡ true → c.waiting ≡ o ∷ os → e o.method c.part ≡ whole a rest → P xs c → P xs (gave o a os rest c)
  pub at_fall : (xs : List Event) (c : Conn) → Leads e xs c → c.up ≡ true → Unwanted e c.waiting c.part → P xs c → P xs (down c)

module _ (e : Ear) (P : List Event → Conn → Type 0) (k : Kept e P) where
  by_room : (xs : List Event) (p : ℕ) (q : Req) (c : Conn) (u r : Bool) → c.up ≡ u → has_room c ≡ r → Leads e xs c → Rests e c → Leads e (xs ++ (asks p q ∷ [])) (cond (u && r) (asked p q c) c) → P xs c →
      P (xs ++ (asks p q ∷ [])) (cond (u && r) (asked p q c) c)
  by_room xs p q c true true u r l s n h = k.at_ask xs p q c l s n u r h
  by_room xs p q c true false u r l s n h = k.at_refusal xs p q c l s n (rw (u, r) refl) h
  by_room xs p q c false r u t l s n h = k.at_refusal xs p q c l s n (rw u refl) h

  by_up : (xs : List Event) (s : Text) (c : Conn) (u : Bool) → c.up ≡ u → Leads e xs c → Rests e c → Leads e (xs ++ (says s ∷ [])) (cond u (put s c) c) → P xs c → P (xs ++ (says s ∷ [])) (cond u (put s c) c)
  by_up xs s c true u l r n h = k.at_say xs s c l r n u h
  by_up xs s c false u l r n h = k.at_deaf xs s c l r n u h

  given_to : (xs : List Event) (c d : Conn) → Gift e c d → Leads e xs c → P xs c → P xs d
  given_to xs c d g l h = subst (P xs) (sym g.is) (k.at_gift xs c g.to g.behind g.response g.rest l g.up g.waits g.found h)

  pub kept : {vs : List Event} {c : Conn} → Leads e vs c → P vs c
  kept start = k.at_start
  kept (asking {vs} {c} p q l r) = by_room vs p q c c.up (has_room c) refl refl l r (asking p q l r) (kept l)
  kept (hearing {vs} {c} s l r) = by_up vs s c c.up refl l r (hearing s l r) (kept l)
  kept (handing {vs} {c} d l g) = given_to vs c d (gift_of e c d g) l (kept l)
  kept (falling {vs} {c} l g) = let f = fall_of e c g in k.at_fall vs c l f.up f.unwanted (kept l)
