-- Whom a response is owed to: each owner that waits at a server is that of a client that waits for just this server, and no client is owed two.
use Rattle.std.proofs.Common.{◌≡◌, ◌≢◌, ℕ, ◌<◌, cond, List, [], ◌∷◌, ◌++◌, sym, refl, ap, ◌∙◌, subst, ⊎_elim}
use Rattle.std.specs.Prelude.{◌==◌}
use Rattle.std.specs.List.{Contains}
use Rattle.std.proofs.lemmas.Bool.{cases_eq}
use Rattle.std.proofs.lemmas.List.Elements.{Contains-push_cases}
use Rattle.connection.specs.Model.{Owner, Response, Conn}
use Rattle.connection_laws.proofs.Ordered.{contains_first, contains_behind}
use Rattle.proxy.specs.Model.{client_count, Doing, nothing, hears, tells}
use Rattle.proxy_laws.specs.Clients.{Asked, Now, reading, waiting}
use Rattle.proxy_laws.proofs.Projections.{own, other}

-- the owner's client waits, for this server, and by this owner
pub record Whose (now : ℕ → Now) (k : ℕ) (o : Owner) : Type 0 where
  pub few : o.client < client_count
  pub asked : Asked
  pub early : List Response
  pub is : now o.client ≡ waiting asked early
  pub server : asked.server ≡ k
  pub owner : asked.owner ≡ o

-- no owner stands there twice
abbrev pub Apart : List Owner → Type 0
Apart [] = Unit {0}
Apart (o ∷ os) = (Contains os o → ⊥) × Apart os

pub record Owed (now : ℕ → Now) (k : ℕ) (os : List Owner) : Type 0 where
  pub whose : (o : Owner) → Contains os o → Whose now k o
  pub apart : Apart os

-- the owners of a server that are still to be told, and those that wait
abbrev pub untold : ℕ → Doing → List Owner
untold k nothing = []
untold k (hears j) = []
untold k (tells j os) = cond (j == k) os []

abbrev pub pending : ℕ → Doing → Conn → List Owner
pending k doing c = untold k doing ++ c.waiting

-- one client is at n now, and all others are where they were
abbrev pub now_at : (ℕ → Now) → ℕ → Now → ℕ → Now
now_at now c n d = cond (d == c) n (now d)

apart_push : (os : List Owner) (o : Owner) → Apart os → (Contains os o → ⊥) → Apart (os ++ (o ∷ []))
apart_push [] o a n = (λ m. n m, tt)
apart_push (p ∷ os) o a n = (
  λ m. ⊎_elim a.0 (λ same. n (subst (Contains (p ∷ os)) (sym same) (contains_first p os))) (Contains-push_cases os o p m),
  apart_push os o a.1 (λ m. n (contains_behind p os o m)),
)

-- two that stand for the same client are one
module _ (now : ℕ → Now) (j k : ℕ) (p o : Owner) (x : Whose now j p) (y : Whose now k o) (same : p.client ≡ o.client) where
  at_once : waiting x.asked x.early ≡ waiting y.asked y.early
  at_once = sym x.is ∙ ap now same ∙ y.is

  pub one_asked : x.asked ≡ y.asked
  one_asked = let e = at_once in cc

  pub one_server : j ≡ k
  one_server = sym x.server ∙ ap (λ (a : Asked). a.server) one_asked ∙ y.server

  pub one_owner : p ≡ o
  one_owner = sym x.owner ∙ ap (λ (a : Asked). a.owner) one_asked ∙ y.owner

module _ (now : ℕ → Now) (c : ℕ) (n : Now) where
  pub now_same : now_at now c n c ≡ n
  now_same = own c c n (now c) refl

  pub now_other : (d : ℕ) → d ≢ c → now_at now c n d ≡ now d
  now_other d m = other d c n (now d) m

  whose_other : (k : ℕ) (o : Owner) → o.client ≢ c → Whose now k o → Whose (now_at now c n) k o
  whose_other k o m w = record { few = w.few; asked = w.asked; early = w.early; is = now_other o.client m ∙ w.is; server = w.server; owner = w.owner }

  -- nobody waits for a client that reads
  module _ (r : now c ≡ reading) where
    pub not_owed : (k : ℕ) (o : Owner) → Whose now k o → o.client ≢ c
    not_owed k o w e = let both : waiting w.asked w.early ≡ reading = sym w.is ∙ ap now e ∙ r in cc

    pub owed_reader : (k : ℕ) (os : List Owner) → Owed now k os → Owed (now_at now c n) k os
    owed_reader k os h = record { whose = λ o m. let w = h.whose o m in whose_other k o (not_owed k o w) w; apart = h.apart }

-- the request of a client goes out, and its owner waits behind the others
pub owed_push : (now : ℕ → Now) (c k : ℕ) (os : List Owner) (a : Asked) → now c ≡ reading → c < client_count → a.server ≡ k → a.owner.client ≡ c → Owed now k os → Owed (now_at now c (waiting a [])) k (os ++ (a.owner ∷ []))
owed_push now c k os a r few s own_client h =
    let n : Now = waiting a [] in
    record {
      whose = λ o m. ⊎_elim (λ i. (owed_reader now c n r k os h).whose o i)
          (λ same. subst (Whose (now_at now c n) k) same (record { few = subst (λ d. d < client_count) (sym own_client) few; asked = a; early = []; is = ap (now_at now c n) own_client ∙ now_same now c n; server = s; owner = refl }))
          (Contains-push_cases os a.owner o m);
      apart = apart_push os a.owner h.apart (λ m. not_owed now c n r k a.owner (h.whose a.owner m) own_client);
    }

-- an early response was given to an owner, which goes on waiting
pub owed_early : (now : ℕ → Now) (k j : ℕ) (o : Owner) (w : Whose now k o) (early : List Response) (ps : List Owner) → Owed now j ps → Owed (now_at now o.client (waiting w.asked early)) j ps
owed_early now k j o w early ps h =
    let n : Now = waiting w.asked early in
    record {
      whose = λ p m. let x = h.whose p m in
          ⊎_elim (λ same. record { few = x.few; asked = w.asked; early = early; is = ap (now_at now o.client n) same ∙ now_same now o.client n; server = ap (λ (a : Asked). a.server) (sym (one_asked now j k p o x w same)) ∙ x.server; owner = ap (λ (a : Asked). a.owner) (sym (one_asked now j k p o x w same)) ∙ x.owner })
          (λ d. whose_other now o.client n j p d x) (cases_eq p.client o.client);
      apart = h.apart;
    }

-- nothing more is owed to an owner, which waits nowhere any more
pub owed_done : (now : ℕ → Now) (k j : ℕ) (o : Owner) (w : Whose now k o) (ps : List Owner) → (j ≡ k → Contains ps o → ⊥) → Owed now j ps → Owed (now_at now o.client reading) j ps
owed_done now k j o w ps gone h = record {
  whose = λ p m. let x = h.whose p m in
      ⊎_elim (λ same. absurd (gone (one_server now j k p o x w same) (subst (Contains ps) (one_owner now j k p o x w same) m)))
      (λ d. whose_other now o.client reading j p d x) (cases_eq p.client o.client);
  apart = h.apart;
}

-- the others, behind the first
pub owed_behind : (now : ℕ → Now) (k : ℕ) (o : Owner) (os : List Owner) → Owed now k (o ∷ os) → Owed now k os
owed_behind now k o os h = record { whose = λ p m. h.whose p (contains_behind o os p m); apart = h.apart.1 }
