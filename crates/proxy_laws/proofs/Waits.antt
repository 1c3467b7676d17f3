-- Who waits for a response is still owed it, and stays so where others have a step.
use Rattle.std.proofs.Common.{◌≡◌, ◌≢◌, ℕ, List, sym, ap, ◌∙◌, subst, ⊎_elim}
use Rattle.std.specs.Prelude.{Some, slice_get}
use Rattle.std.specs.List.{Contains}
use Rattle.std.proofs.lemmas.Bool.{cases_eq}
use Rattle.connection.specs.Model.{Conn, Owner, Response}
use Rattle.proxy.specs.Model.{Doing, changed}
use Rattle.proxy_laws.specs.Clients.{Asked, Now, waiting}
use Rattle.proxy_laws.proofs.Changed.{changed_here, changed_elsewhere}
use Rattle.proxy_laws.proofs.Owed.{pending, now_at, now_same, now_other}

-- this owner is one of those who wait at the server k, or are to be told
abbrev pub Waiting : List Conn → Doing → ℕ → Owner → Type 0
Waiting ds w k o = (d : Conn) × (slice_get ds k ≡ Some d) × Contains (pending k w d) o

-- each client that waits does so by an owner of its own
abbrev pub Waits : (ℕ → Now) → List Conn → Doing → Type 0
Waits now ds w = (c : ℕ) (a : Asked) (early : List Response) → now c ≡ waiting a early → (a.owner.client ≡ c) × Waiting ds w a.server a.owner

-- owners for which this holds wait on
abbrev pub Onward : (Owner → Type 0) → List Conn → Doing → List Conn → Doing → Type 0
Onward On ds w es v = (k : ℕ) (o : Owner) → On o → Waiting ds w k o → Waiting es v k o

-- all do
abbrev pub Any : Owner → Type 0
Any o = Unit {0}

-- those of other clients do
abbrev pub Not : ℕ → Owner → Type 0
Not c o = o.client ≢ c

pub onward_same : (On : Owner → Type 0) (ds : List Conn) (w v : Doing) → ((k : ℕ) (d : Conn) (o : Owner) → slice_get ds k ≡ Some d → On o → Contains (pending k w d) o → Contains (pending k v d) o) → Onward On ds w ds v
onward_same On ds w v f k o on x = (x.0, x.1, f k x.0 o x.1 on x.2)

-- where one connection is changed
pub onward_changed : (On : Owner → Type 0) (ds : List Conn) (w v : Doing) (f : Conn → Conn) (s : ℕ) → ((d : Conn) (o : Owner) → slice_get ds s ≡ Some d → On o → Contains (pending s w d) o → Contains (pending s v (f d)) o) →
    ((k : ℕ) (d : Conn) (o : Owner) → k ≢ s → Contains (pending k w d) o → Contains (pending k v d) o) → Onward On ds w (changed f s ds) v
onward_changed On ds w v f s there others k o on x =
    ⊎_elim
    (λ same. let at : slice_get ds s ≡ Some x.0 = subst (λ j. slice_get ds j ≡ Some x.0) same x.1 in
    subst (λ j. Waiting (changed f s ds) v j o) (sym same) (f x.0, changed_here f ds s x.0 at, there x.0 o at on (subst (λ j. Contains (pending j w x.0) o) same x.2)))
    (λ n. (x.0, changed_elsewhere f ds s k n ∙ x.1, others k x.0 o n x.2)) (cases_eq k s)

pub waits_on : (now : ℕ → Now) (ds : List Conn) (w : Doing) (es : List Conn) (v : Doing) → Onward Any ds w es v → Waits now ds w → Waits now es v
waits_on now ds w es v f h c a early e = let x = h c a early e in (x.0, f a.server a.owner tt x.1)

-- where a client has a step
pub waits_step : (now : ℕ → Now) (ds : List Conn) (w : Doing) (es : List Conn) (v : Doing) (c : ℕ) (n : Now) → Onward (Not c) ds w es v → ((a : Asked) (early : List Response) → n ≡ waiting a early → (a.owner.client ≡ c) × Waiting es v a.server a.owner) →
    Waits now ds w → Waits (now_at now c n) es v
waits_step now ds w es v c n f mine h d a early e =
    ⊎_elim
    (λ same. let m = mine a early (sym (ap (now_at now c n) same ∙ now_same now c n) ∙ e) in (m.0 ∙ sym same, m.1))
    (λ other. let x = h d a early (sym (now_other now c n d other) ∙ e) in (x.0, f a.server a.owner (λ z. other (sym x.0 ∙ z)) x.1)) (cases_eq d c)
