-- A client goes on: one turn of the model, by what was read of it.
use Rattle.std.proofs.Common.{◌≡◌, ℕ, ◌+◌, ◌*◌, ◌^◌, ◌<◌, ◌≤◌, Bool, true, false, cond, List, [], ◌∷◌, ◌++◌, length, drop, Some, None, Ok, Err, Option, Result, sym, refl, ap, ◌∙◌, subst, slice_get, nat_lt, ◌==◌}
use borrow.Rule.Slice.PartMut.{put_mid}
use Rattle.std.proofs.lemmas.Bool.{eqb-true, ltb-false}
use Rattle.std.proofs.Math.Seq.{drop-append-add}
use Rattle.arrayvec.specs.ArrayVec.{ArrayVec}
use Rattle.message.specs.declared.fault.Unfit.{Unfit}
use Rattle.text.specs.Bytes.{Text}
use Rattle.request.specs.Found.{passed, more, fault}
use Rattle.request.specs.Reading.{memory_size}
use Rattle.request.specs.declared.reading.Fed.{Fed}
use Rattle.request.specs.declared.reading.Reading.{Reading}
use Rattle.request_laws.specs.Laws.{finding_of}
use Rattle.request_laws.specs.Outcome.{Outcome, wants, broken, whole, outcome}
use Rattle.request_laws.specs.Pieces.{Takes}
use Rattle.response_laws.specs.Ear.{ear}
use Rattle.proxy.specs.Model.{Servers, Client, Gate, Stage, reads, client_count, bytes_of, passed_over, on_doing, on_line, on_client, on_stage}
use Rattle.proxy.specs.Model.{waits as waiting}
use Rattle.proxy.specs.Model.{ended as over}
use Rattle.proxy.specs.Slots.{slab_size, client_slot}
use Rattle.proxy.specs.Stands.{servers_of, ClientStands, ClientPlace, Stands}
use Rattle.proxy.specs.Steps.{OnFinding, ReadSo, reading_in, taken_by}
use Rattle.proxy.specs.Calls.{Turned, entry_of, first_of, first_or}
use Rattle.proxy.specs.declared.state.Misuse.{Misuse}
use Rattle.proxy.specs.declared.state.Misuse.TheVariants.{Early, Memory, Room}
use Rattle.proxy.specs.declared.state.Proxy.{Proxy}
use Rattle.proxy.specs.declared.state.Client.{Client as Held}
use Rattle.proxy.specs.declared.state.Client.TheVariants.{Reads, Waits, Ended}
use Rattle.proxy.specs.declared.client.Turn.{Turn}
use Rattle.proxy.specs.declared.client.Did.{Did}
use Rattle.proxy.specs.declared.client.Did.TheVariants.{Nothing, Refused}
use Rattle.proxy.proofs.Breaks.{broken_ends, whole_found}
use Rattle.proxy.proofs.Going.{Goes, turn_is, wanting_turns, refused_turns}
use Rattle.proxy.proofs.Holding.{OnlySlot, place_held, held_there, line_held}
use Rattle.proxy.proofs.Sending.{did_is, pass_turns}
use Rattle.proxy.proofs.Slots.{slot_there, put_long}

-- a list with a first element
first_is : (xs : List ℕ) (c : ℕ) → slice_get xs 0 ≡ Some c → xs ≡ c ∷ drop 1 xs
first_is [] c e = let clash = e in cc
first_is (d ∷ xs) c e = cc

-- a whole request ends in the unread bytes
rest_of : (x : Client) (n k : ℕ) → length x.hand + k ≡ n → drop n (bytes_of x) ≡ drop k x.unread
rest_of x n k e = ap (λ m. drop m (x.hand ++ x.unread)) (sym e) ∙ drop-append-add x.hand x.unread k

module _ (old new : Proxy) (memory then out after : Text) (g : Gate) (c : ℕ) (x : Client) (cs : List ℕ) (go : Goes old memory then g c x cs) (room : memory_size ≤ length out) (fed : Fed) (did : Did) where
  abbrev names : List Text
  names = (servers_of old).names

  abbrev Goal : Type 0
  Goal = Turned (servers_of old) g new then x.unread out after c did (taken_by did (length x.unread) fed.taken)

  as_did : (d : Did) → ◌≡◌ {A = Result Did Unfit} (Ok did) (Ok d) → Turned (servers_of old) g new then x.unread out after c d (taken_by d (length x.unread) fed.taken) → Goal
  as_did d e t = subst (λ y. Turned (servers_of old) g new then x.unread out after c y (taken_by y (length x.unread) fed.taken)) (sym (did_is did d e)) t

  by_outcome : (o : Outcome) → outcome names (bytes_of x) ≡ o → Takes names x.hand x.unread fed (client_slot c then) o → OnFinding c fed.reading out after old new (Ok did) (finding_of o) → Goal
  by_outcome wants e (all, h) (d, n, same) = as_did Nothing d (wanting_turns old memory then out after g c x cs go new wants fed.reading fed.taken e refl all h n same)
  by_outcome (broken w) e k (d, n, same) =
      let ends = broken_ends names (bytes_of x) w e in
      as_did (Refused w.fault) d (refused_turns old memory then out after g c x cs go new w.fault 0 fed.taken (turn_is old memory then out after g c x cs go (broken w) e) n same (λ f. absurd (let clash = sym ends ∙ f in cc)))
  by_outcome (whole (passed s q) n) e (sum, within) (mid, a, p, h) = pass_turns old memory then out after g c x cs go s q n fed.taken e room (rest_of x n fed.taken sum) new mid did a p h
  by_outcome (whole more n) e k h = elim (whole_found names (bytes_of x) n e) [ ]
  by_outcome (whole (fault w) n) e (sum, within) (d, m, same) =
      as_did (Refused w.fault) d (refused_turns old memory then out after g c x cs go new w.fault n fed.taken (turn_is old memory then out after g c x cs go (whole (fault w) n) e) m same (λ f. rest_of x n fed.taken sum))

-- A CLIENT THAT READS goes on.
abbrev GoesFor : Proxy → Proxy → Text → Text → Text → Text → Gate → ℕ → Client → Text → Result Turn Misuse → Servers → Type 0
GoesFor old new memory then out after g c x unread result servers =
    Stands servers old memory g → x.unread ≡ unread → (t : Turn) × (result ≡ Ok t) × (t.client ≡ c) × Turned servers g new then unread out after c t.did t.taken

goes_at : (old new : Proxy) (memory then out after : Text) (g : Gate) (c : ℕ) (x : Client) (r : Reading) (result : Result Turn Misuse) → Stands (servers_of old) old memory g → slice_get old.line.items 0 ≡ Some c →
    slice_get g.clients c ≡ Some x → slice_get old.clients c ≡ Some (Reads r) → c < client_count → OnlySlot c memory then → memory_size ≤ length out → length (bytes_of x) < 2 ^ 64 →
    ReadSo c r (client_slot c memory) (client_slot c then) x.unread out after old new result → (t : Turn) × (result ≡ Ok t) × (t.client ≡ c) × Turned (servers_of old) g new then x.unread out after c t.did t.taken
goes_at old new memory then out after g c x r result st first is place few wrote room short read =
    let s = place_held (servers_of old).names (client_slot c memory) (slice_get old.clients c) (slice_get g.clients c) (Reads r) x place is (st.holds.clients c) in
    let found = read x.hand s.1 short in
    let line : g.line ≡ c ∷ drop 1 g.line = first_is g.line c (ap (λ l. slice_get l 0) (sym st.holds.line) ∙ first) in
    let go : Goes old memory then g c x (drop 1 g.line) = record { held = Reads r; stands = st; line = line; is = is; place = place; few = few; wrote = wrote; stage = s.0 } in (
      record { client = c; taken = taken_by found.1 (length x.unread) found.0.taken; did = found.1 },
      found.2,
      refl,
      by_outcome old new memory then out after g c x (drop 1 g.line) go room found.0 found.1 (outcome (servers_of old).names (bytes_of x)) refl found.3.1 found.4,
    )

pub goes : (servers : Servers) (old new : Proxy) (memory then out after : Text) (g : Gate) (c : ℕ) (x : Client) (r : Reading) (unread : Text) (result : Result Turn Misuse) → Stands servers old memory g → slice_get old.line.items 0 ≡ Some c →
    slice_get g.clients c ≡ Some x → x.unread ≡ unread → slice_get old.clients c ≡ Some (Reads r) → c < client_count → OnlySlot c memory then → memory_size ≤ length out → length (bytes_of x) < 2 ^ 64 →
    ReadSo c r (client_slot c memory) (client_slot c then) unread out after old new result → (t : Turn) × (result ≡ Ok t) × (t.client ≡ c) × Turned servers g new then unread out after c t.did t.taken
goes servers old new memory then out after g c x r unread result st first is un place few wrote room short read =
    let e = st.holds.settings in
    let st' : Stands (servers_of old) old memory g = subst (λ s. Stands s old memory g) (sym e) st in
    let at = goes_at old new memory then out after g c x r result st' first is place few wrote room short (subst (λ u. ReadSo c r (client_slot c memory) (client_slot c then) u out after old new result) (sym un) read) in (
      at.0,
      at.1,
      at.2,
      subst (λ u. Turned servers g new then u out after c at.0.did at.0.taken) un (subst (λ s. Turned s g new then x.unread out after c at.0.did at.0.taken) e at.3),
    )

-- A CLIENT THAT DOES NOT READ is passed over.
passed_by : (servers : Servers) (g : Gate) (c : ℕ) (x : Client) (cs : List ℕ) (st : Stage) → x.stage ≡ st → (x.stage ≡ reads → ⊥) → on_stage servers ear g c cs x st ≡ passed_over g cs
passed_by servers g c x cs reads e h = elim (h e) [ ]
passed_by servers g c x cs waiting e h = refl
passed_by servers g c x cs over e h = refl

not_reading : (names : List Text) (slot : Text) (h : Held) (x : Client) → reading_in (Some h) ≡ None → ClientStands names slot h x → x.stage ≡ reads → ⊥
not_reading names slot (Reads r) x e s f = let clash = e in cc
not_reading names slot Waits x e s f = let clash = sym s.0 ∙ f in cc
not_reading names slot Ended x e s f = let clash = sym s.0 ∙ f in cc

pub passes : (servers : Servers) (old : Proxy) (line : ArrayVec ℕ) (memory out : Text) (g : Gate) (c : ℕ) (x : Client) (unread : Text) → Stands servers old memory g → slice_get old.line.items 0 ≡ Some c →
    slice_get g.clients c ≡ Some x → x.unread ≡ unread → reading_in (slice_get old.clients c) ≡ None → line.items ≡ drop 1 old.line.items →
    Turned servers g (record old { line = line }) memory unread out out c Nothing 0
passes servers old line memory out g c x unread st first is un none rest =
    let there = held_there servers.names (client_slot c memory) (slice_get old.clients c) x (subst (λ o. ClientPlace servers.names (client_slot c memory) (slice_get old.clients c) o) is (st.holds.clients c)) in
    let s = place_held servers.names (client_slot c memory) (slice_get old.clients c) (slice_get g.clients c) there.0 x there.1 is (st.holds.clients c) in
    let never = not_reading servers.names (client_slot c memory) there.0 x (ap reading_in (sym there.1) ∙ none) s in
    let line_is : g.line ≡ c ∷ drop 1 g.line = first_is g.line c (ap (λ l. slice_get l 0) (sym st.holds.line) ∙ first) in
    let cs = drop 1 g.line in
    let held = line_held servers old memory g None st.holds cs in
    let line_then : line ≡ record { items = cs } = ap (λ l. record { items = l }) (rest ∙ ap (drop 1) st.holds.line) in (
      passed_over g cs,
      ap (on_doing servers ear g) st.quiet.1 ∙ ap (on_line servers ear g) line_is ∙ ap (λ y. Some (on_client servers ear g c cs y)) is ∙ ap (λ d. Some d) (passed_by servers g c x cs x.stage refl never),
      (refl, refl),
      subst (λ l. Stands servers (record old { line = l }) memory (record g { line = cs })) (sym line_then) (record { holds = held; quiet = st.quiet }),
      (x, is, un),
    )

-- AT THE DOOR: what is known where a client may go on
pub record Entered (p : Proxy) (memory room c : ℕ) : Type 0 where
  pub sized : memory ≡ slab_size
  pub roomy : memory_size ≤ room
  pub first : slice_get p.line.items 0 ≡ Some c

by_first : (o : Option ℕ) (c : ℕ) → first_or o ≡ Ok c → o ≡ Some c
by_first None c e = let clash = e in cc
by_first (Some d) c e = cc

by_room : (p : Proxy) (room c : ℕ) (b : Bool) → nat_lt room memory_size ≡ b → cond b (Err Room) (first_or (first_of p)) ≡ Ok c → (memory_size ≤ room) × (first_of p ≡ Some c)
by_room p room c true e h = let clash = h in cc
by_room p room c false e h = (ltb-false room memory_size e, by_first (first_of p) c h)

by_size : (p : Proxy) (memory room c : ℕ) (b : Bool) → (memory == slab_size) ≡ b → cond b (cond (nat_lt room memory_size) (Err Room) (first_or (first_of p))) (Err Memory) ≡ Ok c → (memory ≡ slab_size) × (memory_size ≤ room) × (first_of p ≡ Some c)
by_size p memory room c true e h = let k = by_room p room c (nat_lt room memory_size) refl h in (eqb-true memory slab_size e, k.0, k.1)
by_size p memory room c false e h = let clash = h in cc

by_hears : (p : Proxy) (memory room c : ℕ) (b : Bool) → p.hears ≡ b → cond b (Err Early) (cond (memory == slab_size) (cond (nat_lt room memory_size) (Err Room) (first_or (first_of p))) (Err Memory)) ≡ Ok c → Entered p memory room c
by_hears p memory room c true e h = let clash = h in cc
by_hears p memory room c false e h =
    let k = by_size p memory room c (memory == slab_size) refl h in
    record { sized = k.0; roomy = k.1; first = ap (λ (b : Bool). cond b None (slice_get p.line.items 0)) (sym e) ∙ k.2 }

pub entered : (p : Proxy) (memory room c : ℕ) → entry_of p memory room ≡ Ok c → Entered p memory room c
entered p memory room c h = by_hears p memory room c p.hears refl h

-- the slot of a client is written, and no other
pub slot_written : (c k : ℕ) (memory ys : Text) → k ≡ memory_size → length ys ≡ memory_size → c * memory_size + memory_size ≤ length memory → OnlySlot c memory (put_mid (c * memory_size) k memory ys)
slot_written c k memory ys e long within = record { long = put_long c k memory ys e long within; others = λ j h. slot_there c j k memory ys e long within h }

pub reading_place : (o : Option Held) (r : Reading) → reading_in o ≡ Some r → o ≡ Some (Reads r)
reading_place None r e = let clash = e in cc
reading_place (Some (Reads q)) r e = cc
reading_place (Some Waits) r e = let clash = e in cc
reading_place (Some Ended) r e = let clash = e in cc
