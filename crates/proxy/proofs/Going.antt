-- A client that reads goes on: one turn of the model.
use Rattle.std.proofs.Common.{◌≡◌, ℕ, ◌<◌, Bool, true, false, cond, List, [], ◌∷◌, length, drop, set, Some, None, sym, refl, ap, ◌∙◌, subst, slice_get, arith}
use Rattle.std.proofs.lemmas.List.{drop_all}
use Rattle.text.specs.Bytes.{Text}
use Rattle.message.specs.Faults.{ends_client}
use Rattle.message.specs.declared.fault.Fault.{Fault}
use Rattle.request.specs.Reading.{memory_size}
use Rattle.request.specs.declared.reading.Reading.{Reading}
use Rattle.request.specs.declared.reading.Reading.TheVariants.{InHead}
use Rattle.request_laws.specs.Outcome.{Outcome, outcome}
use Rattle.request_laws.specs.Pieces.{InHand}
use Rattle.request_laws.proofs.OnePiece.{begins}
use Rattle.response_laws.specs.Ear.{ear}
use Rattle.proxy.specs.Model.{Servers, Client, Gate, reads, refuses, ends, client_count, bytes_of, changed, taken, wanting, refused, ended_at, refused_at, turn, on_doing, on_line, on_client, on_stage, on_outcome}
use Rattle.proxy.specs.Model.{ended as over}
use Rattle.proxy.specs.Slots.{client_slot}
use Rattle.proxy.specs.Stands.{servers_of, ClientStands, Holds, Stands}
use Rattle.proxy.specs.Steps.{left_by, refused_by, set_to, taken_by}
use Rattle.proxy.specs.Calls.{Turned, Unread}
use Rattle.proxy.specs.declared.state.Proxy.{Proxy}
use Rattle.proxy.specs.declared.state.Client.{Client as Held}
use Rattle.proxy.specs.declared.state.Client.TheVariants.{Reads, Ended}
use Rattle.proxy.specs.declared.client.Did.TheVariants.{Nothing, Refused}
use Rattle.proxy.proofs.Holding.{OnlySlot, client_held}
use Rattle.proxy.proofs.Places.{changed_here}
use Rattle.proxy.proofs.Slots.{slot_long}

-- A client c that reads is first in the line, behind it are cs; its slot may have been written.
pub record Goes (old : Proxy) (memory then : Text) (g : Gate) (c : ℕ) (x : Client) (cs : List ℕ) : Type 0 where
  pub held : Held
  pub stands : Stands (servers_of old) old memory g
  pub line : g.line ≡ c ∷ cs
  pub is : slice_get g.clients c ≡ Some x
  pub place : slice_get old.clients c ≡ Some held
  pub few : c < client_count
  pub wrote : OnlySlot c memory then
  pub stage : x.stage ≡ reads

module _ (old : Proxy) (memory then out after : Text) (g : Gate) (c : ℕ) (x : Client) (cs : List ℕ) (go : Goes old memory then g c x cs) where
  abbrev servers : Servers
  servers = servers_of old

  abbrev slot : Text
  slot = client_slot c then

  -- the turn of the model, by what is found in its bytes
  pub turn_is : (o : Outcome) → outcome servers.names (bytes_of x) ≡ o → turn servers ear g ≡ Some (on_outcome servers ear g c cs o)
  turn_is o e =
      ap (on_doing servers ear g) go.stands.quiet.1 ∙ ap (on_line servers ear g) go.line ∙ ap (λ y. Some (on_client servers ear g c cs y)) go.is ∙ ap (λ s. Some (on_stage servers ear g c cs x s)) go.stage ∙
      ap (λ p. Some (on_outcome servers ear g c cs p)) e

  slot_size : length slot ≡ memory_size
  slot_size = let h = go.few in slot_long c then (go.wrote.long ∙ go.stands.holds.size) (omega arith)

  rest_is : drop 1 old.line.items ≡ cs
  rest_is = ap (drop 1) (go.stands.holds.line ∙ go.line)

  -- it leaves the line, or stays first in it
  pub left_stands : (new : Proxy) (h : Held) (f : Client → Client) → new ≡ left_by c h old → ClientStands servers.names slot h (f x) → Stands servers new then (record g { clients = changed f c g.clients; line = cs })
  left_stands new h f e s =
      let holds = client_held servers old memory g None go.stands.holds c then go.held h x f cs go.few go.wrote go.place go.is s in
      let g' : Gate = record g { clients = changed f c g.clients; line = cs } in
      subst (λ p. Stands servers p then g') (sym (e ∙ ap (λ l. record old { clients = set old.clients c h; line = record { items = l } }) rest_is)) (record { holds = holds; quiet = go.stands.quiet })

  pub stays_stands : (new : Proxy) (h : Held) (f : Client → Client) → new ≡ set_to c h old → ClientStands servers.names slot h (f x) → Stands servers new then (record g { clients = changed f c g.clients })
  stays_stands new h f e s =
      let holds = client_held servers old memory g None go.stands.holds c then go.held h x f old.line.items go.few go.wrote go.place go.is s in
      let g' : Gate = record g { clients = changed f c g.clients } in
      let moved : Holds servers (set_to c h old) then g' None = subst (λ l. Holds servers (set_to c h old) then (record g { clients = changed f c g.clients; line = l }) None) go.stands.holds.line holds in
      subst (λ p. Stands servers p then g') (sym e) (record { holds = moved; quiet = go.stands.quiet })

  -- what is unread then
  pub unread_is : (f : Client → Client) (line : List ℕ) (s : Text) → (f x).unread ≡ s → Unread c s (record g { clients = changed f c g.clients; line = line })
  unread_is f line s e = (f x, changed_here f g.clients c x go.is, e)

  -- MORE IS WANTED
  pub wanting_turns : (new : Proxy) (o : Outcome) (r : Reading) (k : ℕ) → outcome servers.names (bytes_of x) ≡ o → on_outcome servers ear g c cs o ≡ wanting g c cs → k ≡ length x.unread → InHand servers.names r slot (bytes_of x) →
      new ≡ left_by c (Reads r) old → after ≡ out → Turned servers g new then x.unread out after c Nothing k
  wanting_turns new o r k e w all h n same = (
    wanting g c cs,
    turn_is o e ∙ ap (λ d. Some d) w,
    (refl, same),
    left_stands new (Reads r) (λ y. record y { hand = bytes_of y; unread = [] }) n (go.stage, h),
    unread_is (λ y. record y { hand = bytes_of y; unread = [] }) cs (drop k x.unread) (sym (drop_all k x.unread (omega (arith, all)))),
  )

  -- IT IS REFUSED
  refused_turns_by : (new : Proxy) (f : Fault) (n k : ℕ) (b : Bool) → ends_client f ≡ b → turn servers ear g ≡ Some (cond b (ended_at g c cs f) (refused_at g c f n)) → new ≡ cond b (left_by c Ended old) (set_to c (Reads (InHead 0)) old) → after ≡ out →
      (b ≡ false → drop n (bytes_of x) ≡ drop k x.unread) → Turned servers g new then x.unread out after c (Refused f) (cond b (length x.unread) k)
  refused_turns_by new f n k true b t e same rest = (
    ended_at g c cs f,
    t,
    (ap (λ (u : Bool). cond u (refuses c f ∷ ends c ∷ []) (refuses c f ∷ [])) (sym b), same),
    left_stands new Ended (λ y. record { stage = over; hand = []; unread = [] }) e (refl, refl, refl),
    unread_is (λ y. record { stage = over; hand = []; unread = [] }) cs (drop (length x.unread) x.unread) (sym (drop_all (length x.unread) x.unread (omega arith))),
  )
  refused_turns_by new f n k false b t e same rest = (
    refused_at g c f n,
    t,
    (ap (λ (u : Bool). cond u (refuses c f ∷ ends c ∷ []) (refuses c f ∷ [])) (sym b), same),
    stays_stands new (Reads (InHead 0)) (taken n reads) e (refl, begins servers.names slot slot_size),
    unread_is (taken n reads) g.line (drop k x.unread) (rest refl),
  )

  pub refused_turns : (new : Proxy) (f : Fault) (n k : ℕ) → turn servers ear g ≡ Some (refused g c cs f n) → new ≡ refused_by c f old → after ≡ out → (ends_client f ≡ false → drop n (bytes_of x) ≡ drop k x.unread) →
      Turned servers g new then x.unread out after c (Refused f) (taken_by (Refused f) (length x.unread) k)
  refused_turns new f n k t e same rest = refused_turns_by new f n k (ends_client f) refl t e same rest
