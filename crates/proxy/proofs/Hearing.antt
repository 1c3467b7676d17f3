-- What comes next of a server's piece that is being heard.
use Rattle.std.proofs.Common.{◌≡◌, ℕ, suc, ◌+◌, ◌*◌, ◌<◌, ◌≤◌, Bool, true, false, cond, List, [], ◌∷◌, ◌++◌, length, take, drop, Some, None, Ok, Err, Option, Result, ◌&&◌, ◌==◌, nat_lt, sym, refl, ap, ◌∙◌, subst, arith}
use borrow.Rule.Slice.PartMut.{put_mid}
use Rattle.std.specs.List.{last_or}
use Rattle.std.proofs.lemmas.Bool.{eq-eqb, eqb-true, lt-ltb, le-ltb}
use Rattle.text.specs.Bytes.{Text}
use Rattle.request.specs.Reading.{memory_size}
use Rattle.connection.specs.Model.{Ear as Ears, Found, Owner, Given, Conn, more, unreadable, whole, rests, gives, down, on_found, on_idle, turn_by}
use Rattle.connection.specs.Model.{turn as conn_turn}
use Rattle.connection.specs.Owners.{owner_of}
use Rattle.connection.specs.Stands.{Stands as ConnStands, Pends, NextSo as ConnNext, given_of, turn_now}
use Rattle.connection.specs.declared.state.Busy.{Busy}
use Rattle.connection.specs.declared.state.Falling.{Falling}
use Rattle.connection.specs.declared.state.Handed.{Handed}
use Rattle.connection.specs.declared.state.Idle.{Idle}
use Rattle.connection.specs.declared.state.Next.{Next as NextThere}
use Rattle.connection.specs.declared.state.Next.TheVariants.{Hand, Rest as RestsThere, Fall}
use Rattle.ear.specs.Ways.{ear_way}
use Rattle.ear.specs.declared.Ear.{Ear}
use Rattle.response_laws.specs.Ear.{ear}
use Rattle.proxy.specs.Calls.{NextIs, NextSo, OnSize, answer_text, written_of}
use Rattle.proxy.specs.Model.{Servers, Gate, Did, hears, tells, answers, client_count, changed, freed, freed_if, quiet, fallen, handed, on_newest, on_turn, on_hearing, on_doing, turn}
use Rattle.proxy.specs.Slots.{server_limit, slab_size, server_slot}
use Rattle.proxy.specs.Stands.{Stands, Away, Hears}
use Rattle.proxy.specs.Steps.{freed_if_by, rested_by}
use Rattle.proxy.specs.declared.state.Proxy.{Proxy}
use Rattle.proxy.specs.declared.server.Answer.{Answer as Lying}
use Rattle.proxy.specs.declared.server.Heard.{Heard}
use Rattle.proxy.specs.declared.server.Next.{Next}
use Rattle.proxy.specs.declared.server.Next.TheVariants.{Answer, Down, Rest}
use Rattle.proxy.proofs.Holding.{OnlySlot}
use Rattle.proxy.proofs.Slots.{slot_here, slot_there, slot_long, put_long, slot_within}
use Rattle.proxy.proofs.Away.{freed_state, freed_away, changed_away, back_stands}

-- WHO STILL WAITS, where the first was given a response

-- the item behind all others is the last
last_end : {A : Type 0} (xs : List A) (x : A) (o : Option A) → last_or o (xs ++ (x ∷ [])) ≡ Some x
last_end [] x o = refl
last_end (y ∷ ys) x o = last_end ys x (Some y)

-- one waits no more, where that was the last response to its request
abbrev pub leaving : Bool → ℕ
leaving last = cond last 1 0

counted : (last : Bool) (o : Owner) (os : List Owner) → length (o ∷ os) ≡ leaving last + length (cond last os (o ∷ os))
counted true o os = omega arith
counted false o os = omega arith

module _ (e : Ears) (c d : Conn) (x : Given) (is : last_or None d.given ≡ Some x) where
  found_leaves : (o : Owner) (os : List Owner) (f : Found) → c.waiting ≡ o ∷ os → on_found c o os f ≡ gives d → length c.waiting ≡ leaving x.response.last + length d.waiting
  found_leaves o os more w g = cc
  found_leaves o os unreadable w g = cc
  found_leaves o os (whole a rest) w g =
      let new : Given = record { to = o; from = c.used; response = a } in
      let given : d.given ≡ c.given ++ (new ∷ []) = cc in
      let waits : d.waiting ≡ cond a.last os (o ∷ os) = cc in
      let newest = last_end c.given new None in
      let same : new ≡ x = let e = ap (λ gs. last_or None gs) given in cc in
      let last : a.last ≡ x.response.last = ap (λ (y : Given). y.response.last) same in
      ap length w ∙ counted a.last o os ∙ ap (λ (ws : List Owner). leaving a.last + length ws) (sym waits) ∙ ap (λ b. leaving b + length d.waiting) last

  idle_leaves : {P : Type 0} (t : Text) → on_idle t ≡ gives d → P
  idle_leaves [] g = cc
  idle_leaves (y ∷ t) g = cc

  waiting_leaves : (ws : List Owner) → c.waiting ≡ ws → turn_by e c ws ≡ gives d → length c.waiting ≡ leaving x.response.last + length d.waiting
  waiting_leaves [] w g = idle_leaves c.part g
  waiting_leaves (o ∷ os) w g = found_leaves o os (e o.method c.part) w g

  up_leaves : (b : Bool) → cond b (conn_turn e c) rests ≡ gives d → length c.waiting ≡ leaving x.response.last + length d.waiting
  up_leaves true g = waiting_leaves c.waiting refl g
  up_leaves false g = cc

  pub leaves : turn_now e c ≡ gives d → length c.waiting ≡ leaving x.response.last + length d.waiting
  leaves g = up_leaves c.up g

-- THE MEMORY, where the slot of a server's connection is written

-- the slot of s held `before`, and holds `slot` then; no other is written
pub record Moves (s : ℕ) (memory then before slot : Text) : Type 0 where
  pub only : OnlySlot (client_count + s) memory then
  pub was : before ≡ server_slot s memory
  pub is : server_slot s then ≡ slot
  pub long : length before ≡ memory_size

-- k bytes at the begin of its slot are written
pub moves : (s k : ℕ) (memory slot : Text) → length memory ≡ slab_size → s < 8 → k ≡ memory_size →
    let a : ℕ = (client_count + s) * memory_size in
    let before : Text = take k (drop a memory) in
    length slot ≡ length before → Moves s memory (put_mid a k memory slot) before slot
moves s k memory slot size few e same =
    let a : ℕ = (client_count + s) * memory_size in
    let room = slot_within (client_count + s) memory size (omega arith) in
    let was : take k (drop a memory) ≡ server_slot s memory = ap (λ n. take n (drop a memory)) e in
    let long : length (take k (drop a memory)) ≡ memory_size = ap length was ∙ slot_long (client_count + s) memory size (omega arith) in
    let all : length slot ≡ memory_size = same ∙ long in
    record {
      only = record {
        long = put_long (client_count + s) k memory slot e all room;
        others = λ j other. slot_there (client_count + s) j k memory slot e all room other;
      };
      was = was;
      is = slot_here (client_count + s) k memory slot e all room;
      long = long;
    }

-- whether the memory is of its size, and there is such a server
both : (a b : Bool) → a ≡ true → b ≡ true → (a && b) ≡ true
both a b ea eb = ap (λ x. x && b) ea ∙ eb

not_both : (a b : Bool) → (a ≡ true → b ≡ false) → (a && b) ≡ false
not_both true b h = h refl
not_both false b h = refl

fits : (memory : Text) (s : ℕ) → length memory ≡ slab_size → s < 8 → (length memory == slab_size && nat_lt s server_limit) ≡ true
fits memory s size few = both (length memory == slab_size) (nat_lt s server_limit) (eq-eqb (length memory) slab_size size) (lt-ltb s 8 few)

misfits : (memory : Text) (s : ℕ) → (length memory ≡ slab_size → 8 ≤ s) → (length memory == slab_size && nat_lt s server_limit) ≡ false
misfits memory s h = not_both (length memory == slab_size) (nat_lt s server_limit) (λ e. le-ltb s 8 (h (eqb-true (length memory) slab_size e)))

pub fits_so : (heard : Heard) (old new : Proxy) (memory then : Text) (result : Result Next Heard) → length memory ≡ slab_size → heard.server < 8 →
    ((servers : Servers) (g : Gate) → Hears servers old heard memory g → (d : Did) × (turn servers ear g ≡ Some d) × NextIs servers new then d result) → NextSo heard old new memory then result
fits_so heard old new memory then result size few h = subst (OnSize heard old new memory then result) (sym (fits memory heard.server size few)) h

-- or else nothing is done
pub misfits_so : (heard : Heard) (p : Proxy) (memory : Text) → (length memory ≡ slab_size → 8 ≤ heard.server) → NextSo heard p p memory memory (Err heard)
misfits_so heard p memory h = subst (OnSize heard p p memory memory (Err heard)) (sym (misfits memory heard.server h)) (refl, refl, refl)

-- the response of an answer lies in k bytes at the begin of its slot
pub written_there : (a : Lying) (k : ℕ) (memory : Text) → length memory ≡ slab_size → a.server < 8 → k ≡ memory_size →
    ear_way.text a.handed.response (take k (drop ((client_count + a.server) * memory_size) memory)) ≡ written_of a memory
written_there a k memory size few e =
    ap (λ n. ear_way.text a.handed.response (take n (drop ((client_count + a.server) * memory_size) memory))) e ∙ ap (λ b. cond b (answer_text a memory) []) (sym (fits memory a.server size few))

-- THE TURNS

-- a piece is heard; the slot of its connection holds `before`, and `slot` then
module _ (servers : Servers) (old : Proxy) (memory then before slot : Text) (g : Gate) (heard : Heard) (many : length old.clients ≡ client_count)
    (m : Moves heard.server memory then before slot) (h : Hears servers old heard memory g) where
  -- the turn of the gate is that of the connection
  turn_is : turn servers ear g ≡ Some (on_turn g heard.server h.c (turn_now ear h.c))
  turn_is = ap (on_doing servers ear g) h.doing ∙ ap (λ o. Some (on_hearing ear g heard.server o)) h.away.is

  -- what the connection said, by what its turn came to
  abbrev pub Turns : NextThere Ear → Type 0
  Turns r = (c : Conn) → Pends ear_way heard.busy before c → ConnNext ear_way before slot c (Ok r)

  pends_there : Pends ear_way heard.busy before h.c
  pends_there = subst (λ t. Pends ear_way heard.busy t h.c) (sym m.was) h.pends

  said : (r q : NextThere Ear) → r ≡ q → Turns r → ConnNext ear_way before slot h.c (Ok q)
  said r q e next = subst (λ x. ConnNext ear_way before slot h.c (Ok x)) e (next h.c pends_there)

  -- in a memory of its size the piece is not given back
  pub not_back : {P : Type 0} (b : Busy Ear) → ((c : Conn) → Pends ear_way heard.busy before c → ConnNext ear_way before slot c (Err b)) → P
  not_back b next = absurd ((next h.c pends_there).0 m.long)

  -- the gate that is changed at the connection
  abbrev pub given_gate : Conn → Gate
  given_gate d = record g { connections = changed (λ c. d) heard.server g.connections }

  -- after the last response to a request its client is freed
  given_away : (d : Conn) (last : Bool) (client : ℕ) (new : Proxy) → length h.c.waiting ≡ leaving last + length d.waiting → freed_if_by last client old new →
      Away servers new then (freed_if last client (given_gate d)) heard.server d (length d.waiting)
  given_away d true client new less frees =
      let s = heard.server in
      let away : Away servers old then (given_gate d) s d (suc (length d.waiting)) =
      changed_away servers old memory g s h.c (length h.c.waiting) many (λ c. d) g.doing then (suc (length d.waiting)) m.only (omega arith) h.away in
      let is : new ≡ freed_state client old = frees (omega (arith, ap length h.away.holds.line, h.away.few)) in
      subst (λ p. Away servers p then (freed client (given_gate d)) s d (length d.waiting)) (sym is) (freed_away servers old then (given_gate d) s d (length d.waiting) many client away)
  given_away d false client new less same =
      let s = heard.server in
      subst (λ p. Away servers p then (given_gate d) s d (length d.waiting)) (sym same)
      (changed_away servers old memory g s h.c (length h.c.waiting) many (λ c. d) g.doing then (length d.waiting) m.only (omega arith) h.away)

  still_hears : (d : Conn) (last : Bool) (client : ℕ) → (freed_if last client (given_gate d)).doing ≡ hears heard.server
  still_hears d true client = h.doing
  still_hears d false client = h.doing

  -- a response is handed over
  pub hands : (new : Proxy) (b : Busy Ear) (x : Handed Ear) (r : NextThere Ear) → r ≡ Hand b x → freed_if_by x.last x.owner.client old new → Turns r →
      (d : Did) × (turn servers ear g ≡ Some d) × NextIs servers new then d (Ok (Answer (record { server = heard.server; busy = b }) (record { server = heard.server; handed = x })))
  hands new b x r e frees next =
      let s = heard.server in
      let (d, gift, given, pends) = said r (Hand b x) e next in
      let y = given_of ear_way x slot h.c.used in
      let newest : last_or None d.given ≡ Some y = ap (λ gs. last_or None gs) given ∙ last_end h.c.given y None in
      let less = leaves ear h.c d y newest gift in (
        handed g s d y,
        turn_is ∙ ap (λ t. Some (on_turn g s h.c t)) gift ∙ ap (λ o. Some (on_newest g s d o)) newest,
        (
          ap (λ t. answers s (owner_of x.owner) (record { last = x.last; text = ear_way.text x.response t }) ∷ []) (sym m.is),
          record {
            c = d;
            away = given_away d x.last x.owner.client new less frees;
            doing = still_hears d x.last x.owner.client;
            pends = subst (λ t. Pends ear_way b t d) (sym m.is) pends;
          },
        ),
      )

  -- nothing more is whole, and the connection comes back
  pub rests_there : (new : Proxy) (i : Idle Ear) (r : NextThere Ear) → r ≡ RestsThere i → new ≡ rested_by heard.server i old → Turns r →
      (d : Did) × (turn servers ear g ≡ Some d) × NextIs servers new then d (Ok Rest)
  rests_there new i r e is next =
      let s = heard.server in
      let (idle, stands) = said r (RestsThere i) e next in (
        quiet g,
        turn_is ∙ ap (λ t. Some (on_turn g s h.c t)) idle,
        (
          refl,
          subst (λ p. Stands servers p then (quiet g).then) (sym is)
              (back_stands servers old memory g s h.c (length h.c.waiting) many then i m.only (subst (λ t. ConnStands ear_way i.0 t h.c) (sym m.is) stands) (omega (arith, h.away.few)) h.away),
        ),
      )

  -- it goes down
  pub falls_there : (f : Falling Ear) (r : NextThere Ear) → r ≡ Fall f → Turns r →
      (d : Did) × (turn servers ear g ≡ Some d) × NextIs servers old then d (Ok (Down (record { server = heard.server; falling = f })))
  falls_there f r e next =
      let s = heard.server in
      let (fall, falling) = said r (Fall f) e next in (
        fallen g s h.c.waiting,
        turn_is ∙ ap (λ t. Some (on_turn g s h.c t)) fall,
        (
          refl,
          record {
            c = down h.c;
            done = [];
            left = h.c.waiting;
            away = changed_away servers old memory g s h.c (length h.c.waiting) many down (tells s h.c.waiting) then (length h.c.waiting) m.only (omega arith) h.away;
            doing = refl;
            are = falling.left_to_tell;
            falls = falling;
          },
        ),
      )
