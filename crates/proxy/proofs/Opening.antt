-- The gate before the first event.
use Rattle.std.proofs.Common.{◌≡◌, ℕ, zero, suc, ◌+◌, ◌<◌, ◌≤◌, Bool, true, false, cond, List, [], ◌∷◌, map, replicate, length, Some, None, Option, sym, refl, ap, ◌∙◌, subst, slice_get, nat_lt, add-zero, zero-add, arith}
use Rattle.std.proofs.lemmas.Bool.{lt-ltb, le-ltb, ltb-true, ltb-false}
use Rattle.std.proofs.lemmas.List.{length-map}
use Rattle.std.proofs.lemmas.Option.{slice_get_past}
use Rattle.std.specs.Borrow.{Bor}
use Rattle.text.specs.Bytes.{Text}
use Rattle.request.specs.Hosts.{names_of}
use Rattle.request.specs.Reading.{memory_size}
use Rattle.request.specs.declared.reading.Reading.TheVariants.{InHead}
use Rattle.request_laws.proofs.OnePiece.{begins}
use Rattle.rules.specs.declared.Rule.{Rule}
use Rattle.connection.specs.Model.{Conn, fresh}
use Rattle.connection.specs.declared.state.Idle.{Idle}
use Rattle.ear.specs.declared.Ear.{Ear}
use Rattle.proxy.specs.Model.{Client, reads, client_count, opened}
use Rattle.proxy.specs.Slots.{slab_size, client_slot, server_slot}
use Rattle.proxy.specs.Stands.{settings, servers_of, ClientPlace, ConnPlace, Stands}
use Rattle.proxy.specs.Steps.{Opens, OpensFrom, opened_of}
use Rattle.proxy.specs.declared.state.Proxy.{Proxy}
use Rattle.proxy.specs.declared.state.Client.{Client as Held}
use Rattle.proxy.specs.declared.state.Client.TheVariants.{Reads}
use Rattle.proxy.proofs.Places.{less_or}
use Rattle.proxy.proofs.Holding.{place_none}
use Rattle.proxy.proofs.Slots.{slot_long}

past : (slot : Text) (o : Option Conn) → o ≡ None → ConnPlace slot None o
past slot None e = tt
past slot (Some c) e = cc

behind : (i n : ℕ) → n ≤ i → opened_of i n ≡ None
behind i n h = ap (λ (b : Bool). cond b (Some fresh) None) (le-ltb i n h)

pub opened_at : (slot : Text) (i n : ℕ) (xs : List (Option (Idle Ear))) (k : ℕ) → n ≤ i + length xs → OpensFrom i n xs → ConnPlace slot (slice_get xs k) (opened_of (i + k) n)
unfolding OpensFrom
opened_at slot i n [] k few h = past slot (opened_of (i + k) n) (behind (i + k) n (omega arith))
opened_at slot i n (x ∷ xs) zero few h = subst (λ j. ConnPlace slot (Some x) (opened_of j n)) (sym (add-zero i)) (h.0 slot)
opened_at slot i n (x ∷ xs) (suc k) few h =
    let moved : suc i + k ≡ i + suc k = omega arith in
    subst (λ j. ConnPlace slot (slice_get xs k) (opened_of j n)) moved (opened_at slot (suc i) n xs k (omega arith) h.1)

-- in the model
within : (i n : ℕ) → i < n → opened_of i n ≡ Some fresh
within i n h = ap (λ (b : Bool). cond b (Some fresh) None) (lt-ltb i n h)

later : (k n : ℕ) (b : Bool) → nat_lt k n ≡ b → cond b (Some fresh) None ≡ opened_of (suc k) (suc n)
later k n true e = sym (within (suc k) (suc n) (let h = ltb-true k n e in omega arith))
later k n false e = sym (behind (suc k) (suc n) (let h = ltb-false k n e in omega arith))

pub fresh_at : (names : List Text) (k : ℕ) → slice_get (map (λ x. fresh) names) k ≡ opened_of k (length names)
fresh_at [] k = sym (behind k 0 (omega arith))
fresh_at (x ∷ names) zero = sym (within 0 (suc (length names)) (omega arith))
fresh_at (x ∷ names) (suc k) = fresh_at names k ∙ later k (length names) (nat_lt k (length names)) refl

-- clients that read, of whom nothing has come
pub clients_at : (names : List Text) (slot : Text) (n k : ℕ) → length slot ≡ memory_size →
    ClientPlace names slot (slice_get (replicate n (Reads (InHead 0))) k) (slice_get (replicate n (record { stage = reads; hand = []; unread = [] })) k)
clients_at names slot zero k size = tt
clients_at names slot (suc n) zero size = (refl, begins names slot size)
clients_at names slot (suc n) (suc k) size = clients_at names slot n k size

-- a client that there is has a slot of its size
client_first : (names : List Text) (hs : List Held) → hs ≡ replicate 16 (Reads (InHead 0)) → (memory : Text) → length memory ≡ slab_size → (c : ℕ) →
    ClientPlace names (client_slot c memory) (slice_get hs c) (slice_get (replicate client_count (record { stage = reads; hand = []; unread = [] })) c)
client_first names hs clients memory size c =
    let slot = client_slot c memory in
    let xs : List Client = replicate client_count (record { stage = reads; hand = []; unread = [] }) in
    subst (λ ks. ClientPlace names slot (slice_get ks c) (slice_get xs c)) (sym clients) (
    less_or c 16
    (λ h. clients_at names slot 16 c (slot_long c memory size (omega arith)))
    (λ h. place_none names slot (slice_get (replicate 16 (Reads (InHead 0))) c) (slice_get xs c) (slice_get_past (replicate 16 (Reads (InHead 0))) c h) (slice_get_past xs c h))
    )

pub opened_stands : (names : List (Bor Text)) (rules : List (Bor (List Rule))) (p : Proxy) → servers_of p ≡ settings names rules → p.clients ≡ replicate 16 (Reads (InHead 0)) → Opens (length names) p.connections.places →
    p.line.items ≡ [] → p.hears ≡ false → length names ≤ 8 → (memory : Text) → length memory ≡ slab_size → Stands (settings names rules) p memory (opened (settings names rules))
opened_stands names rules p s clients opens line hears few memory size =
    let servers = settings names rules in
    let count : length (names_of names) ≡ length names = length-map names (λ x. x.now) in
    record {
      holds = record {
        settings = s;
        size = size;
        line = line;
        clients = λ c. client_first (names_of names) p.clients clients memory size c;
        connections = λ k away.
            subst (λ o. ConnPlace (server_slot k memory) (slice_get p.connections.places k) o) (sym (fresh_at (names_of names) k ∙ ap (opened_of k) count))
            (subst (λ j. ConnPlace (server_slot k memory) (slice_get p.connections.places k) (opened_of j (length names))) (zero-add k) (opened_at (server_slot k memory) 0 (length names) p.connections.places k (omega (arith, opens.0)) opens.1));
      };
      quiet = (hears, refl);
    }
