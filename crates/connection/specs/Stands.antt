-- What the state of a connection and the memory lent for it stand for in the model, and what each call does there. The ghost fields of the model (what
-- was given, told and sent) are in no state: a call is said to do its step whatever they are.
use Rattle.std.specs.Prelude.{◌≡◌, ℕ, ◌<◌, ◌≤◌, Bool, false, cond, ◌&&◌, List, [], ◌∷◌, ◌++◌, map, length, Some, None, Option, Ok, Err, Result, ◌==◌, ◌≢◌, nat_lt, slice_get}
use Rattle.text.specs.Bytes.{Text}
use Rattle.message.specs.declared.fault.Fault.{Fault}
use Rattle.message.specs.declared.fault.Fault.TheVariants.{Busy as TooMany, Down}
use Rattle.request.specs.Canonical.{Req, write}
use Rattle.request.specs.Reading.{memory_size}
use Rattle.request.specs.Writing.{Written}
use Rattle.connection.specs.Model.{Ear, Owner, Given, Conn, Turn, rests, gives, falls, turn, put, down, asks, step, owner_limit, sent_limit}
use Rattle.connection.specs.Hearing.{Way}
use Rattle.connection.specs.Owners.{owner_of}
use Rattle.connection.specs.declared.owners.Owner.{Owner as Held}
use Rattle.connection.specs.declared.state.Connection.{Connection}
use Rattle.connection.specs.declared.state.Busy.{Busy}
use Rattle.connection.specs.declared.state.Falling.{Falling}
use Rattle.connection.specs.declared.state.Handed.{Handed}
use Rattle.connection.specs.declared.state.Next.{Next}
use Rattle.connection.specs.declared.state.Next.TheVariants.{Hand, Rest, Fall}
use Rattle.connection.specs.declared.state.Telling.{Telling}
use Rattle.connection.specs.declared.state.Telling.TheVariants.{Tell, Rest as AllTold}
use Rattle.connection.specs.declared.state.Unsent.{Unsent}
use Rattle.connection.specs.declared.state.Unsent.TheVariants.{Refused, Full, Method}

-- bytes come; on a connection that is down they are passed over
abbrev pub come : Text → Conn → Conn
come s c = cond c.up (put s c) c

-- what is to happen with the bytes that have come; on a connection that is down nothing
abbrev pub turn_now : Ear → Conn → Turn
turn_now e c = cond c.up (turn e c) rests

-- a request goes out; or why none does: the connection is down, or as many wait, or went out, as may
abbrev pub admission : Bool → ℕ → ℕ → Result (Unit {0}) Fault
admission up waiting sent = cond up (cond (nat_lt waiting owner_limit && nat_lt sent sent_limit) (Ok tt) (Err TooMany)) (Err Down)

abbrev pub admission_of : {H : Type 0} → Connection H → Result (Unit {0}) Fault
admission_of s = admission s.up (length s.owners) s.sent

module _ {H : Type 0} (way : Way H) where
  -- what hearing leaves in the memory: nothing is read where nobody waits, on a connection that is down, and in a memory of another size
  abbrev pub left_with : H → Text → Text → Option Held → Text
  left_with h piece memory None = memory
  left_with h piece memory (Some o) = way.leaves h memory (owner_of o).method piece

  abbrev pub left_by : Busy H → Text → Text
  left_by b memory = cond (length memory == memory_size && b.connection.up) (left_with b.connection.hearing b.piece.now memory (slice_get b.connection.owners 0)) memory

  -- how far the response in hand has been read: where nobody waits, not at all
  abbrev pub InHand : H → Text → List Owner → Text → Type 0
  InHand h memory [] part = (h ≡ way.unheard) × (part ≡ [])
  InHand h memory (o ∷ os) part = way.holds h memory o.method part

  -- a state, with the memory lent for it, stands for a connection of the model
  pub record Stands (s : Connection H) (memory : Text) (c : Conn) : Type 0 where
    pub waits : map owner_of s.owners ≡ c.waiting
    pub counts : s.sent ≡ length c.sent
    pub is_up : s.up ≡ c.up
    pub in_hand : InHand s.hearing memory c.waiting c.part

  -- so does one with a piece that has come
  abbrev pub Pends : Busy H → Text → Conn → Type 0
  Pends b memory c = (d : Conn) × Stands b.connection memory d × (c ≡ come b.piece.now d)

  -- and one that went down, of whose owners some are told already
  pub record Falls (f : Falling H) (c : Conn) (done : List Owner) : Type 0 where
    pub left_to_tell : c.told ≡ done ++ map owner_of f.0.owners
    pub counts : f.0.sent ≡ length c.sent
    pub is_down : (f.0.up ≡ false) × (c.up ≡ false)
    pub in_hand : f.0.hearing ≡ way.unheard
    pub nothing : (c.waiting ≡ []) × (c.part ≡ [])

  -- A client asks with the request q, and s becomes t. The request goes out, all of it, at the front of the output; or it is refused; or, for a reason
  -- that is none of the connection's, nothing happens.
  abbrev pub AskedSo : ℕ → Req → Text → Text → Connection H → Connection H → Result ℕ Unsent → Type 0
  AskedSo p q out then s t (Ok n) = (admission_of s ≡ Ok tt) × (length q.method ≤ 16) × Written (write q) out then (Ok n) × ((memory : Text) (c : Conn) → Stands s memory c → Stands t memory (step way.ear (asks p q) c))
  AskedSo p q out then s t (Err (Refused f)) = (admission_of s ≡ Err f) × (then ≡ out) × (t ≡ s) × ((memory : Text) (c : Conn) → Stands s memory c → step way.ear (asks p q) c ≡ c)
  AskedSo p q out then s t (Err Method) = (admission_of s ≡ Ok tt) × (16 < length q.method) × (then ≡ out) × (t ≡ s)
  AskedSo p q out then s t (Err (Full f)) = (admission_of s ≡ Ok tt) × (length q.method ≤ 16) × Written (write q) out then (Err f) × (t ≡ s)

  -- an owner of a connection that went down is told, the next in order; or all were
  abbrev pub TellsSo : Conn → List Owner → Telling H → Type 0
  TellsSo c done (Tell f o) = Falls f c (done ++ (owner_of o ∷ []))
  TellsSo c done (AllTold i) = (c.told ≡ done) × ((memory : Text) → Stands i.0 memory c)

  -- the response that is handed over; used: how many bytes the ones before it had
  abbrev pub given_of : Handed H → Text → ℕ → Given
  given_of h memory used = record { to = owner_of h.owner; from = used; response = record { last = h.last; text = way.text h.response memory } }

  -- The next turn of a connection c at which a piece has come; the memory held before, and holds then. In a memory of another size nothing is done.
  abbrev pub NextSo : Text → Text → Conn → Result (Next H) (Busy H) → Type 0
  NextSo before then c (Ok (Hand b h)) = (d : Conn) × (turn_now way.ear c ≡ gives d) × (d.given ≡ c.given ++ (given_of h then c.used ∷ [])) × Pends b then d
  NextSo before then c (Ok (Rest i)) = (turn_now way.ear c ≡ rests) × Stands i.0 then c
  NextSo before then c (Ok (Fall f)) = (turn_now way.ear c ≡ falls) × Falls f (down c) []
  NextSo before then c (Err b) = (length before ≢ memory_size) × Pends b then c
