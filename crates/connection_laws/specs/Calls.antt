-- The promise on the calls: each call leads from a moment to the next, whatever calls came before it, and the whole promise holds there.
use Rattle.std.specs.Prelude.{◌≡◌, ℕ, List, [], ◌∷◌, ◌++◌, length, Ok, Err, Result, ◌≢◌}
use Rattle.text.specs.Bytes.{Text}
use Rattle.request.specs.Canonical.{Req}
use Rattle.request.specs.Reading.{memory_size}
use Rattle.connection.specs.Hearing.{Way}
use Rattle.connection.specs.Model.{Owner, Conn, Event, asks, down}
use Rattle.connection.specs.Owners.{owner_of}
use Rattle.connection.specs.Stands.{Stands, Pends, Falls, given_of}
use Rattle.connection.specs.declared.state.Idle.{Idle}
use Rattle.connection.specs.declared.state.Busy.{Busy}
use Rattle.connection.specs.declared.state.Falling.{Falling}
use Rattle.connection.specs.declared.state.Next.{Next}
use Rattle.connection.specs.declared.state.Next.TheVariants.{Hand, Rest, Fall}
use Rattle.connection.specs.declared.state.Telling.{Telling}
use Rattle.connection.specs.declared.state.Telling.TheVariants.{Tell, Rest as AllTold}
use Rattle.connection.specs.declared.state.Unsent.{Unsent}
use Rattle.connection.specs.declared.state.Unsent.TheVariants.{Refused, Full, Method}
use Rattle.connection_laws.specs.Moments.{Rests, Leads}
use Rattle.connection_laws.specs.Promise.{Promised}

module _ {H : Type 0} (way : Way H) where
  -- the events led to this moment of the connection, and what is promised of it holds
  pub record Moment (vs : List Event) (c : Conn) : Type 0 where
    pub led : Leads way.ear vs c
    pub promised : Promised way.ear vs c

  -- a connection at rest, with the memory lent for it, stands for this moment
  pub record At (i : Idle H) (memory : Text) (vs : List Event) (c : Conn) : Type 0 where
    pub stands : Stands way i.0 memory c
    pub rests : Rests way.ear c
    pub moment : Moment vs c

  -- so does one with a piece that is being heard
  pub record Amid (b : Busy H) (memory : Text) (vs : List Event) (c : Conn) : Type 0 where
    pub pends : Pends way b memory c
    pub moment : Moment vs c

  -- and one that went down, of whose owners these are told already
  pub record Down (f : Falling H) (vs : List Event) (c : Conn) (done : List Owner) : Type 0 where
    pub falls : Falls way f c done
    pub moment : Moment vs c

  -- A client asks: the request went out, or was refused, and that is an event; or nothing happened.
  abbrev pub AskedAt : ℕ → Req → Idle H → Text → List Event → Conn → Result ℕ Unsent → Type 0
  AskedAt p q i memory vs c (Ok n) = (d : Conn) × At i memory (vs ++ (asks p q ∷ [])) d × (d.sent ≡ c.sent ++ (record { client = p; request = q } ∷ []))
  AskedAt p q i memory vs c (Err (Refused f)) = At i memory (vs ++ (asks p q ∷ [])) c
  AskedAt p q i memory vs c (Err (Full f)) = At i memory vs c
  AskedAt p q i memory vs c (Err Method) = At i memory vs c

  -- What comes next of a piece: a response is handed over, one more than was given; or the connection rests; or it went down.
  abbrev pub NextAt : Text → Text → List Event → Conn → Result (Next H) (Busy H) → Type 0
  NextAt before then vs c (Ok (Hand b h)) = (d : Conn) × Amid b then vs d × (d.given ≡ c.given ++ (given_of way h then c.used ∷ []))
  NextAt before then vs c (Ok (Rest i)) = At i then vs c
  NextAt before then vs c (Ok (Fall f)) = Down f vs (down c) []
  NextAt before then vs c (Err b) = (length before ≢ memory_size) × Amid b then vs c

  -- An owner is told; or all were.
  abbrev pub ToldAt : List Event → Conn → List Owner → Telling H → Type 0
  ToldAt vs c done (Tell f o) = Down f vs c (done ++ (owner_of o ∷ []))
  ToldAt vs c done (AllTold i) = (c.told ≡ done) × ((memory : Text) → At i memory vs c)
