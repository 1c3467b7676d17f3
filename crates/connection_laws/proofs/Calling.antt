-- Each call leads from one moment to the next.
use Rattle.std.proofs.Common.{◌≡◌, ℕ, Bool, true, false, cond, ◌&&◌, List, [], ◌∷◌, ◌++◌, length, Ok, Err, Result, nat_lt, sym, refl, ap, subst}
use Rattle.std.proofs.lemmas.List.{length-map}
use Rattle.text.specs.Bytes.{Text}
use Rattle.message.specs.declared.fault.Fault.{Fault}
use Rattle.message.specs.declared.fault.Fault.TheVariants.{Busy as TooMany}
use Rattle.request.specs.Canonical.{Req}
use Rattle.connection.specs.Hearing.{Way}
use Rattle.connection.specs.Model.{Steady, Owner, Conn, has_room, asked, owner_limit, sent_limit, fresh, Event, asks, says, down, step}
use Rattle.connection.specs.Owners.{owner_of}
use Rattle.connection.specs.Stands.{come, admission, Stands, Pends, AskedSo, NextSo, TellsSo}
use Rattle.connection.specs.declared.state.Connection.{Connection}
use Rattle.connection.specs.declared.state.Idle.{Idle}
use Rattle.connection.specs.declared.state.Busy.{Busy}
use Rattle.connection.specs.declared.state.Falling.{Falling}
use Rattle.connection.specs.declared.state.Next.{Next}
use Rattle.connection.specs.declared.state.Next.TheVariants.{Hand, Rest, Fall}
use Rattle.connection.specs.declared.state.Telling.{Telling}
use Rattle.connection.specs.declared.state.Telling.TheVariants.{Tell, Rest as AllTold}
use Rattle.connection.specs.declared.state.Unsent.{Unsent}
use Rattle.connection.specs.declared.state.Unsent.TheVariants.{Refused, Full, Method}
use Rattle.connection_laws.specs.Moments.{Leads, start, asking, hearing, handing, falling}
use Rattle.connection_laws.specs.Calls.{Moment, At, Amid, Down, AskedAt, NextAt, ToldAt}
use Rattle.connection_laws.proofs.Main.{main}
use Rattle.connection_laws.proofs.Runs.{rests_step}
use Rattle.connection_laws.proofs.Turns.{rests_at}

-- what is admitted goes out
abbrev Admitted : Type 0
Admitted = Result (Unit {0}) Fault

room_admits : (b : Bool) (f : Fault) (x y : Admitted) → x ≡ Ok tt → y ≡ Err f → cond b x y ≡ Ok tt → b ≡ true
room_admits true f x y p q h = refl
room_admits false f x y p q h = cc

admitted : (up : Bool) (w n : ℕ) → admission up w n ≡ Ok tt → (up && (nat_lt w owner_limit && nat_lt n sent_limit)) ≡ true
admitted true w n h = room_admits (nat_lt w owner_limit && nat_lt n sent_limit) TooMany (Ok tt) (Err TooMany) refl refl h
admitted false w n h = cc

module _ {H : Type 0} (way : Way H) (st : Steady way.ear) where
  moment : (vs : List Event) (c : Conn) → Leads way.ear vs c → Moment way vs c
  moment vs c l = record { led = l; promised = main way.ear st vs c l }

  pub opened : (i : Idle H) → ((memory : Text) → Stands way i.0 memory fresh) → (memory : Text) → At way i memory [] fresh
  opened i s memory = record { stands = s memory; rests = refl; moment = moment [] fresh start }

  module _ (p : ℕ) (q : Req) (out then : Text) (i j : Idle H) (memory : Text) (vs : List Event) (c : Conn) (a : At way i memory vs c) where
    goes_out : (c.up && has_room c) ≡ true → (step way.ear (asks p q) c).sent ≡ c.sent ++ (record { client = p; request = q } ∷ [])
    goes_out h = ap (λ (b : Bool). (cond b (asked p q c) c).sent) h

    leads_asked : Leads way.ear (vs ++ (asks p q ∷ [])) (step way.ear (asks p q) c)
    leads_asked = asking p q a.moment.led a.rests

    room : admission i.0.up (length i.0.owners) i.0.sent ≡ Ok tt → (c.up && has_room c) ≡ true
    room h = let s = a.stands in rw (sym s.is_up, sym s.waits, length-map i.0.owners owner_of, sym s.counts) (admitted i.0.up (length i.0.owners) i.0.sent h)

    still : j.0 ≡ i.0 → At way j memory vs c
    still h = record { stands = subst (λ (x : Connection H). Stands way x memory c) (sym h) a.stands; rests = a.rests; moment = a.moment }

    pub asked_at : (r : Result ℕ Unsent) → AskedSo way p q out then i.0 j.0 r → AskedAt way p q j memory vs c r
    asked_at (Ok n) h = (
      step way.ear (asks p q) c,
      record { stands = h.3 memory c a.stands; rests = rests_step way.ear st (asks p q) c a.rests; moment = moment (vs ++ (asks p q ∷ [])) (step way.ear (asks p q) c) leads_asked },
      goes_out (room h.0),
    )
    asked_at (Err (Refused f)) h = record {
      stands = (still h.2).stands;
      rests = a.rests;
      moment = moment (vs ++ (asks p q ∷ [])) c (subst (Leads way.ear (vs ++ (asks p q ∷ []))) (h.3 memory c a.stands) leads_asked);
    }
    asked_at (Err (Full f)) h = still h.3
    asked_at (Err Method) h = still h.3

  pub heard_at : (i : Idle H) (piece : Text) (b : Busy H) → ((memory : Text) (c : Conn) → Stands way i.0 memory c → Pends way b memory (come piece c)) → (memory : Text) (vs : List Event) (c : Conn) → At way i memory vs c →
      (d : Conn) × Amid way b memory (vs ++ (says piece ∷ [])) d
  heard_at i piece b h memory vs c a = (come piece c, record { pends = h memory c a.stands; moment = moment (vs ++ (says piece ∷ [])) (come piece c) (hearing piece a.moment.led a.rests) })

  pub next_at : (b : Busy H) (before then : Text) (vs : List Event) (c : Conn) (r : Result (Next H) (Busy H)) → Amid way b before vs c → NextSo way before then c r → NextAt way before then vs c r
  next_at b before then vs c (Ok (Hand x h)) a (d, turned, given, pends) = (d, record { pends = pends; moment = moment vs d (handing d a.moment.led turned) }, given)
  next_at b before then vs c (Ok (Rest i)) a (turned, stands) = record { stands = stands; rests = turned; moment = a.moment }
  next_at b before then vs c (Ok (Fall f)) a (turned, falls) = record { falls = falls; moment = moment vs (down c) (falling a.moment.led turned) }
  next_at b before then vs c (Err x) a (size, pends) = (size, record { pends = pends; moment = a.moment })

  pub told_at : (f : Falling H) (vs : List Event) (c : Conn) (done : List Owner) (r : Telling H) → Down way f vs c done → TellsSo way c done r → ToldAt way vs c done r
  told_at f vs c done (Tell g o) a h = record { falls = h; moment = a.moment }
  told_at f vs c done (AllTold i) a (told, stands) = (told, λ memory. record { stands = stands memory; rests = rests_at way.ear c (λ u. let d = a.falls.is_down.1 in cc); moment = a.moment })
