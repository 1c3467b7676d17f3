-- What is handed over of a piece with which a response is whole.
use Rattle.std.proofs.Common.{◌≡◌, ℕ, ◌-◌, Bool, true, false, cond, List, [], ◌∷◌, ◌++◌, map, length, take, drop, Some, sym, refl, ap, ◌∙◌, subst, slice_get}
use Rattle.std.proofs.lemmas.List.{take_rest}
use Rattle.text.specs.Bytes.{Text}
use Rattle.connection.specs.Model.{Response, Owner, Conn, whole, gives, put, gave}
use Rattle.connection.specs.Hearing.{Way}
use Rattle.connection.specs.Owners.{owner_of}
use Rattle.connection.specs.Stands.{come, turn_now, InHand, Stands, Pends}
use Rattle.connection.specs.declared.owners.Owner.{Owner as Held}
use Rattle.connection.specs.declared.state.Connection.{Connection}
use Rattle.connection.specs.declared.state.Busy.{Busy}

-- the first that is held is the first that waits
pub first_waits : (os : List Held) (o : Held) → slice_get os 0 ≡ Some o → map owner_of os ≡ owner_of o ∷ map owner_of (drop 1 os)
first_waits [] o h = cc
first_waits (p ∷ os) o h = cc

left_in : (last : Bool) (os : List Held) (o : Held) → slice_get os 0 ≡ Some o →
    map owner_of (cond last (drop 1 os) os) ≡ cond last (map owner_of (drop 1 os)) (owner_of o ∷ map owner_of (drop 1 os))
left_in true os o h = refl
left_in false os o h = first_waits os o h

module _ {H : Type 0} (way : Way H) (begins : (memory method : Text) → way.holds way.unheard memory method []) where
  unheard_in : (memory : Text) (os : List Owner) → InHand way way.unheard memory os []
  unheard_in memory [] = (refl, refl)
  unheard_in memory (o ∷ os) = begins memory o.method

  -- o waits first, and with n bytes of the piece its response a is whole; then the rest of the piece comes, as the code cuts it
  pub gives_whole : (b : Busy H) (t : Connection H) (memory then : Text) (o : Held) (a : Response) (n : ℕ) → b.connection.up ≡ true → slice_get b.connection.owners 0 ≡ Some o →
      ((part : Text) → way.holds b.connection.hearing memory (owner_of o).method part → way.ear (owner_of o).method (part ++ b.piece.now) ≡ whole a (drop n b.piece.now)) →
      t ≡ record b.connection { owners = cond a.last (drop 1 b.connection.owners) b.connection.owners; hearing = way.unheard } →
      (c : Conn) → Pends way b memory c →
      (d : Conn) × (turn_now way.ear c ≡ gives d) × (d.given ≡ c.given ++ (record { to = owner_of o; from = c.used; response = a } ∷ [])) ×
      ((d' : Conn) × Stands way t then d' × (d ≡ come (take (length b.piece.now - n) (drop n b.piece.now)) d'))
  gives_whole b t memory then o a n up first heard after c p =
      let s = p.1 in
      let w : Owner = owner_of o in
      let behind : List Owner = map owner_of (drop 1 b.connection.owners) in
      let before : p.0.up ≡ true = sym s.is_up ∙ up in
      let came : c ≡ put b.piece.now p.0 = p.2 ∙ ap (λ (u : Bool). cond u (put b.piece.now p.0) p.0) before in
      let waited : p.0.waiting ≡ w ∷ behind = sym s.waits ∙ first_waits b.connection.owners o first in
      let held : way.holds b.connection.hearing memory w.method p.0.part = rw waited at s.in_hand in
      let is_up : c.up ≡ true = cc in
      let waits : c.waiting ≡ w ∷ behind = cc in
      let found : way.ear w.method c.part ≡ whole a (drop n b.piece.now) = ap (λ (x : Conn). way.ear w.method x.part) came ∙ heard p.0.part held in
      let new : Conn = gave w a behind (drop n b.piece.now) c in
      let rested : Conn = record new { part = [] } in (
        new,
        rw (is_up, waits, found),
        refl,
        (
          rested,
          record {
            waits = ap (λ (u : Connection H). map owner_of u.owners) after ∙ left_in a.last b.connection.owners o first;
            counts = cc;
            is_up = cc;
            in_hand = subst (λ (h : H). InHand way h then rested.waiting []) (ap (λ (u : Connection H). u.hearing) (sym after)) (unheard_in then rested.waiting);
          },
          rw (take_rest, is_up),
        ),
      )
