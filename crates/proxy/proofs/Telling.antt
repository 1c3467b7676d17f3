-- A connection went down: its owners are told, one by one.
use Rattle.std.proofs.Common.{◌≡◌, suc, ◌+◌, List, [], ◌∷◌, ◌++◌, map, length, Some, sym, refl, ap, ◌∙◌, subst, append-nil, append_assoc, arith}
use Rattle.std.proofs.lemmas.List.{append_cancel_left}
use Rattle.text.specs.Bytes.{Text}
use Rattle.connection.specs.Model.{Owner, Conn}
use Rattle.connection.specs.Owners.{owner_of}
use Rattle.connection.specs.Stands.{Falls, TellsSo}
use Rattle.connection.specs.declared.owners.Owner.{Owner as Held}
use Rattle.connection.specs.declared.state.Falling.{Falling}
use Rattle.connection.specs.declared.state.Idle.{Idle}
use Rattle.connection.specs.declared.state.Telling.TheVariants.{Tell as ToldOne, Rest as ToldAll}
use Rattle.ear.specs.Ways.{ear_way}
use Rattle.ear.specs.declared.Ear.{Ear}
use Rattle.response_laws.specs.Ear.{ear}
use Rattle.proxy.specs.Calls.{ToldIs}
use Rattle.proxy.specs.Model.{Servers, Gate, Did, tells, fails, client_count, freed, quiet, turn, on_doing}
use Rattle.proxy.specs.Stands.{Stands, Away, Tells}
use Rattle.proxy.specs.Steps.{freed_by, rested_by}
use Rattle.proxy.specs.declared.state.Proxy.{Proxy}
use Rattle.proxy.specs.declared.server.Fallen.{Fallen}
use Rattle.proxy.specs.declared.server.Telling.TheVariants.{Tell, Rest}
use Rattle.proxy.proofs.Holding.{no_slot}
use Rattle.proxy.proofs.Away.{freed_state, freed_away, doing_away, back_stands}

-- who is left to tell, where one was told, and where all were
one_told : (xs ys zs t : List Owner) (o : Owner) → t ≡ xs ++ ys → t ≡ (xs ++ (o ∷ [])) ++ zs → ys ≡ o ∷ zs
one_told xs ys zs t o a b = append_cancel_left xs ys (o ∷ zs) (sym a ∙ b ∙ append_assoc xs (o ∷ []) zs)

all_told : (xs ys t : List Owner) → t ≡ xs ++ ys → t ≡ xs → ys ≡ []
all_told xs ys t a b = sym (append_cancel_left xs [] ys (append-nil xs ∙ sym b ∙ a))

module _ (servers : Servers) (old : Proxy) (memory : Text) (g : Gate) (fallen : Fallen) (many : length old.clients ≡ client_count) (t : Tells servers old fallen memory g) where
  -- the next owner is told, and its client is freed
  pub tells_one : (new : Proxy) (f : Falling Ear) (o : Held) → freed_by o.client old new →
      ((c : Conn) (done : List Owner) → Falls ear_way fallen.falling c done → TellsSo ear_way c done (ToldOne f o)) →
      (d : Did) × (turn servers ear g ≡ Some d) × ToldIs servers new memory d (Tell (record { server = fallen.server; falling = f }) o)
  tells_one new f o frees next =
      let s = fallen.server in
      let w : Owner = owner_of o in
      let os : List Owner = map owner_of f.0.owners in
      let falls : Falls ear_way f t.c (t.done ++ (w ∷ [])) = next t.c t.done t.falls in
      let left : t.left ≡ w ∷ os = t.are ∙ one_told t.done (map owner_of fallen.falling.0.owners) os t.c.told w t.falls.left_to_tell falls.left_to_tell in
      let away : Away servers old memory g s t.c (suc (length os)) = subst (λ (xs : List Owner). Away servers old memory g s t.c (length xs)) left t.away in
      let is : new ≡ freed_state o.client old = frees (omega (arith, ap length away.holds.line, away.few)) in
      let then = freed o.client (record g { doing = tells s os }) in (
        record { out = fails s w ∷ []; then = then },
        ap (on_doing servers ear g) (t.doing ∙ ap (tells s) left),
        (
          refl,
          subst (λ p. Tells servers p (record { server = s; falling = f }) memory then) (sym is) (record {
            c = t.c;
            done = t.done ++ (w ∷ []);
            left = os;
            away = freed_away servers old memory (record g { doing = tells s os }) s t.c (length os) many o.client (doing_away servers old memory g s t.c (suc (length os)) many (tells s os) away);
            doing = refl;
            are = refl;
            falls = falls;
          }),
        ),
      )

  -- all were told, and the connection comes back
  pub tells_all : (new : Proxy) (i : Idle Ear) → new ≡ rested_by fallen.server i old → ((c : Conn) (done : List Owner) → Falls ear_way fallen.falling c done → TellsSo ear_way c done (ToldAll i)) →
      (d : Did) × (turn servers ear g ≡ Some d) × ToldIs servers new memory d Rest
  tells_all new i is next =
      let s = fallen.server in
      let told = next t.c t.done t.falls in
      let left : t.left ≡ [] = t.are ∙ all_told t.done (map owner_of fallen.falling.0.owners) t.c.told t.falls.left_to_tell told.0 in (
        quiet g,
        ap (on_doing servers ear g) (t.doing ∙ ap (tells s) left),
        (
          refl,
          subst (λ p. Stands servers p memory (quiet g).then) (sym is)
              (back_stands servers old memory g s t.c (length t.left) many memory i (no_slot (client_count + s) memory) (told.1 _) (omega (arith, ap length t.falls.nothing.0)) t.away),
        ),
      )
