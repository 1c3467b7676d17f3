-- What is still due of a chunk in each phase, and what the next byte makes of it.
use Rattle.std.proofs.Common.{◌≡◌, ℕ, zero, suc, ◌+◌, ◌-◌, ◌*◌, ◌^◌, ◌<◌, ◌≤◌, true, cond, ◌&&◌, eqb, ltb, leb, [], ◌∷◌, ◌++◌, length, drop, replicate, Some, None, Option, sym, refl, ap, ◌∙◌, subst, zero-lt-suc, pow-suc, add-one, arith, Ok, Err}
use native.Mathlib.Nat.{pow-le-pow_right}
use Rattle.std.proofs.lemmas.List.{length-replicate, drop_at}
use Rattle.std.proofs.lemmas.Bool.{cond_both, cond-true, lt-ltb, ltb-true, leb-true, leb-false, eqb-true, eqb-false, and_from, and_parts, both_ways}
use Rattle.text.specs.Bytes.{Text}
use Rattle.text.specs.Numerals.{digit_value, on_digit, value_after}
use Rattle.text.specs.declared.numeral.Base.TheVariants.{Hexadecimal}
use Rattle.text_laws.specs.Laws.{Iff}
use Rattle.message.specs.Faults.{flaw}
use Rattle.message.specs.declared.fault.Fault.TheVariants.{BodyTooLong, Chunk as BadChunk}
use Rattle.message.specs.declared.fault.Flaw.{Flaw}
use Rattle.message.specs.declared.chunked.Phase.{Phase}
use Rattle.message.specs.declared.chunked.Phase.TheVariants.{Size, SizeLf, Bytes, BytesLf, LastCr, LastLf}
use Rattle.message.specs.declared.chunked.Chunk.{Chunk}
use Rattle.message.specs.declared.chunked.Outcome.{Outcome}
use Rattle.message.specs.declared.chunked.Outcome.TheVariants.{Wrong}
use Rattle.message.specs.declared.chunked.Step.TheVariants.{On, End}
use Rattle.message.specs.Chunked.{Stepped, in_phase, to, wrong_byte, only, on_size, sized, Run, stop, go, run}
use Rattle.message_laws.specs.Chunks.{crlf}
use Rattle.message_laws.proofs.Sizes.{value_on, digit_small}

abbrev pub Begins : Text → Text → Type 0
Begins x t = (rest : Text) × (t ≡ x ++ rest)

-- the LF that ends the line of the size n, and Q of what follows
abbrev pub Line : (ℕ → Text → Type 0) → ℕ → Text → Type 0
Line Q n t = (rest : Text) × (t ≡ 10 ∷ rest) × Q n rest

abbrev SizedBy : Option ℕ → (ℕ → Type 0) → Type 0 → Type 0
SizedBy (Some x) digit end = digit x
SizedBy None digit end = end

-- the rest of the line of a size of which k digits worth v were read, and Q of the size and of what follows
unfoldable pub Sized : (ℕ → Text → Type 0) → ℕ → ℕ → Text → Type 0
Sized Q k v [] = ⊥
Sized Q k v (b ∷ t) =
    SizedBy (digit_value Hexadecimal b) (λ x. ((ltb k 5 && ltb v 65536) ≡ true) × Sized Q (k + 1) (v * 16 + x) t) (((eqb b 13 && ltb 0 k) ≡ true) × Line Q v t)

-- the same, once the first byte is known
abbrev SizedAt : (ℕ → Text → Type 0) → ℕ → ℕ → ℕ → Text → Option ℕ → Type 0
SizedAt Q k v b t o = SizedBy o (λ x. ((ltb k 5 && ltb v 65536) ≡ true) × Sized Q (k + 1) (v * 16 + x) t) (((eqb b 13 && ltb 0 k) ≡ true) × Line Q v t)

sized_on : (Q : ℕ → Text → Type 0) (k v b : ℕ) (t : Text) (o : Option ℕ) → digit_value Hexadecimal b ≡ o → Sized Q k v (b ∷ t) → SizedAt Q k v b t o
unfolding Sized
sized_on Q k v b t o e s = subst (SizedAt Q k v b t) e s

sized_back : (Q : ℕ → Text → Type 0) (k v b : ℕ) (t : Text) (o : Option ℕ) → digit_value Hexadecimal b ≡ o → SizedAt Q k v b t o → Sized Q k v (b ∷ t)
unfolding Sized
sized_back Q k v b t o e s = subst (SizedAt Q k v b t) (sym e) s

-- n bytes and CR LF
abbrev pub Data : ℕ → Text → Type 0
Data n t = Begins crlf (drop n t)

-- t goes on, from the phase on, as a chunk or as the last one, whatever follows that
abbrev pub Due : Phase → Text → Type 0
Due (Size first k v) t = Sized Data k v t
Due (SizeLf first n) t = Line Data n t
Due (Bytes n) t = Data n t
Due BytesLf t = Begins (10 ∷ []) t
Due LastCr t = Begins crlf t
Due LastLf t = Begins (10 ∷ []) t

-- a size above the room, and how that is told
abbrev pub Above : ℕ → ℕ → Flaw → ℕ → Text → Type 0
Above first room w n rest = (room < n) × (w ≡ flaw BodyTooLong first)

-- t goes on, from the phase on, with the end of the line of a size above the room
abbrev pub Large : Phase → ℕ → Flaw → Text → Type 0
Large (Size first k v) room w t = Sized (Above first room w) k v t
Large (SizeLf first n) room w t = Line (Above first room w) n t
Large (Bytes n) room w t = ⊥
Large BytesLf room w t = ⊥
Large LastCr room w t = ⊥
Large LastLf room w t = ⊥

-- digits and the line's end make a size
pub sized_from : (Q : ℕ → Text → Type 0) (ds rest : Text) (k v n : ℕ) → v < 16 ^ k → 1 ≤ k + length ds → k + length ds ≤ 5 → value_after Hexadecimal v ds ≡ Some n → Q n rest →
    Sized Q k v (ds ++ (crlf ++ rest))
unfolding Sized value_after
sized_from Q [] rest k v n h some few e q =
    let same : n ≡ v = cc in
    (lt-ltb 0 k (omega arith), (rest, refl, subst (λ m. Q m rest) same q))
sized_from Q (d ∷ ds) rest k v n h some few e q =
    let on = value_on v ds n (digit_value Hexadecimal d) e in
    let x = on.0 in
    let four : k ≤ 4 = omega arith in
    let top : 16 ^ k ≤ 65536 = pow-le-pow_right (zero-lt-suc 15) four in
    let power : 16 ^ (k + 1) ≡ 16 ^ k * 16 = ap (λ m. 16 ^ m) (add-one k) ∙ pow-suc 16 k in
    let small : on.0 < 16 = digit_small d on.0 on.1 in
    let bound : v * 16 + on.0 < 16 ^ (k + 1) = omega arith in
    let more : Sized Q (k + 1) (v * 16 + on.0) (ds ++ (crlf ++ rest)) = sized_from Q ds rest (k + 1) (v * 16 + on.0) n bound (omega arith) (omega arith) on.2 q in
    sized_back Q k v d (ds ++ (crlf ++ rest)) (Some x) on.1
    (and_from (ltb k 5) (ltb v 65536) (lt-ltb k 5 (omega arith)) (lt-ltb v 65536 (omega arith)), more)

-- a size by its digits, of which k were read
pub record Digits (Q : ℕ → Text → Type 0) (k v : ℕ) (t : Text) : Type 0 where
  pub digits : Text
  pub number : ℕ
  pub later : Text
  pub text : t ≡ digits ++ (crlf ++ later)
  pub worth : value_after Hexadecimal v digits ≡ Some number
  pub some : 1 ≤ k + length digits
  pub few : k ≤ 5 → k + length digits ≤ 5
  pub next : Q number later

sized_by : (Q : ℕ → Text → Type 0) (t : Text) (k v b : ℕ) (o : Option ℕ) → digit_value Hexadecimal b ≡ o → ((x : ℕ) → Sized Q (k + 1) (v * 16 + x) t → Digits Q (k + 1) (v * 16 + x) t) →
    SizedAt Q k v b t o → Digits Q k v (b ∷ t)
unfolding value_after
sized_by Q t k v b (Some x) e more s =
    let r = more x s.1 in
    let low = ltb-true k 5 (and_parts (ltb k 5) (ltb v 65536) s.0).0 in
    record {
      digits = b ∷ r.digits;
      number = r.number;
      later = r.later;
      text = ap (λ l. b ∷ l) r.text;
      worth = ap (λ (o : Option ℕ). on_digit o (λ d. value_after Hexadecimal (v * 16 + d) r.digits)) e ∙ r.worth;
      some = omega arith;
      few = λ h. omega (arith, r.few (omega arith));
      next = r.next;
    }
sized_by Q t k v b None e more s =
    let both = and_parts (eqb b 13) (ltb 0 k) s.0 in
    let l = s.1 in
    record {
      digits = [];
      number = v;
      later = l.0;
      text = ap (λ x. x ∷ t) (eqb-true b 13 both.0) ∙ ap (λ x. 13 ∷ x) l.1;
      worth = refl;
      some = omega (arith, ltb-true 0 k both.1);
      few = λ h. omega arith;
      next = l.2;
    }

pub sized_so : (Q : ℕ → Text → Type 0) (t : Text) (k v : ℕ) → Sized Q k v t → Digits Q k v t
unfolding Sized
sized_so Q [] k v s = absurd s
sized_so Q (b ∷ t) k v s = sized_by Q t k v b (digit_value Hexadecimal b) refl (λ x. sized_so Q t (k + 1) (v * 16 + x)) s

-- something can follow
abbrev pub Open : Phase → Type 0
Open p = (u : Text) × Due p u

bytes_open : (n : ℕ) → Data n (replicate n 0 ++ crlf)
bytes_open n = ([], drop_at (replicate n 0) crlf n (length-replicate n 0))

lf_open : (n : ℕ) → Line Data n (10 ∷ (replicate n 0 ++ crlf))
lf_open n = (replicate n 0 ++ crlf, refl, bytes_open n)

-- where there are digits, the line may end
digits_open : (first k v : ℕ) → 0 < k → Open (Size first k v)
unfolding Sized
digits_open first k v h = (13 ∷ 10 ∷ (replicate v 0 ++ crlf), (lt-ltb 0 k h, lf_open v))

pub fresh_open : (first : ℕ) → Open (Size first 0 0)
unfolding Sized
fresh_open first = (48 ∷ 13 ∷ 10 ∷ crlf, (refl, (refl, lf_open 0)))

-- What the byte b before bs does in a phase, where o is how the run over both ends: it goes on to another phase, in which the same is due; it ends the
-- chunk; with it nothing is right; or it ends the line of a size above the room.
pub data Turn (p : Phase) (room read b : ℕ) (bs : Text) (o : Outcome) : Type 0 where
  goes : (q : Phase) (room' : ℕ) → o ≡ (run (in_phase q room' (read + 1)) bs).outcome → Open q → ((u : Text) → Iff (Due p (b ∷ u)) (Due q u)) →
      ((w : Flaw) → Iff (Large p room w (b ∷ bs)) (Large q room' w bs)) → Turn p room read b bs o
  done : Due p (b ∷ bs) → ((w : Flaw) → Large p room w (b ∷ bs) → ⊥) → Turn p room read b bs o
  wrong : o ≡ Wrong (flaw BadChunk read) → ((u : Text) → Due p (b ∷ u) → ⊥) → ((w : Flaw) → Large p room w (b ∷ bs) → ⊥) → Turn p room read b bs o
  large : (w : Flaw) → o ≡ Wrong w → Large p room w (b ∷ bs) → Turn p room read b bs o

-- the same of a run
abbrev TurnOf : Phase → ℕ → ℕ → ℕ → Text → Run → Type 0
TurnOf p room read b bs r = Turn p room read b bs r.outcome

-- where the byte is no right one of a size, no text goes on with it
size_wrong : (first k v room read b : ℕ) (bs : Text) (o : Option ℕ) (s : Chunk) → digit_value Hexadecimal b ≡ o →
    ((Q : ℕ → Text → Type 0) (t : Text) → SizedAt Q k v b t o → ⊥) → TurnOf (Size first k v) room read b bs (stop s 0 (Wrong (flaw BadChunk read)))
size_wrong first k v room read b bs o s e never = wrong refl (λ u d. never Data u (sized_on Data k v b u o e d)) (λ w d. never (Above first room w) bs (sized_on (Above first room w) k v b bs o e d))

size_turn : (first k v room read b : ℕ) (bs : Text) (o : Option ℕ) → digit_value Hexadecimal b ≡ o →
    TurnOf (Size first k v) room read b bs (go (in_phase (Size first k v) room read) (on_size (in_phase (Size first k v) room read) first k v b o) (λ t. run t bs))
size_turn first k v room read b bs (Some x) e =
    let p = Size first k v in
    let s = in_phase p room read in
    let q = Size first (k + 1) (v * 16 + x) in
    cond_both (ltb k 5 && ltb v 65536) (Ok (to s q)) (Err (wrong_byte s)) (λ z. TurnOf p room read b bs (go s z (λ t. run t bs)))
    (λ f.
    goes q room refl (digits_open first (k + 1) (v * 16 + x) (omega arith))
    (λ u. (λ d. (sized_on Data k v b u (Some x) e d).1, λ d. sized_back Data k v b u (Some x) e (f, d)))
    (λ w. let Q = Above first room w in (λ d. (sized_on Q k v b bs (Some x) e d).1, λ d. sized_back Q k v b bs (Some x) e (f, d))))
    (λ f. size_wrong first k v room read b bs (Some x) s e (λ Q t d. both_ways (ltb k 5 && ltb v 65536) f d.0))
size_turn first k v room read b bs None e =
    let p = Size first k v in
    let s = in_phase p room read in
    cond_both (eqb b 13 && ltb 0 k) (Ok (to s (SizeLf first v))) (Err (wrong_byte s)) (λ z. TurnOf p room read b bs (go s z (λ t. run t bs)))
    (λ f.
    goes (SizeLf first v) room refl (10 ∷ (replicate v 0 ++ crlf), lf_open v)
    (λ u. (λ d. (sized_on Data k v b u None e d).1, λ d. sized_back Data k v b u None e (f, d)))
    (λ w. let Q = Above first room w in (λ d. (sized_on Q k v b bs None e d).1, λ d. sized_back Q k v b bs None e (f, d))))
    (λ f. size_wrong first k v room read b bs None s e (λ Q t d. both_ways (eqb b 13 && ltb 0 k) f d.0))

same_head : (b c : ℕ) (xs ys : Text) → b ∷ xs ≡ c ∷ ys → b ≡ c
same_head b c xs ys e = cc

same_tail : (b c : ℕ) (xs ys : Text) → b ∷ xs ≡ c ∷ ys → xs ≡ ys
same_tail b c xs ys e = cc

-- of a text that begins so: its first byte, and what stands behind it
begins_head : (c : ℕ) (x : Text) (b : ℕ) (t : Text) → Begins (c ∷ x) (b ∷ t) → b ≡ c
begins_head c x b t d = same_head b c t (x ++ d.0) d.1

begins_tail : (c : ℕ) (x t : Text) → Iff (Begins (c ∷ x) (c ∷ t)) (Begins x t)
begins_tail c x t = (λ d. (d.0, same_tail c c t (x ++ d.0) d.1), λ d. (d.0, ap (λ l. c ∷ l) d.1))

-- behind the LF
line_on : (Q : ℕ → Text → Type 0) (n b : ℕ) (t : Text) → Line Q n (b ∷ t) → Q n t
line_on Q n b t l = subst (Q n) (sym (same_tail b 10 t l.0 l.1)) l.2

line_head : (Q : ℕ → Text → Type 0) (n b : ℕ) (t : Text) → Line Q n (b ∷ t) → b ≡ 10
line_head Q n b t l = same_head b 10 t l.0 l.1

-- the LF after a size
sized_turn : (first n room read : ℕ) (bs : Text) →
    TurnOf (SizeLf first n) room read 10 bs (go (in_phase (SizeLf first n) room read) (sized (in_phase (SizeLf first n) room read) first n) (λ t. run t bs))
sized_turn first n room read bs =
    let p = SizeLf first n in
    let s = in_phase p room read in
    let some : Stepped = Ok (On (in_phase (Bytes n) (room - n) (read + 1))) in
    let above : Stepped = Err (flaw BodyTooLong first) in
    cond_both (eqb n 0) (Ok (to s LastCr)) (cond (leb n room) some above) (λ z. TurnOf p room read 10 bs (go s z (λ t. run t bs)))
    (λ f.
    let z = eqb-true n 0 f in
    goes LastCr room refl (crlf, ([], refl))
    (λ u. (λ d. subst (λ m. Data m u) z (line_on Data n 10 u d), λ d. (u, refl, subst (λ m. Data m u) (sym z) d)))
    (λ w. (λ d. omega (arith, (line_on (Above first room w) n 10 bs d).0), λ d. absurd d)))
    (λ f.
    cond_both (leb n room) some above (λ z. TurnOf p room read 10 bs (go s z (λ t. run t bs)))
    (λ g.
    goes (Bytes n) (room - n) refl (replicate n 0 ++ crlf, bytes_open n)
    (λ u. (λ d. line_on Data n 10 u d, λ d. (u, refl, d)))
    (λ w. (λ d. omega (arith, leb-true n room g, (line_on (Above first room w) n 10 bs d).0), λ d. absurd d)))
    (λ g. large (flaw BodyTooLong first) refl (bs, refl, (leb-false n room g, refl))))

-- one byte must stand there
only_turn : (p : Phase) (mark room read b : ℕ) (bs : Text) (next : Stepped) → ((u : Text) → Due p (b ∷ u) → b ≡ mark) → ((w : Flaw) → Large p room w (b ∷ bs) → b ≡ mark) →
    TurnOf p room read mark bs (go (in_phase p room read) next (λ t. run t bs)) →
    TurnOf p room read b bs (go (in_phase p room read) (only mark (in_phase p room read) b next) (λ t. run t bs))
only_turn p mark room read b bs next h k turn =
    let s = in_phase p room read in
    cond_both (eqb b mark) next (Err (wrong_byte s)) (λ z. TurnOf p room read b bs (go s z (λ t. run t bs)))
    (λ f. subst (λ c. TurnOf p room read c bs (go s next (λ t. run t bs))) (sym (eqb-true b mark f)) turn)
    (λ f. wrong refl (λ u d. eqb-false b mark f (h u d)) (λ w d. eqb-false b mark f (k w d)))

-- what each byte does in each phase
pub turn : (p : Phase) (room read b : ℕ) (bs : Text) → TurnOf p room read b bs (run (in_phase p room read) (b ∷ bs))
unfolding run
turn (Size first k v) room read b bs = size_turn first k v room read b bs (digit_value Hexadecimal b) refl
turn (SizeLf first n) room read b bs =
    only_turn (SizeLf first n) 10 room read b bs (sized (in_phase (SizeLf first n) room read) first n) (line_head Data n b) (λ w. line_head (Above first room w) n b bs) (sized_turn first n room read bs)
turn (Bytes zero) room read b bs =
    only_turn (Bytes zero) 13 room read b bs (Ok (to (in_phase (Bytes zero) room read) BytesLf)) (begins_head 13 (10 ∷ []) b) (λ w d. absurd d)
    (goes BytesLf room refl (10 ∷ [], ([], refl)) (begins_tail 13 (10 ∷ [])) (λ w. (λ d. d, λ d. d)))
turn (Bytes (suc m)) room read b bs =
    let less : suc m - 1 ≡ m = omega arith in
    goes (Bytes m) room
    (ap (λ (r : Run). r.outcome) (cond-true (ltb 0 (suc m)) _ _ (lt-ltb 0 (suc m) (omega arith))) ∙ ap (λ n. (run (in_phase (Bytes n) room (read + 1)) bs).outcome) less)
    (replicate m 0 ++ crlf, bytes_open m) (λ u. (λ d. d, λ d. d)) (λ w. (λ d. d, λ d. d))
turn BytesLf room read b bs =
    only_turn BytesLf 10 room read b bs (Ok (to (in_phase BytesLf room read) (Size (read + 1) 0 0))) (begins_head 10 [] b) (λ w d. absurd d) (done (bs, refl) (λ w d. d))
turn LastCr room read b bs =
    only_turn LastCr 13 room read b bs (Ok (to (in_phase LastCr room read) LastLf)) (begins_head 13 (10 ∷ []) b) (λ w d. absurd d)
    (goes LastLf room refl (10 ∷ [], ([], refl)) (begins_tail 13 (10 ∷ [])) (λ w. (λ d. d, λ d. d)))
turn LastLf room read b bs =
    only_turn LastLf 10 room read b bs (Ok (End (in_phase LastLf room (read + 1)))) (begins_head 10 [] b) (λ w d. absurd d) (done (bs, refl) (λ w d. d))
