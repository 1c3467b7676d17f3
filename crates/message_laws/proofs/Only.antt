-- What is read to an end is a chunked body: what may follow in each phase, and induction over the bytes.
use Rattle.std.proofs.Common.{◌≡◌, ℕ, suc, ◌+◌, ◌-◌, ◌*◌, ◌<◌, ◌≤◌, cond, ◌&&◌, eqb, ltb, leb, ◌⊎◌, [], ◌∷◌, ◌++◌, length, take, Some, None, Option, sym, refl, ap, ◌∙◌, subst, inl, inr, append_assoc, one-add, arith, Ok, Err}
use Rattle.std.proofs.lemmas.List.{length-append}
use Rattle.std.proofs.lemmas.Bool.{cond_both, ltb-true, ltb-false, leb-true, eqb-true, eqb-false, and_parts}
use Rattle.text.specs.Bytes.{Text}
use Rattle.text.specs.Numerals.{digit_value, on_digit, value_after}
use Rattle.text.specs.declared.numeral.Base.TheVariants.{Hexadecimal}
use Rattle.message.specs.Faults.{flaw}
use Rattle.message.specs.declared.fault.Fault.TheVariants.{BodyTooLong}
use Rattle.message.specs.declared.fault.Flaw.{Flaw}
use Rattle.message.specs.declared.chunked.Phase.{Phase}
use Rattle.message.specs.declared.chunked.Phase.TheVariants.{Size, SizeLf, Bytes, BytesLf, LastCr, LastLf}
use Rattle.message.specs.declared.chunked.Chunk.{Chunk}
use Rattle.message.specs.declared.chunked.Outcome.TheVariants.{Whole, Wrong}
use Rattle.message.specs.declared.chunked.Step.TheVariants.{On, End}
use Rattle.message.specs.Chunked.{Stepped, in_phase, fresh, to, wrong_byte, only, on_size, sized, Run, after, stop, go, run}
use Rattle.message_laws.specs.Chunks.{crlf, Says, Part, sent, all_sent, Chunked}
use Rattle.message_laws.specs.Laws.{OnlyChunks}
use Rattle.message_laws.proofs.Sizes.{says_from}

-- a chunked body within the room
record NextRest (room : ℕ) (t b : Text) : Type 0 where
  body : Chunked t b
  fit : length b ≤ room

-- n bytes, CR LF, and a body
record BytesRest (n room : ℕ) (t b : Text) : Type 0 where
  bytes : Text
  later : Text
  more : Text
  long : length bytes ≡ n
  text : t ≡ bytes ++ (13 ∷ 10 ∷ later)
  holds : b ≡ bytes ++ more
  next : NextRest room later more

-- after the CR of the size 0
record LastRest (n : ℕ) (t b : Text) : Type 0 where
  none : n ≡ 0
  text : t ≡ 10 ∷ 13 ∷ 10 ∷ []
  holds : b ≡ []

-- after the CR of another size
record ChunkRest (n room : ℕ) (t b : Text) : Type 0 where
  later : Text
  some : 0 < n
  fit : n ≤ room
  text : t ≡ 10 ∷ later
  next : BytesRest n (room - n) later b

abbrev LfRest : ℕ → ℕ → Text → Text → Type 0
LfRest n room t b = LastRest n t b ⊎ ChunkRest n room t b

-- after k digits worth v
record SizeRest (k v room : ℕ) (t b : Text) : Type 0 where
  digits : Text
  number : ℕ
  later : Text
  text : t ≡ digits ++ (13 ∷ later)
  worth : value_after Hexadecimal v digits ≡ Some number
  some : 1 ≤ k + length digits
  few : k ≤ 5 → k + length digits ≤ 5
  next : LfRest number room later b

record LfNext (room : ℕ) (t b : Text) : Type 0 where
  later : Text
  text : t ≡ 10 ∷ later
  next : NextRest room later b

-- what may follow in each phase: the text t, which holds b
abbrev RestOf : Phase → ℕ → Text → Text → Type 0
RestOf (Size first k v) room t b = SizeRest k v room t b
RestOf (SizeLf first n) room t b = LfRest n room t b
RestOf (Bytes n) room t b = BytesRest n room t b
RestOf BytesLf room t b = LfNext room t b
RestOf LastCr room t b = (t ≡ 13 ∷ 10 ∷ []) × (b ≡ [])
RestOf LastLf room t b = (t ≡ 10 ∷ []) × (b ≡ [])

-- a size, and what may follow it, are a chunked body
joined : (ds later t b : Text) (n room : ℕ) → t ≡ ds ++ (13 ∷ later) → Says ds n → LfRest n room later b → NextRest room t b
joined ds later t b n room e says (inl z) =
    record {
      body = record {
        chunks = [];
        zeros = ds;
        right = tt;
        last = says ∙ ap Some z.none;
        text = e ∙ ap (λ l. ds ++ (13 ∷ l)) z.text;
        holds = z.holds;
      };
      fit = omega (arith, ap length z.holds);
    }
joined ds later t b n room e says (inr x) =
    let y = x.next in
    let g = y.next.body in
    let tail = g.zeros ++ (crlf ++ crlf) in
    let c : Part = record { size = ds; bytes = y.bytes } in
    let some : 0 < length y.bytes = omega (arith, y.long, x.some) in
    let assoc : ds ++ (13 ∷ 10 ∷ (y.bytes ++ (13 ∷ 10 ∷ (all_sent g.chunks ++ tail)))) ≡ (sent c ++ all_sent g.chunks) ++ tail = simp append_assoc in
    record {
      body = record {
        chunks = c ∷ g.chunks;
        zeros = g.zeros;
        right = ((says ∙ ap Some (sym y.long), some), g.right);
        last = g.last;
        text = e ∙ ap (λ l. ds ++ (13 ∷ l)) x.text ∙ ap (λ l. ds ++ (13 ∷ 10 ∷ l)) y.text ∙ ap (λ l. ds ++ (13 ∷ 10 ∷ (y.bytes ++ (13 ∷ 10 ∷ l)))) g.text ∙ assoc;
        holds = y.holds ∙ ap (λ l. y.bytes ++ l) g.holds;
      };
      fit = omega (arith, ap length y.holds, length-append y.bytes y.more, y.long, x.fit, y.next.fit);
    }

-- what may follow at the start
begun : (first room : ℕ) (t b : Text) → RestOf (Size first 0 0) room t b → NextRest room t b
begun first room t b r =
    let some : 1 ≤ length r.digits = omega (arith, r.some) in
    let low : 0 ≤ 5 = omega arith in
    let few : length r.digits ≤ 5 = omega (arith, r.few low) in
    joined r.digits r.later t b r.number room r.text (says_from r.digits r.number some few r.worth) r.next

-- one byte in front, phase by phase
digit : (first k v x room d : ℕ) (t b : Text) → digit_value Hexadecimal d ≡ Some x → k < 5 → RestOf (Size first (k + 1) (v * 16 + x)) room t b → RestOf (Size first k v) room (d ∷ t) b
unfolding value_after
digit first k v x room d t b e h r =
    let five : k + 1 ≤ 5 = omega arith in
    record {
      digits = d ∷ r.digits;
      number = r.number;
      later = r.later;
      text = ap (λ l. d ∷ l) r.text;
      worth = ap (λ (o : Option ℕ). on_digit o (λ y. value_after Hexadecimal (v * 16 + y) r.digits)) e ∙ r.worth;
      some = omega (arith, r.some);
      few = λ l. omega (arith, r.few five);
      next = r.next;
    }

size_end : (first k v room d : ℕ) (t b : Text) → d ≡ 13 → 0 < k → RestOf (SizeLf first v) room t b → RestOf (Size first k v) room (d ∷ t) b
unfolding value_after
size_end first k v room d t b e h r =
    record {
      digits = [];
      number = v;
      later = t;
      text = ap (λ x. x ∷ t) e;
      worth = refl;
      some = omega arith;
      few = λ l. omega arith;
      next = r;
    }

zero_lf : (first n room d : ℕ) (t b : Text) → d ≡ 10 → n ≡ 0 → RestOf LastCr room t b → RestOf (SizeLf first n) room (d ∷ t) b
zero_lf first n room d t b e z r = inl record { none = z; text = ap (λ x. x ∷ t) e ∙ ap (λ l. 10 ∷ l) r.0; holds = r.1 }

some_lf : (first n room d : ℕ) (t b : Text) → d ≡ 10 → (n ≡ 0 → ⊥) → n ≤ room → RestOf (Bytes n) (room - n) t b → RestOf (SizeLf first n) room (d ∷ t) b
some_lf first n room d t b e z h r = inr record { later = t; some = omega arith; fit = h; text = ap (λ x. x ∷ t) e; next = r }

one_byte : (n room d : ℕ) (t b : Text) → 0 < n → RestOf (Bytes (n - 1)) room t b → RestOf (Bytes n) room (d ∷ t) (d ∷ b)
one_byte n room d t b h r =
    record {
      bytes = d ∷ r.bytes;
      later = r.later;
      more = r.more;
      long = omega (arith, r.long);
      text = ap (λ l. d ∷ l) r.text;
      holds = ap (λ l. d ∷ l) r.holds;
      next = r.next;
    }

bytes_end : (n room d : ℕ) (t b : Text) → n ≡ 0 → d ≡ 13 → RestOf BytesLf room t b → RestOf (Bytes n) room (d ∷ t) b
bytes_end n room d t b z e r =
    record {
      bytes = [];
      later = r.later;
      more = b;
      long = sym z;
      text = ap (λ x. x ∷ t) e ∙ ap (λ l. 13 ∷ l) r.text;
      holds = refl;
      next = r.next;
    }

next_lf : (room read b : ℕ) (t c : Text) → b ≡ 10 → RestOf (Size (read + 1) 0 0) room t c → RestOf BytesLf room (b ∷ t) c
next_lf room read b t c e r = record { later = t; text = ap (λ x. x ∷ t) e; next = begun (read + 1) room t c r }

-- what a run over the bytes b ∷ bs has read, where it came to the end, may follow in the phase p
abbrev Goal : Phase → ℕ → ℕ → Text → Run → Type 0
Goal p room b bs r = r.outcome ≡ Whole → RestOf p room (take r.taken (b ∷ bs)) r.body

-- the same of every run over bs, from any phase
abbrev Holds : Text → Type 0
Holds bs = (p : Phase) (room read : ℕ) → (run (in_phase p room read) bs).outcome ≡ Whole → RestOf p room (take (run (in_phase p room read) bs).taken bs) (run (in_phase p room read) bs).body

on_goal : (p : Phase) (room b : ℕ) (bs : Text) (q : Phase) (room' read : ℕ) → Holds bs → ((t c : Text) → RestOf q room' t c → RestOf p room (b ∷ t) c) → Goal p room b bs (after [] 1 (run (in_phase q room' read) bs))
on_goal p room b bs q room' read h f e =
    let r = run (in_phase q room' read) bs in
    let one : take (suc r.taken) (b ∷ bs) ≡ take (1 + r.taken) (b ∷ bs) = ap (λ m. take m (b ∷ bs)) (sym (one-add r.taken)) in
    subst (λ (l : Text). RestOf p room l r.body) one (f (take r.taken bs) r.body (h q room' read e))

bad_goal : (p : Phase) (room b : ℕ) (bs : Text) (s : Chunk) (f : Flaw) → Goal p room b bs (stop s 0 (Wrong f))
bad_goal p room b bs s f e = absurd cc

-- one byte must stand there
only_goal : (p : Phase) (mark room read b : ℕ) (bs : Text) (next : Stepped) → (b ≡ mark → Goal p room b bs (go (in_phase p room read) next (λ t. run t bs))) →
    Goal p room b bs (go (in_phase p room read) (only mark (in_phase p room read) b next) (λ t. run t bs))
only_goal p mark room read b bs next h =
    let s = in_phase p room read in
    cond_both (eqb b mark) next (Err (wrong_byte s)) (λ z. Goal p room b bs (go s z (λ t. run t bs))) (λ e. h (eqb-true b mark e)) (λ e. bad_goal p room b bs s _)

size_goal : (first k v room read b : ℕ) (bs : Text) (o : Option ℕ) → Holds bs → digit_value Hexadecimal b ≡ o →
    Goal (Size first k v) room b bs (go (in_phase (Size first k v) room read) (on_size (in_phase (Size first k v) room read) first k v b o) (λ t. run t bs))
size_goal first k v room read b bs (Some x) h e =
    let p = Size first k v in
    let s = in_phase p room read in
    let q = Size first (k + 1) (v * 16 + x) in
    cond_both (ltb k 5 && ltb v 65536) (Ok (to s q)) (Err (wrong_byte s)) (λ z. Goal p room b bs (go s z (λ t. run t bs)))
    (λ f. on_goal p room b bs q room (read + 1) h (λ t c. digit first k v x room b t c e (ltb-true k 5 (and_parts (ltb k 5) (ltb v 65536) f).0)))
    (λ f. bad_goal p room b bs s _)
size_goal first k v room read b bs None h e =
    let p = Size first k v in
    let s = in_phase p room read in
    cond_both (eqb b 13 && ltb 0 k) (Ok (to s (SizeLf first v))) (Err (wrong_byte s)) (λ z. Goal p room b bs (go s z (λ t. run t bs)))
    (λ f.
    let both = and_parts (eqb b 13) (ltb 0 k) f in
    on_goal p room b bs (SizeLf first v) room (read + 1) h (λ t c. size_end first k v room b t c (eqb-true b 13 both.0) (ltb-true 0 k both.1)))
    (λ f. bad_goal p room b bs s _)

sized_goal : (first n room read b : ℕ) (bs : Text) → Holds bs → b ≡ 10 →
    Goal (SizeLf first n) room b bs (go (in_phase (SizeLf first n) room read) (sized (in_phase (SizeLf first n) room read) first n) (λ t. run t bs))
sized_goal first n room read b bs h e =
    let p = SizeLf first n in
    let s = in_phase p room read in
    let some : Stepped = Ok (On (in_phase (Bytes n) (room - n) (read + 1))) in
    let large : Stepped = Err (flaw BodyTooLong first) in
    cond_both (eqb n 0) (Ok (to s LastCr)) (cond (leb n room) some large) (λ z. Goal p room b bs (go s z (λ t. run t bs)))
    (λ f. on_goal p room b bs LastCr room (read + 1) h (λ t c. zero_lf first n room b t c e (eqb-true n 0 f)))
    (λ f.
    cond_both (leb n room) some large (λ z. Goal p room b bs (go s z (λ t. run t bs)))
    (λ g. on_goal p room b bs (Bytes n) (room - n) (read + 1) h (λ t c. some_lf first n room b t c e (eqb-false n 0 f) (leb-true n room g)))
    (λ g. bad_goal p room b bs s _))

due_goal : (n room read b : ℕ) (bs : Text) → 0 < n → Holds bs → Goal (Bytes n) room b bs (after (b ∷ []) 1 (run (in_phase (Bytes (n - 1)) room (read + 1)) bs))
due_goal n room read b bs some h e =
    let r = run (in_phase (Bytes (n - 1)) room (read + 1)) bs in
    let one : take (suc r.taken) (b ∷ bs) ≡ take (1 + r.taken) (b ∷ bs) = ap (λ m. take m (b ∷ bs)) (sym (one-add r.taken)) in
    subst (λ (l : Text). RestOf (Bytes n) room l (b ∷ r.body)) one (one_byte n room b (take r.taken bs) r.body some (h (Bytes (n - 1)) room (read + 1) e))

byte_goal : (p : Phase) (room read b : ℕ) (bs : Text) → Holds bs → Goal p room b bs (run (in_phase p room read) (b ∷ bs))
unfolding run
byte_goal (Size first k v) room read b bs h = size_goal first k v room read b bs (digit_value Hexadecimal b) h refl
byte_goal (SizeLf first n) room read b bs h = only_goal (SizeLf first n) 10 room read b bs (sized (in_phase (SizeLf first n) room read) first n) (sized_goal first n room read b bs h)
byte_goal (Bytes n) room read b bs h =
    let p = Bytes n in
    let s = in_phase p room read in
    cond_both (ltb 0 n) (after (b ∷ []) 1 (run (in_phase (Bytes (n - 1)) room (read + 1)) bs)) (go s (only 13 s b (Ok (to s BytesLf))) (λ t. run t bs)) (Goal p room b bs)
    (λ e. due_goal n room read b bs (ltb-true 0 n e) h)
    (λ e. let z : n ≡ 0 = omega (arith, ltb-false 0 n e) in only_goal p 13 room read b bs (Ok (to s BytesLf)) (λ f. on_goal p room b bs BytesLf room (read + 1) h (λ t c. bytes_end n room b t c z f)))
byte_goal BytesLf room read b bs h =
    only_goal BytesLf 10 room read b bs (Ok (to (in_phase BytesLf room read) (Size (read + 1) 0 0))) (λ f. on_goal BytesLf room b bs (Size (read + 1) 0 0) room (read + 1) h (λ t c. next_lf room read b t c f))
byte_goal LastCr room read b bs h =
    only_goal LastCr 13 room read b bs (Ok (to (in_phase LastCr room read) LastLf)) (λ f. on_goal LastCr room b bs LastLf room (read + 1) h (λ t c r. (ap (λ x. x ∷ t) f ∙ ap (λ l. 13 ∷ l) r.0, r.1)))
byte_goal LastLf room read b bs h =
    only_goal LastLf 10 room read b bs (Ok (End (in_phase LastLf room (read + 1)))) (λ f e. (ap (λ x. x ∷ []) f, refl))

holds : (bs : Text) → Holds bs
unfolding run
holds [] p room read e = absurd cc
holds (b ∷ bs) p room read e = byte_goal p room read b bs (holds bs) e

pub only_chunks : OnlyChunks
only_chunks t room read e =
    let r = begun read room (take (run (fresh room read) t).taken t) (run (fresh room read) t).body (holds t (Size read 0 0) room read e) in
    (r.body, r.fit)
