-- The ear is steady: what was found stays found when more comes, and was found in bytes of its own.
use Rattle.std.proofs.Common.{◌≡◌, ℕ, ◌+◌, ◌-◌, ◌<◌, ◌≤◌, ltb, [], ◌∷◌, ◌++◌, length, take, drop, Some, None, Ok, Err, Option, Result, sym, refl, ap, ap₂, ◌∙◌, append_assoc, length-append, length-take, take-append-drop, take_at, drop_at, arith}
use Rattle.std.proofs.lemmas.List.{drop-append-le, length-take-le, drop_all, take_all}
use Rattle.std.proofs.lemmas.Bool.{cond_both, ltb-true}
use Rattle.text.specs.Bytes.{Text, all}
use Rattle.message.specs.Bodies.{Part, counted, part_of, unplaced, room_of}
use Rattle.message.specs.Chunked.{most_bytes, Run, Stepped, run, go, after, due_of, skipped, step_of}
use Rattle.message.specs.declared.body.Due.{Due}
use Rattle.message.specs.declared.body.Due.TheVariants.{Length, Chunks}
use Rattle.message.specs.declared.chunked.Chunk.{Chunk}
use Rattle.message.specs.declared.chunked.Outcome.{Outcome}
use Rattle.message.specs.declared.chunked.Outcome.TheVariants.{More, Whole, Wrong}
use Rattle.message.specs.declared.chunked.Step.TheVariants.{On, End}
use Rattle.message.proofs.Bodies.{run_bounded}
use Rattle.message_laws.specs.Laws.{behind, on_part as onward_at, part_onward}
use Rattle.message_laws.proofs.Parts.{counted_there, cut_free, stay, all_read}
use Rattle.request.specs.Heads.{window}
use Rattle.request_laws.proofs.Leads.{take_joined}
use Rattle.response.specs.Heads.{judged}
use Rattle.response.specs.declared.head.Head.{Head}
use Rattle.response.specs.declared.head.Judged.{Judged}
use Rattle.response.specs.declared.head.Unreadable.{Unreadable}
use Rattle.connection.specs.Model.{Response, more, unreadable, whole}
use Rattle.response_laws.specs.Ear.{response_of, on_part, on_body, on_judged, ear}
use Rattle.response_laws.specs.Laws.{SteadyEar}
use Rattle.response_laws.proofs.Front.{head_front, head_err}

-- no more is taken than there is
pub taken_within : (d : Due) (x : Text) → (part_of d x).outcome ≡ Whole → (part_of d x).taken ≤ length x
taken_within (Length n) x h = let there = counted_there n x h in cond_both (ltb (length x) n) _ _ (λ (p : Part). p.taken ≤ length x) (λ e. omega arith) (λ e. there)
taken_within (Chunks c) x h = (run_bounded c x).read

-- a chunked body that is whole has a byte at least
some_go : (c : Chunk) (s : Stepped) (k : Chunk → Run) → (go c s k).outcome ≡ Whole → 0 < (go c s k).taken
some_go c (Ok (On t)) k h = omega arith
some_go c (Ok (End t)) k h = omega arith
some_go c (Err w) k h = cc

some_run : (x : Text) (c : Chunk) → (run c x).outcome ≡ Whole → 0 < (run c x).taken
unfolding run
some_run [] c h = cc
some_run (b ∷ bs) c h =
    cond_both (ltb 0 (due_of c)) (after (b ∷ []) 1 (run (skipped c 1) bs)) (go c (step_of c b) (λ t. run t bs)) (λ (r : Run). r.outcome ≡ Whole → 0 < r.taken)
    (λ e g. omega arith) (λ e g. some_go c (step_of c b) (λ t. run t bs) g) h

-- a body that is whole in a text is whole in its own bytes
own_left : (n : ℕ) (y z : Text) → (counted n y).outcome ≡ More → (part_of (counted n y).due z).outcome ≡ Whole → 0 < (part_of (counted n y).due z).taken
own_left n y z =
    cond_both (ltb (length y) n) (record { due = Length (n - length y); body = y; taken = length y; outcome = More }) (record { due = Length 0; body = take n y; taken = n; outcome = Whole })
    (λ (p : Part). p.outcome ≡ More → (part_of p.due z).outcome ≡ Whole → 0 < (part_of p.due z).taken)
    (λ e m w.
    let less = ltb-true (length y) n e in
    cond_both (ltb (length z) (n - length y)) (record { due = Length (n - length y - length z); body = z; taken = length z; outcome = More }) (record { due = Length 0; body = take (n - length y) z; taken = n - length y; outcome = Whole })
    (λ (p : Part). p.outcome ≡ Whole → 0 < p.taken) (λ f g. cc) (λ f g. omega arith) w)
    (λ e m w. cc)

rest_some : (d : Due) (y z : Text) → (part_of d y).outcome ≡ More → (part_of (part_of d y).due z).outcome ≡ Whole → 0 < (part_of (part_of d y).due z).taken
rest_some (Length n) y z m w = own_left n y z m w
rest_some (Chunks c) y z m w = some_run z (run c y).chunk w

module _ (d : Due) (x : Text) (h : (part_of d x).outcome ≡ Whole) where
  abbrev own_bytes : Text
  own_bytes = take (part_of d x).taken x

  abbrev left_bytes : Text
  left_bytes = drop (part_of d x).taken x

  own_long : length own_bytes ≡ (part_of d x).taken
  own_long = length-take-le (part_of d x).taken x (taken_within d x h)

  own_on : part_of d x ≡ part_onward (part_of d own_bytes) (λ t. part_of t left_bytes)
  own_on = ap (part_of d) (sym (take-append-drop (part_of d x).taken x)) ∙ cut_free d own_bytes left_bytes

  own_by : (o : Outcome) → (part_of d own_bytes).outcome ≡ o → part_of d own_bytes ≡ part_of d x
  own_by Whole e = sym (own_on ∙ ap (λ o. onward_at o (part_of d own_bytes) (λ t. part_of t left_bytes)) e)
  own_by (Wrong w) e = sym (own_on ∙ ap (λ o. onward_at o (part_of d own_bytes) (λ t. part_of t left_bytes)) e)
  own_by More e =
      let p = part_of d own_bytes in
      let q = part_of p.due left_bytes in
      let is : part_of d x ≡ behind p.body p.taken q = own_on ∙ ap (λ o. onward_at o p (λ t. part_of t left_bytes)) e in
      let w : q.outcome ≡ Whole = sym (ap (λ (r : Part). r.outcome) is) ∙ h in
      let some = rest_some d own_bytes left_bytes e w in
      absurd (omega (arith, ap (λ (r : Part). r.taken) is, all_read d own_bytes e, own_long))

  pub part_own : part_of d own_bytes ≡ part_of d x
  part_own = own_by (part_of d own_bytes).outcome refl

-- what is found behind a head
module _ (head : Head) (h : Text) (d : Due) (x : Text) where
  whole_by : (o : Outcome) (a : Response) (rest : Text) → (part_of d x).outcome ≡ o → on_part head h x (part_of d x) o ≡ whole a rest → (o ≡ Whole) × (response_of head h (part_of d x).body ≡ a) × (drop (part_of d x).taken x ≡ rest)
  whole_by More a rest e g = cc
  whole_by (Wrong w) a rest e g = cc
  whole_by Whole a rest e g = (refl, cc, cc)

  whole_body : (a : Response) (rest : Text) → on_body head h d x ≡ whole a rest → ((part_of d x).outcome ≡ Whole) × (response_of head h (part_of d x).body ≡ a) × (drop (part_of d x).taken x ≡ rest)
  whole_body a rest g = whole_by (part_of d x).outcome a rest refl g

  body_stays : (a : Response) (rest t : Text) → on_body head h d x ≡ whole a rest → on_body head h d (x ++ t) ≡ whole a (rest ++ t)
  body_stays a rest t g =
      let w = whole_body a rest g in
      let p = part_of d x in
      let same : part_of d (x ++ t) ≡ part_of d x = stay d x t (λ m. let no : Whole ≡ More = sym w.0 ∙ m in cc) in
      ap (λ (q : Part). on_part head h (x ++ t) q q.outcome) same ∙ ap (on_part head h (x ++ t) p) w.0
      ∙ ap₂ whole w.1 (drop-append-le p.taken x t (taken_within d x w.0) ∙ ap (λ z. z ++ t) w.2)

  body_own : (a : Response) (rest : Text) → on_body head h d x ≡ whole a rest → (t : Text) × (x ≡ t ++ rest) × (on_body head h d t ≡ whole a [])
  body_own a rest g =
      let w = whole_body a rest g in
      let p = part_of d x in
      let t = take p.taken x in
      let long : length t ≡ p.taken = own_long d x w.0 in (
        t,
        sym (take-append-drop p.taken x) ∙ ap (λ z. t ++ z) w.2,
        ap (λ (q : Part). on_part head h t q q.outcome) (part_own d x w.0) ∙ ap (on_part head h t p) w.0 ∙ ap₂ whole w.1 (drop_all p.taken t (omega (arith, long))),
      )

  wrong_by : (o : Outcome) (t : Text) → (part_of d x).outcome ≡ o → on_part head h x (part_of d x) o ≡ unreadable → on_body head h d (x ++ t) ≡ unreadable
  wrong_by More t e g = cc
  wrong_by Whole t e g = cc
  wrong_by (Wrong w) t e g =
      let same : part_of d (x ++ t) ≡ part_of d x = stay d x t (λ m. let no : Wrong w ≡ More = sym e ∙ m in cc) in
      ap (λ (q : Part). on_part head h (x ++ t) q q.outcome) same ∙ ap (on_part head h (x ++ t) (part_of d x)) e

-- a head that was found, in its window, and all that follows it
pub record Headed (m s : Text) (j : Judged) : Type 0 where
  pub front : Text
  pub behind : Text
  pub joined : s ≡ front ++ behind
  pub long : length front ≡ j.head.len
  pub within : length front ≤ window
  pub line_in : j.head.line + 2 ≤ j.head.len
  pub room : room_of j.due ≤ most_bytes
  pub unplaced_due : unplaced j.due ≡ j.due
  pub judges : (y : Text) → judged m (take window (front ++ y)) ≡ Ok (Some j)
  pub reads : (y : Text) → ear m (front ++ y) ≡ on_body j.head front j.due y

pub headed : (m s : Text) (j : Judged) → judged m (take window s) ≡ Ok (Some j) → Headed m s j
headed m s j h =
    let f = head_front m (take window s) j h in
    let less : length f.front ≤ window = omega (arith, ap length f.joined, length-append f.front f.rest, length-take window s) in
    let sees : (y : Text) → judged m (take window (f.front ++ y)) ≡ Ok (Some j) = λ y. ap (judged m) (take_joined window f.front y ∙ ap (λ z. z ++ take (window - length f.front) y) (take_all window f.front less)) ∙ f.found (take (window - length f.front) y) in
    record {
      front = f.front;
      behind = f.rest ++ drop window s;
      joined = sym (take-append-drop window s) ∙ ap (λ z. z ++ drop window s) f.joined ∙ append_assoc f.front f.rest (drop window s);
      long = f.long;
      within = less;
      line_in = f.line_in;
      room = f.room;
      unplaced_due = f.unplaced_due;
      judges = sees;
      reads = λ y.
          ap (on_judged (f.front ++ y)) (sees y)
          ∙ ap₂ (λ a b. on_body j.head a j.due b) (take_at f.front y j.head.len f.long) (drop_at f.front y j.head.len f.long);
    }

module _ (m s : Text) where
  abbrev seen : Result (Option Judged) Unreadable
  seen = judged m (take window s)

  stays_by : (r : Result (Option Judged) Unreadable) (t : Text) (a : Response) (rest : Text) → seen ≡ r → on_judged s r ≡ whole a rest → ear m (s ++ t) ≡ whole a (rest ++ t)
  stays_by (Err u) t a rest e h = cc
  stays_by (Ok None) t a rest e h = cc
  stays_by (Ok (Some j)) t a rest e h =
      let k = headed m s j e in
      let here : on_body j.head k.front j.due k.behind ≡ whole a rest = sym (k.reads k.behind) ∙ ap (ear m) (sym k.joined) ∙ ap (on_judged s) e ∙ h in
      ap (ear m) (ap (λ z. z ++ t) k.joined ∙ append_assoc k.front k.behind t) ∙ k.reads (k.behind ++ t) ∙ body_stays j.head k.front j.due k.behind a rest t here

  own_of : (r : Result (Option Judged) Unreadable) (a : Response) (rest : Text) → seen ≡ r → on_judged s r ≡ whole a rest → (t : Text) × (s ≡ t ++ rest) × (ear m t ≡ whole a [])
  own_of (Err u) a rest e h = cc
  own_of (Ok None) a rest e h = cc
  own_of (Ok (Some j)) a rest e h =
      let k = headed m s j e in
      let here : on_body j.head k.front j.due k.behind ≡ whole a rest = sym (k.reads k.behind) ∙ ap (ear m) (sym k.joined) ∙ ap (on_judged s) e ∙ h in
      let o = body_own j.head k.front j.due k.behind a rest here in
      (k.front ++ o.0, k.joined ∙ ap (λ z. k.front ++ z) o.1 ∙ sym (append_assoc k.front o.0 rest), k.reads o.0 ∙ o.2)

  wrong_of : (r : Result (Option Judged) Unreadable) (t : Text) → seen ≡ r → on_judged s r ≡ unreadable → ear m (s ++ t) ≡ unreadable
  wrong_of (Err u) t e h =
      let u' = take (window - length s) t in
      let room : length (take window s ++ u') ≤ window = omega (arith, ap length (take_joined window s t), length-take window (s ++ t)) in
      ap (on_judged (s ++ t)) (ap (judged m) (take_joined window s t) ∙ head_err m (take window s) u' room e)
  wrong_of (Ok None) t e h = cc
  wrong_of (Ok (Some j)) t e h =
      let k = headed m s j e in
      let here : on_body j.head k.front j.due k.behind ≡ unreadable = sym (k.reads k.behind) ∙ ap (ear m) (sym k.joined) ∙ ap (on_judged s) e ∙ h in
      ap (ear m) (ap (λ z. z ++ t) k.joined ∙ append_assoc k.front k.behind t) ∙ k.reads (k.behind ++ t) ∙ wrong_by j.head k.front j.due k.behind (part_of j.due k.behind).outcome t refl here

nothing_said : (m : Text) → ear m [] ≡ more
unfolding all window
nothing_said m = refl

pub steady_ear : SteadyEar
steady_ear = record {
  stays = λ m s t a rest h. stays_by m s (judged m (take window s)) t a rest refl h;
  stays_unreadable = λ m s t h. wrong_of m s (judged m (take window s)) t refl h;
  own = λ m s a rest h. own_of m s (judged m (take window s)) a rest refl h;
  silent = nothing_said;
}
