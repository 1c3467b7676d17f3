-- Requests, taken one by one: what follows one is shorter than the text that it was found in, so that more turns than there are bytes change nothing.
use Rattle.std.proofs.Common.{◌≡◌, ℕ, zero, suc, ◌<◌, ◌≤◌, true, false, cond, leb, List, [], ◌∷◌, length, take, drop, refl, sym, ap, ◌∙◌, subst, arith}
use Rattle.std.proofs.lemmas.List.{length-drop}
use Rattle.std.proofs.lemmas.Bool.{cond_both, cond-true, cond-false}
use Rattle.std.specs.Borrow.{Bor}
use Rattle.text.specs.Bytes.{Text}
use Rattle.message.specs.Fields.{Field}
use Rattle.message.specs.Chunked.{most_bytes, fresh, Run, run}
use Rattle.message.specs.declared.chunked.Outcome.{Outcome}
use Rattle.message.specs.declared.chunked.Outcome.TheVariants as chunks
use Rattle.request.specs.Canonical.{Req}
use Rattle.reader.specs.Reader.{Cut, Short, Line, Ask, NotOne, One, Fields, NotAny, Many, Size, Exactly, Otherwise, Got, More, Bad, Whole, Head, HeadMore, HeadOf, head_of, on_line, put_line, body_of, with_fields, with_ask, on_head, read_one, on_got, read_many}
use Rattle.reader.specs.Strict.{read_ask}
use Rattle.forgiving.specs.Common.{on_run, by_chunks, says_chunked}
use Rattle.forgiving.specs.Readers.{reader_with}
use Rattle.forgiving.specs.Held.{view_got, Shorter as HeldShorter}
use Rattle.forgiving.specs.declared.got.Got.{Got as HeldGot}
use Rattle.forgiving.specs.declared.got.Got.TheVariants as held
use Rattle.forgiving.specs.declared.read.Request.{Request}
use Rattle.forgiving.specs.declared.habit.Habit.{Habit}
use Rattle.forgiving.specs.declared.habit.Habit.TheVariants.{LoneLf, LoneCr, EmptyLines, SpaceBeforeColon, LowLine, GoesOn, Octal, FirstLength, LastLength, AddedLengths, GetBody, NoChunks, UndoneTwice, CutParts}
use Rattle.forgiving.proofs.Heads.{Shorter, shorter, head_at}
use Rattle.forgiving.proofs.Sizes.{otherwise_is}

-- what follows a head, or a request, has fewer than n bytes
abbrev Behind : ℕ → Head → Type 0
Behind n HeadMore = Unit {0}
Behind n (HeadOf ls rest) = length rest < n

abbrev pub Left : ℕ → Got → Type 0
Left n More = Unit {0}
Left n Bad = Unit {0}
Left n (Whole q rest) = length rest < n

behind_put : (l : Text) (m n : ℕ) (x : Head) → m ≤ n → Behind m x → Behind n (put_line l x)
behind_put l m n HeadMore k h = tt
behind_put l m n (HeadOf ls rest) k h = omega arith

behind_line : (go : Text → Head) (n : ℕ) (x : Cut) → Shorter n x → ((t : Text) → Behind (length t) (go t)) → Behind n (on_line go x)
behind_line go n Short h f = tt
behind_line go n (Line [] rest) h f = h
behind_line go n (Line (c ∷ cs) rest) h f = behind_put (c ∷ cs) (length rest) n (go rest) (omega arith) (f rest)

head_behind : (h : Habit) (k : ℕ) (t : Text) → Behind (length t) (head_of k (reader_with h) t)
unfolding head_of
head_behind h zero t = tt
head_behind h (suc k) t = behind_line (λ s. head_of k (reader_with h) s) (length t) ((reader_with h).split t) (shorter h t) (λ s. head_behind h k s)

left_more : (m n : ℕ) (g : Got) → m ≤ n → Left m g → Left n g
left_more m n More k h = tt
left_more m n Bad k h = tt
left_more m n (Whole q rest) k h = omega arith

module _ (m t : Text) (fs : List Field) (s : Text) where
  left_run : (r : Run) (o : Outcome) → Left (suc (length s)) (on_run m t fs s r o)
  left_run r chunks.More = tt
  left_run r chunks.Whole = omega (arith, length-drop r.taken s)
  left_run r (chunks.Wrong w) = tt

  left_body : (h : Habit) (z : Size) → Left (suc (length s)) (body_of (reader_with h) m t fs s z)
  left_body h (Exactly n) =
      cond_both (leb n (length s)) (Whole (record { method = m; target = t; fields = fs; body = take n s }) (drop n s)) More (Left (suc (length s))) (λ _. omega (arith, length-drop n s)) (λ _. tt)
  left_body h Otherwise =
      subst (Left (suc (length s))) (sym (otherwise_is h m t fs s))
      (cond_both (says_chunked fs) (by_chunks m t fs s) Bad (Left (suc (length s))) (λ _. left_run (run (fresh most_bytes 0) s) (run (fresh most_bytes 0) s).outcome) (λ _. tt))

left_fields : (h : Habit) (m t s : Text) (fs : Fields) → Left (suc (length s)) (with_fields (reader_with h) m t s fs)
left_fields h m t s NotAny = tt
left_fields h m t s (Many fs) = left_body m t fs s h ((reader_with h).size m fs)

left_ask : (h : Habit) (ls : List Text) (s : Text) (a : Ask) → Left (suc (length s)) (with_ask (reader_with h) ls s a)
left_ask h ls s NotOne = tt
left_ask h ls s (One m t) = left_fields h m t s ((reader_with h).fields ls)

left_head : (h : Habit) (again : Text → Got) (n : ℕ) (x : Head) → Behind n x → ((s : Text) → Left (length s) (again s)) → Left n (on_head (reader_with h) again x)
left_head h again n HeadMore b f = tt
left_head h again n (HeadOf [] rest) b f = cond_both ((reader_with h).skips) (again rest) Bad (Left n) (λ _. left_more (length rest) n (again rest) (omega arith) (f rest)) (λ _. tt)
left_head h again n (HeadOf (l ∷ ls) rest) b f = left_more (suc (length rest)) n (with_ask (reader_with h) ls rest ((reader_with h).asked l)) b (left_ask h ls rest ((reader_with h).asked l))

pub one_left : (h : Habit) (k : ℕ) (s : Text) → Left (length s) (read_one k (reader_with h) s)
unfolding read_one
one_left h zero s = tt
one_left h (suc k) s = left_head h (λ t. read_one k (reader_with h) t) (length s) (head_of (suc (length s)) (reader_with h) s) (head_behind h (suc (length s)) s) (λ t. one_left h k t)

-- more turns than there are bytes change nothing
same_head : (h : Habit) (again other : Text → Got) (n : ℕ) (x : Head) → Behind n x → ((s : Text) → length s < n → again s ≡ other s) → on_head (reader_with h) again x ≡ on_head (reader_with h) other x
same_head h again other n HeadMore b f = refl
same_head h again other n (HeadOf [] rest) b f = ap (λ g. cond (reader_with h).skips g Bad) (f rest b)
same_head h again other n (HeadOf (l ∷ ls) rest) b f = refl

pub one_same : (h : Habit) (k j : ℕ) (s : Text) → length s < k → length s < j → read_one k (reader_with h) s ≡ read_one j (reader_with h) s
unfolding read_one
one_same h zero j s a b = absurd (omega arith)
one_same h (suc k) zero s a b = absurd (omega arith)
one_same h (suc k) (suc j) s a b =
    let r = reader_with h in
    same_head h (λ t. read_one k r t) (λ t. read_one j r t) (length s) (head_of (suc (length s)) r s) (head_behind h (suc (length s)) s) (λ t l. one_same h k j t (omega arith) (omega arith))

same_got : (go on : Text → List Req) (n : ℕ) (g : Got) → Left n g → ((s : Text) → length s < n → go s ≡ on s) → on_got go g ≡ on_got on g
same_got go on n More l f = refl
same_got go on n Bad l f = refl
same_got go on n (Whole q rest) l f = ap (λ qs. q ∷ qs) (f rest l)

none_got : (go : Text → List Req) (n : ℕ) (g : Got) → n ≤ 0 → Left n g → on_got go g ≡ []
none_got go n More h l = refl
none_got go n Bad h l = refl
none_got go n (Whole q rest) h l = absurd (omega arith)

none_many : (h : Habit) (k : ℕ) (s : Text) → length s ≤ 0 → read_many (suc k) (reader_with h) s ≡ []
unfolding read_many
none_many h k s l = let r = reader_with h in none_got (λ t. read_many k r t) (length s) (read_one (suc (length s)) r s) l (one_left h (suc (length s)) s)

pub many_same : (h : Habit) (k j : ℕ) (s : Text) → length s ≤ k → length s ≤ j → read_many k (reader_with h) s ≡ read_many j (reader_with h) s
unfolding read_many
many_same h zero zero s a b = refl
many_same h zero (suc j) s a b = sym (none_many h j s a)
many_same h (suc k) zero s a b = none_many h k s b
many_same h (suc k) (suc j) s a b =
    let r = reader_with h in
    same_got (λ t. read_many k r t) (λ t. read_many j r t) (length s) (read_one (suc (length s)) r s) (one_left h (suc (length s)) s) (λ t l. many_same h k j t (omega arith) (omega arith))

-- all that is found in a text
abbrev pub one_at : Habit → Text → Got
one_at h s = read_one (suc (length s)) (reader_with h) s

asked_is : (h : Habit) (l : Text) → (reader_with h).asked l ≡ read_ask l
asked_is LoneLf l = refl
asked_is LoneCr l = refl
asked_is EmptyLines l = refl
asked_is SpaceBeforeColon l = refl
asked_is LowLine l = refl
asked_is GoesOn l = refl
asked_is Octal l = refl
asked_is FirstLength l = refl
asked_is LastLength l = refl
asked_is AddedLengths l = refl
asked_is GetBody l = refl
asked_is NoChunks l = refl
asked_is UndoneTwice l = refl
asked_is CutParts l = refl

module _ (h : Habit) (s : Text) (x : Head) (is : x ≡ head_at h s) where
  on : one_at h s ≡ on_head (reader_with h) (λ t. read_one (length s) (reader_with h) t) x
  unfolding read_one
  on = ap (on_head (reader_with h) (λ t. read_one (length s) (reader_with h) t)) (sym is)

  pub no_head : x ≡ HeadMore → More ≡ one_at h s
  no_head e = sym (on ∙ ap (on_head (reader_with h) (λ t. read_one (length s) (reader_with h) t)) e)

  pub some_lines : (l : Text) (ls : List Text) (rest : Text) → x ≡ HeadOf (l ∷ ls) rest → with_ask (reader_with h) ls rest (read_ask l) ≡ one_at h s
  some_lines l ls rest e = sym (on ∙ ap (on_head (reader_with h) (λ t. read_one (length s) (reader_with h) t)) e ∙ ap (with_ask (reader_with h) ls rest) (asked_is h l))

  pub not_skipped : (rest : Text) → x ≡ HeadOf [] rest → (reader_with h).skips ≡ false → Bad ≡ one_at h s
  not_skipped rest e b = sym (on ∙ ap (on_head (reader_with h) (λ t. read_one (length s) (reader_with h) t)) e ∙ cond-false _ _ _ b)

  pub skipped : (rest : Text) → x ≡ HeadOf [] rest → length rest < length s → (reader_with h).skips ≡ true → one_at h s ≡ one_at h rest
  skipped rest e l b = on ∙ ap (on_head (reader_with h) (λ t. read_one (length s) (reader_with h) t)) e ∙ cond-true _ _ _ b ∙ one_same h (length s) (suc (length rest)) rest l (omega arith)

-- the same of what the code holds
held_left : (n : ℕ) (g : HeldGot Request) → Left n (view_got g) → HeldShorter n g
held_left n held.More l = l
held_left n held.Bad l = l
held_left n (held.Whole q rest) l = l

pub held_shorter : (h : Habit) (s : Text) (g : HeldGot Request) → view_got g ≡ one_at h s → HeldShorter (length s) g
held_shorter h s g e = held_left (length s) g (subst (Left (length s)) (sym e) (one_left h (suc (length s)) s))

-- all the requests in a text
abbrev pub all_at : Habit → Text → List Req
all_at h s = read_many (length s) (reader_with h) s

module _ (h : Habit) (s : Text) where
  all_on : all_at h s ≡ on_got (λ t. read_many (length s) (reader_with h) t) (one_at h s)
  unfolding read_many
  all_on = many_same h (length s) (suc (length s)) s (omega arith) (omega arith)

  -- one more, and what is read behind it
  pub all_more : (q : Req) (rest : Text) → Whole q rest ≡ one_at h s → length rest < length s → all_at h s ≡ q ∷ all_at h rest
  all_more q rest e l =
      all_on ∙ ap (on_got (λ t. read_many (length s) (reader_with h) t)) (sym e) ∙ ap (λ qs. q ∷ qs) (many_same h (length s) (length rest) rest (omega arith) (omega arith))

  -- no more
  pub all_read : (g : HeldGot Request) → view_got g ≡ one_at h s → ((q : Request) (rest : Bor Text) → g ≡ held.Whole q rest → ⊥) → [] ≡ all_at h s
  all_read held.More e n = sym (all_on ∙ ap (on_got (λ t. read_many (length s) (reader_with h) t)) (sym e))
  all_read held.Bad e n = sym (all_on ∙ ap (on_got (λ t. read_many (length s) (reader_with h) t)) (sym e))
  all_read (held.Whole q rest) e n = absurd (n q rest refl)
