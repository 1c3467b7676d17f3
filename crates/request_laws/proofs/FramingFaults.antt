-- What the fields of a head say of the body, or what is wrong with it, is what the grammar says.
use Rattle.std.proofs.Common.{◌≡◌, ℕ, suc, Bool, true, false, ◌||◌, leb, List, [], ◌∷◌, ◌++◌, IfErr, Some, None, Ok, Err, Option, Result, sym, refl, ap, ◌∙◌, subst, ⊎_elim, arith}
use Rattle.std.specs.Result as results
use Rattle.std.specs.List.{AllByRecursion}
use Rattle.std.proofs.lemmas.Result.{MatchResult-weaker, MatchResult-at_ok}
use Rattle.std.proofs.lemmas.Bool.{cond_both, cases_Bool, leb-false, lt-leb}
use Rattle.text.specs.Bytes.{Text, same_no_case}
use Rattle.text.proofs.Passing.{is_true, is_false}
use Rattle.message.specs.Bodies.{due_by}
use Rattle.message.specs.Chunked.{most_bytes}
use Rattle.message.specs.Faults.{flaw, onward}
use Rattle.message.specs.Fields.{Field, content_length, transfer_encoding}
use Rattle.message.specs.Framing.{Says, says_of, said_in, say_on, framed}
use Rattle.message.specs.Hops.{field_of}
use Rattle.message.specs.Sent.{Sent}
use Rattle.message.specs.declared.body.Due.{Due}
use Rattle.message.specs.declared.fault.Fault.TheVariants.{Framing}
use Rattle.message.specs.declared.fault.Flaw.{Flaw}
use Rattle.message.specs.declared.framing.Size.{Size}
use Rattle.message.specs.declared.framing.Size.TheVariants.{Length, Chunked}
use Rattle.message.specs.declared.framing.Said.{Said as Saying}
use Rattle.request.specs.Canonical.{carries_body, body_limit}
use Rattle.request.specs.Heads.{due_of}
use Rattle.request_laws.specs.Faults.{AsFields, FirstOther, OnlySent, IsFraming, FramingFault, nonsense, second, Said, nothing, once, BodyFault, unsaid, unwanted, too_long}
use Rattle.request_laws.specs.Lines.{Unframing, SizeSpelled, Only}
use Rattle.request_laws.proofs.Framing.{Means, says_means, says_nothing, says_size, framed_past, framed_none}
use Rattle.request_laws.proofs.SentAmong.{other_here, other_later, twice_here, twice_later, sent_here, sent_later, only_sent}

-- a field that says something of the body, or would
is_framing : (f : Sent) → (says_of f ≡ Ok None → ⊥) → IsFraming f
is_framing f h =
    let b = same_no_case f.name content_length || same_no_case f.name transfer_encoding in
    ⊎_elim (λ e. rw e tt) (λ e. absurd (h (says_nothing f (rw e tt)))) (cases_Bool b)

means : (f : Sent) (x : Says) → says_of f ≡ x → Means (field_of f) x
means f x e = subst (Means (field_of f)) e (says_means f)

says_something : (f : Sent) → IsFraming f → says_of f ≡ Ok None → ⊥
says_something f i e =
    let b = same_no_case f.name content_length || same_no_case f.name transfer_encoding in
    let yes = is_true b i in
    let false-so = is_false b (means f (Ok None) e) in
    cc

-- after a field that said something, what it means that another does, or none
abbrev StillIn : Saying → List Sent → Option Saying → Type 0
StillIn s fs o = (o ≡ Some s) × AllByRecursion Unframing (AsFields fs)

abbrev OtherIn : List Sent → Flaw → Type 0
OtherIn fs v = (f : Sent) × FirstOther Unframing fs f × IsFraming f × (v ≡ flaw Framing f.at)

still_more : (s : Saying) (f : Sent) (fs : List Sent) (x : Says) → says_of f ≡ x → results.MatchResult (framed (Some s) fs) (StillIn s fs) (OtherIn fs) →
    results.MatchResult (onward (say_on f (Some s) x) (λ o. framed o fs)) (StillIn s (f ∷ fs)) (OtherIn (f ∷ fs))
still_more s f fs (Ok None) e h =
    let u = means f (Ok None) e in
    MatchResult-weaker (framed (Some s) fs) h (λ o k. (k.0, (u, k.1))) (λ v k. (k.0, other_later Unframing f k.0 fs u k.1, k.2, k.3))
still_more s f fs (Err n) e h = (f, other_here Unframing f fs, is_framing f (λ n. cc), refl)
still_more s f fs (Ok (Some size)) e h = (f, other_here Unframing f fs, is_framing f (λ n. cc), refl)

still : (s : Saying) (fs : List Sent) → results.MatchResult (framed (Some s) fs) (StillIn s fs) (OtherIn fs)
unfolding framed
still s [] = (refl, tt)
still s (f ∷ fs) = still_more s f fs (says_of f) refl (still s fs)

-- what fields are found to say
abbrev pub SaidIn : List Sent → Option Saying → Type 0
SaidIn fs None = AllByRecursion Unframing (AsFields fs)
SaidIn fs (Some s) = (f : Sent) × (size : Size) × OnlySent Unframing fs f × SizeSpelled (field_of f) size × (s ≡ said_in f size)

said_later : (f : Sent) (fs : List Sent) → Unframing (field_of f) → (o : Option Saying) → SaidIn fs o → SaidIn (f ∷ fs) o
said_later f fs u None h = (u, h)
said_later f fs u (Some s) h = (h.0, h.1, sent_later Unframing f h.0 fs u h.2, h.3, h.4)

fault_later : (f : Sent) (fs : List Sent) → Unframing (field_of f) → (v : Flaw) → FramingFault fs v → FramingFault (f ∷ fs) v
fault_later f fs u v (nonsense g o i n) = nonsense g (other_later Unframing f g fs u o) i n
fault_later f fs u v (second g h size o s i) = second g h size (twice_later Unframing f g h fs u o) s i

framed_more : (f : Sent) (fs : List Sent) (x : Says) → says_of f ≡ x → results.MatchResult (framed None fs) (SaidIn fs) (FramingFault fs) →
    results.MatchResult (onward (say_on f None x) (λ o. framed o fs)) (SaidIn (f ∷ fs)) (FramingFault (f ∷ fs))
framed_more f fs (Ok None) e h = let u = means f (Ok None) e in MatchResult-weaker (framed None fs) h (said_later f fs u) (fault_later f fs u)
framed_more f fs (Err n) e h =
    nonsense f (other_here Unframing f fs) (is_framing f (λ n. cc))
    (λ size s. let b = says_size f size s in cc)
framed_more f fs (Ok (Some size)) e h =
    let s = said_in f size in
    let m = means f (Ok (Some size)) e in
    MatchResult-weaker (framed (Some s) fs) (still s fs) (λ o k. rw k.0 (f, size, sent_here Unframing f fs k.1, m, refl))
    (λ v k. rw k.3 (second f k.0 size (twice_here Unframing f k.0 fs k.1) m k.2))

-- what they say, or what is wrong with it
pub framing_wrong : (fs : List Sent) → results.MatchResult (framed None fs) (SaidIn fs) (FramingFault fs)
unfolding framed
framing_wrong [] = tt
framing_wrong (f ∷ fs) = framed_more f fs (says_of f) refl (framing_wrong fs)

pub framing_read : (fs : List Sent) (o : Option Saying) → framed None fs ≡ Ok o → SaidIn fs o
framing_read fs o e = MatchResult-at_ok (SaidIn fs) (FramingFault fs) o e (framing_wrong fs)

-- a field that would say something and does not
says_nonsense : (f : Sent) (x : Says) → says_of f ≡ x → IsFraming f → ((size : Size) → SizeSpelled (field_of f) size → ⊥) → says_of f ≡ Err record {}
says_nonsense f (Ok None) e i never = absurd (says_something f i e)
says_nonsense f (Err n) e i never = e
says_nonsense f (Ok (Some size)) e i never = absurd (never size (means f (Ok (Some size)) e))

nonsense_found : (f : Sent) (fs : List Sent) → says_of f ≡ Err record {} → framed None (f ∷ fs) ≡ Err (flaw Framing f.value_at)
unfolding framed
nonsense_found f fs e = rw e

another : (s : Saying) (f : Sent) (fs : List Sent) (x : Says) → (x ≡ Ok None → ⊥) → onward (say_on f (Some s) x) (λ o. framed o fs) ≡ Err (flaw Framing f.at)
another s f fs (Ok None) h = absurd (h refl)
another s f fs (Err n) h = refl
another s f fs (Ok (Some size)) h = refl

second_found : (f g : Sent) (size : Size) (between behind : List Sent) → AllByRecursion Unframing (AsFields between) → SizeSpelled (field_of f) size → IsFraming g → framed None (f ∷ (between ++ (g ∷ behind))) ≡ Err (flaw Framing g.at)
unfolding framed
second_found f g size between behind h s i =
    rw (says_size f size s) (framed_past (Some (said_in f size)) between (g ∷ behind) h ∙ another (said_in f size) g behind (says_of g) (says_something g i))

-- each such fault is found
pub framing_refused : (fs : List Sent) (v : Flaw) → FramingFault fs v → framed None fs ≡ Err v
framing_refused fs v (nonsense f o i never) =
    ap (framed None) o.joined ∙ framed_past None o.before (f ∷ o.behind) o.others ∙ nonsense_found f o.behind (says_nonsense f (says_of f) refl i never)
framing_refused fs v (second f g size o s i) =
    ap (framed None) o.joined ∙ framed_past None o.before _ o.others.0 ∙ second_found f g size o.between o.behind o.others.1 s i

-- THE BODY

-- the most bytes that a body may have
pub most_is : suc most_bytes ≡ body_limit
unfolding most_bytes
most_is = refl

pub said_by_so : (fs : List Sent) (o : Option Saying) → SaidIn fs o → Said fs
said_by_so fs None h = nothing h
said_by_so fs (Some s) h = once h.0 h.1 h.2 h.3

one_found : (f : Sent) (size : Size) (fs : List Sent) → SizeSpelled (field_of f) size → AllByRecursion Unframing (AsFields fs) → framed None (f ∷ fs) ≡ Ok (Some (said_in f size))
unfolding framed
one_found f size fs s h = rw (says_size f size s) (framed_none (Some (said_in f size)) fs h)

only_found : (f : Sent) (size : Size) (fs : List Sent) → OnlySent Unframing fs f → SizeSpelled (field_of f) size → framed None fs ≡ Ok (Some (said_in f size))
only_found f size fs o s = ap (framed None) o.joined ∙ framed_past None o.before (f ∷ o.behind) o.others.0 ∙ one_found f size o.behind s o.others.1

-- where one field says how long the body is, and no other says anything, that is found
pub framing_spelled : (fs : List Sent) (f : Field) (size : Size) → Only Unframing (AsFields fs) f → SizeSpelled f size → (said : Saying) × (framed None fs ≡ Ok (Some said)) × (said.size ≡ size)
framing_spelled fs f size o s = let g = only_sent Unframing fs f o in (said_in g.0 size, only_found g.0 size fs g.1 (subst (λ f. SizeSpelled f size) (sym g.2) s), refl)

module _ (m : Text) (fs : List Sent) (len : ℕ) where
  abbrev Wrong : Result Due Flaw → Type 0
  Wrong r = IfErr r (BodyFault m fs len)

  due_wrong : (f : Sent) (size : Size) → carries_body m ≡ true → OnlySent Unframing fs f → SizeSpelled (field_of f) size → Wrong (due_by size f.value_at len)
  due_wrong f Chunked b o s = tt
  due_wrong f (Length n) b o s = cond_both (leb n most_bytes) _ _ Wrong (λ _. tt) (λ e. too_long f n (rw b tt) o s (omega (arith, leb-false n most_bytes e, most_is)))

  -- what a head says of the body is wanted and not too large, or that is wrong with it
  pub body_wrong : (b : Bool) (o : Option Saying) → carries_body m ≡ b → SaidIn fs o → Wrong (due_of b o len)
  body_wrong true None e h = unsaid (rw e tt) h
  body_wrong false None e h = tt
  body_wrong false (Some s) e h = rw h.4 (unwanted h.0 h.1 (rw e tt) h.2 h.3)
  body_wrong true (Some s) e h = rw h.4 (due_wrong h.0 h.1 e h.2 h.3)

  pub body_refused : (v : Flaw) → BodyFault m fs len v → (o : Option Saying) × (framed None fs ≡ Ok o) × (due_of (carries_body m) o len ≡ Err v)
  body_refused v (unsaid b h) = (None, framed_none None fs h, rw (is_true (carries_body m) b))
  body_refused v (unwanted f size b o s) = (Some (said_in f size), only_found f size fs o s, rw (is_false (carries_body m) b))
  body_refused v (too_long f n b o s h) = (Some (said_in f (Length n)), only_found f (Length n) fs o s, rw (is_true (carries_body m) b, lt-leb n most_bytes (omega (arith, most_is))))
