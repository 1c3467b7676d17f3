-- What is due of a body is found exactly as the grammar says.
use Rattle.std.proofs.Common.{◌≡◌, ℕ, ◌≤◌, Bool, true, false, not, T, leb, List, map, Some, None, Ok, codes, Option, sym, refl, ap, ◌∙◌, arith}
use Rattle.std.specs.List.{AllByRecursion}
use Rattle.std.proofs.lemmas.Bool.{cond_both, leb-true, le-leb}
use Rattle.text.specs.Bytes.{Text, same_no_case}
use Rattle.text.specs.Numerals.{number_of}
use Rattle.text.specs.declared.numeral.Base.TheVariants.{Decimal}
use Rattle.text.proofs.Passing.{is_true, is_false}
use Rattle.message.specs.Bodies.{due_by, AtStart}
use Rattle.message.specs.Chunked.{most_bytes, fresh}
use Rattle.message.specs.Fields.{Field, content_length, transfer_encoding}
use Rattle.message.specs.Framing.{framed}
use Rattle.message.specs.Hops.{field_of}
use Rattle.message.specs.Sent.{Sent}
use Rattle.message.specs.declared.body.Due.{Due}
use Rattle.message.specs.declared.body.Due.TheVariants.{Length, Chunks}
use Rattle.message.specs.declared.framing.Said.{Said}
use Rattle.message.specs.declared.framing.Size.{Size}
use Rattle.message.specs.declared.framing.Size.TheVariants.{Length as SaidLength, Chunked as SaidChunked}
use Rattle.request.specs.Canonical.{carries_body}
use Rattle.request.specs.Heads.{due_of}
use Rattle.request_laws.specs.Lines.{Named, Unframing, SizeSpelled, Only}
use Rattle.request_laws.proofs.Framing.{framed_none}
use Rattle.request_laws.proofs.FramingFaults.{framing_read, framing_spelled}
use Rattle.request_laws.proofs.SentAmong.{only_field}

-- what is due of a body by the method and the fields; len: how long the head is
pub data DueAs (m : Text) (fs : List Field) (len : ℕ) (due : Due) : Type 0 where
  none : T (not (carries_body m)) → AllByRecursion Unframing fs → due ≡ Length 0 → DueAs m fs len due
  sized : (f : Field) (n : ℕ) → T (carries_body m) → Only Unframing fs f → Named content_length f → number_of Decimal f.value ≡ Some n → n ≤ most_bytes → due ≡ Length n → DueAs m fs len due
  chunked : (f : Field) → T (carries_body m) → Only Unframing fs f → Named transfer_encoding f → T (same_no_case f.value (codes "chunked")) → due ≡ Chunks (fresh most_bytes len) → DueAs m fs len due

-- it is all of a body that may begin behind the head
pub due_start : (m : Text) (fs : List Field) (len : ℕ) (due : Due) → DueAs m fs len due → AtStart len due
due_start m fs len due (none b u d) = rw d (omega arith)
due_start m fs len due (sized f n b o a v l d) = rw d l
due_start m fs len due (chunked f b o a v d) = rw d refl

size_read : (m : Text) (fs : List Field) (len at : ℕ) (due : Due) (f : Field) (size : Size) → T (carries_body m) → Only Unframing fs f → SizeSpelled f size → due_by size at len ≡ Ok due → DueAs m fs len due
size_read m fs len at due f (SaidLength n) b o s =
    cond_both (leb n most_bytes) _ _ (λ r. r ≡ Ok due → DueAs m fs len due)
    (λ h e. sized f n b o s.0 s.1 (leb-true n most_bytes h) (cc))
    (λ h e. cc)
size_read m fs len at due f SaidChunked b o s = λ e. chunked f b o s.0 s.1 (cc)

pub due_read : (m : Text) (fs : List Sent) (len : ℕ) (due : Due) (b : Bool) (said : Option Said) → carries_body m ≡ b → framed None fs ≡ Ok said → due_of b said len ≡ Ok due → DueAs m (map field_of fs) len due
due_read m fs len due true None c f e = cc
due_read m fs len due false None c f e = none (rw c tt) (framing_read fs None f) (cc)
due_read m fs len due false (Some said) c f e = cc
due_read m fs len due true (Some said) c f e =
    let s = framing_read fs (Some said) f in
    size_read m (map field_of fs) len said.value_at due (field_of s.0) s.1 (rw c tt) (only_field Unframing fs s.0 s.2) s.3 (ap (λ x. due_by x.size said.value_at len) (sym s.4) ∙ e)

-- what a method that carries a body has said of it is due
said_due : (m : Text) (said : Said) (size : Size) (len : ℕ) (due : Due) → T (carries_body m) → said.size ≡ size → due_by size said.value_at len ≡ Ok due → due_of (carries_body m) (Some said) len ≡ Ok due
said_due m said size len due b s e = ap (λ c. due_of c (Some said) len) (is_true (carries_body m) b) ∙ ap (λ z. due_by z said.value_at len) s ∙ e

pub due_spelled : (m : Text) (fs : List Sent) (len : ℕ) (due : Due) → DueAs m (map field_of fs) len due → (said : Option Said) × (framed None fs ≡ Ok said) × (due_of (carries_body m) said len ≡ Ok due)
due_spelled m fs len due (none b u e) = (None, framed_none None fs u, rw (is_false (carries_body m) b) (ap Ok (sym e)))
due_spelled m fs len due (sized f n b o a v l e) =
    let s = framing_spelled fs f (SaidLength n) o (a, v) in
    (Some s.0, s.1, said_due m s.0 (SaidLength n) len due b s.2 (rw (le-leb n most_bytes l) (ap Ok (sym e))))
due_spelled m fs len due (chunked f b o a v e) =
    let s = framing_spelled fs f SaidChunked o (a, v) in
    (Some s.0, s.1, said_due m s.0 SaidChunked len due b s.2 (ap Ok (sym e)))
