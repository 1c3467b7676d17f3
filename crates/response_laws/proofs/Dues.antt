-- What is due of a response's body is found exactly as the grammar says.
use Rattle.std.proofs.Common.{◌≡◌, ℕ, ◌≤◌, Bool, true, false, not, T, leb, List, map, Some, None, Ok, Err, codes, Option, Result, sym, refl, ap, ◌∙◌}
use Rattle.std.proofs.lemmas.Bool.{cond_both, leb-true, le-leb}
use Rattle.text.specs.Bytes.{Text, same_no_case}
use Rattle.text.specs.Numerals.{number_of}
use Rattle.text.specs.declared.numeral.Base.TheVariants.{Decimal}
use Rattle.text.proofs.Passing.{is_true, is_false}
use Rattle.message.specs.Bodies.{due_by}
use Rattle.message.specs.Chunked.{most_bytes, fresh}
use Rattle.message.specs.Fields.{Field, content_length, transfer_encoding}
use Rattle.message.specs.Framing.{framed}
use Rattle.message.specs.Hops.{field_of}
use Rattle.message.specs.Sent.{Sent}
use Rattle.message.specs.declared.body.Due.{Due}
use Rattle.message.specs.declared.body.Due.TheVariants.{Length, Chunks}
use Rattle.message.specs.declared.framing.Said.{Said}
use Rattle.message.specs.declared.framing.Size.{Size}
use Rattle.message.specs.declared.framing.Size.TheVariants.{Length as SaidLength, Chunked as SaidChunked}
use Rattle.request_laws.specs.Lines.{Named, Unframing, SizeSpelled, Only}
use Rattle.request_laws.proofs.FramingFaults.{framing_read, framing_spelled}
use Rattle.request_laws.proofs.SentAmong.{only_field}
use Rattle.response.specs.Heads.{readable, said_due, due_of}
use Rattle.response.specs.Status.{has_body}
use Rattle.response.specs.declared.head.Unreadable.{Unreadable}
use Rattle.response.specs.declared.status.Status.{Status}

-- where two steps went well, each did
pub readable_ok : {A B C E : Type 0} (r : Result A E) (go : A → Result B Unreadable) (b : B) → ((a : A) → r ≡ Ok a → go a ≡ Ok b → C) → readable r go ≡ Ok b → C
readable_ok (Ok a) go b f e = f a refl e
readable_ok (Err w) go b f e = cc

-- and where each did, both did
pub readable_so : {A B E : Type 0} {r : Result A E} {a : A} (go : A → Result B Unreadable) → r ≡ Ok a → readable r go ≡ go a
readable_so go e = rw e refl

-- what is due of a body by the method that was asked, the status and the fields
pub data DueAs (m : Text) (s : Status) (fs : List Field) (due : Due) : Type 0 where
  none : T (not (has_body s m)) → due ≡ Length 0 → DueAs m s fs due
  sized : (f : Field) (n : ℕ) → T (has_body s m) → Only Unframing fs f → Named content_length f → number_of Decimal f.value ≡ Some n → n ≤ most_bytes → due ≡ Length n → DueAs m s fs due
  chunked : (f : Field) → T (has_body s m) → Only Unframing fs f → Named transfer_encoding f → T (same_no_case f.value (codes "chunked")) → due ≡ Chunks (fresh most_bytes 0) → DueAs m s fs due

size_read : (m : Text) (s : Status) (fs : List Field) (at : ℕ) (due : Due) (f : Field) (size : Size) → T (has_body s m) → Only Unframing fs f →
    SizeSpelled f size → due_by size at 0 ≡ Ok due → DueAs m s fs due
size_read m s fs at due f (SaidLength n) b o z =
    cond_both (leb n most_bytes) _ _ (λ r. r ≡ Ok due → DueAs m s fs due)
    (λ h e. sized f n b o z.0 z.1 (leb-true n most_bytes h) (cc))
    (λ h e. cc)
size_read m s fs at due f SaidChunked b o z = λ e. chunked f b o z.0 z.1 (cc)

said_read : (m : Text) (s : Status) (fs : List Sent) (due : Due) (o : Option Said) → T (has_body s m) → framed None fs ≡ Ok o → said_due o ≡ Ok due →
    DueAs m s (map field_of fs) due
said_read m s fs due None b f e = cc
said_read m s fs due (Some said) b f e =
    let g = framing_read fs (Some said) f in
    readable_ok (due_by said.size said.value_at 0) (λ due. Ok due) due
    (λ d h k.
    let same : d ≡ due = cc in
    size_read m s (map field_of fs) said.value_at due (field_of g.0) g.1 b (only_field Unframing fs g.0 g.2) g.3 (ap (λ x. due_by x.size said.value_at 0) (sym g.4) ∙ h ∙ ap Ok same)) e

pub due_read : (m : Text) (s : Status) (fs : List Sent) (due : Due) (b : Bool) → has_body s m ≡ b → due_of b fs ≡ Ok due → DueAs m s (map field_of fs) due
due_read m s fs due true c e = readable_ok (framed None fs) said_due due (λ o f g. said_read m s fs due o (rw c tt) f g) e
due_read m s fs due false c e = none (rw c tt) (cc)

-- what is said once is due
size_due : (m : Text) (s : Status) (fs : List Sent) (due : Due) (f : Field) (size : Size) → T (has_body s m) → Only Unframing (map field_of fs) f →
    SizeSpelled f size → ((at : ℕ) → due_by size at 0 ≡ Ok due) → due_of (has_body s m) fs ≡ Ok due
size_due m s fs due f size b o z e =
    let g = framing_spelled fs f size o z in
    ap (λ c. due_of c fs) (is_true (has_body s m) b) ∙ readable_so said_due g.1 ∙ readable_so (λ due. Ok due) (ap (λ z. due_by z g.0.value_at 0) g.2 ∙ e g.0.value_at)

pub due_spelled : (m : Text) (s : Status) (fs : List Sent) (due : Due) → DueAs m s (map field_of fs) due → due_of (has_body s m) fs ≡ Ok due
due_spelled m s fs due (none b e) = ap (λ c. due_of c fs) (is_false (has_body s m) b) ∙ ap Ok (sym e)
due_spelled m s fs due (sized f n b o a v l e) = size_due m s fs due f (SaidLength n) b o (a, v) (λ at. rw (le-leb n most_bytes l) (ap Ok (sym e)))
due_spelled m s fs due (chunked f b o a v e) = size_due m s fs due f SaidChunked b o (a, v) (λ at. ap Ok (sym e))
