-- What one field says of the body is what the grammar says, and fields that say nothing.
use Rattle.std.proofs.Common.{◌≡◌, ℕ, false, List, [], ◌∷◌, ◌++◌, map, Some, None, Ok, Err, codes, Option, refl}
use Rattle.std.specs.List.{AllByRecursion}
use Rattle.std.proofs.lemmas.Bool.{cond_both, or_parts}
use Rattle.text.specs.Bytes.{lowered, same, same_no_case}
use Rattle.text.specs.Numerals.{number_of}
use Rattle.text.specs.declared.numeral.Base.TheVariants.{Decimal}
use Rattle.text.proofs.Passing.{is_true, is_false}
use Rattle.message.specs.Fields.{Field, content_length, transfer_encoding}
use Rattle.message.specs.Framing.{Says, says_length, says_of, framed}
use Rattle.message.specs.Hops.{field_of}
use Rattle.message.specs.Sent.{Sent}
use Rattle.message.specs.declared.framing.Size.{Size}
use Rattle.message.specs.declared.framing.Size.TheVariants.{Length, Chunked}
use Rattle.message.specs.declared.framing.Said.{Said}
use Rattle.request_laws.specs.Lines.{Named, Unframing, SizeSpelled}
use Rattle.request_laws.proofs.Among.{one_name}

-- what it means that a field says so much
abbrev pub Means : Field → Says → Type 0
Means f (Ok None) = Unframing f
Means f (Err n) = Unit {0}
Means f (Ok (Some size)) = SizeSpelled f size

length_means : (f : Field) → Named content_length f → (o : Option ℕ) → number_of Decimal f.value ≡ o → Means f (says_length o)
length_means f h (Some n) e = (h, e)
length_means f h None e = tt

pub says_means : (f : Sent) → Means (field_of f) (says_of f)
says_means f =
    let a = same_no_case f.name content_length in
    let b = same_no_case f.name transfer_encoding in
    let P : Says → Type 0 = Means (field_of f) in
    cond_both a _ _ P (λ e. length_means (field_of f) (rw e tt) (number_of Decimal f.value) refl) (λ e.
    cond_both b _ _ P (λ g. cond_both (same_no_case f.value (codes "chunked")) _ _ P (λ h. (rw g tt, rw h tt)) (λ _. tt)) (λ g. rw (e, g) tt))

-- a field that says nothing of the body
pub says_nothing : (f : Sent) → Unframing (field_of f) → says_of f ≡ Ok None
says_nothing f u = let p = or_parts (same_no_case f.name content_length) (same_no_case f.name transfer_encoding) (is_false _ u) in rw (p.0, p.1)

-- a field that says how long it is
pub says_size : (f : Sent) (size : Size) → SizeSpelled (field_of f) size → says_of f ≡ Ok (Some size)
says_size f (Length n) h = rw (is_true (same_no_case f.name content_length) h.0, h.1)
says_size f Chunked h =
    let other : same_no_case transfer_encoding content_length ≡ false = unfold same lowered in refl in
    rw (one_name f.name transfer_encoding content_length h.0 other, is_true (same_no_case f.name transfer_encoding) h.0, is_true (same_no_case f.value (codes "chunked")) h.1)

-- fields that say nothing, before others and alone
pub framed_past : (o : Option Said) (fs gs : List Sent) → AllByRecursion Unframing (map field_of fs) → framed o (fs ++ gs) ≡ framed o gs
unfolding framed
framed_past o [] gs h = refl
framed_past o (f ∷ fs) gs h = rw (says_nothing f h.0) (framed_past o fs gs h.1)

pub framed_none : (o : Option Said) (fs : List Sent) → AllByRecursion Unframing (map field_of fs) → framed o fs ≡ Ok o
unfolding framed
framed_none o [] h = refl
framed_none o (f ∷ fs) h = rw (says_nothing f h.0) (framed_none o fs h.1)
