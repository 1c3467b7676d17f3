-- What the fields of a head say of the body that follows it. RFC 9112, 6.3. Stricter: a head says it once, by a length or by chunks, and never by both.
use Rattle.std.specs.Prelude.{ℕ, cond, List, [], ◌∷◌, Some, None, Ok, Err, codes, Option, Result}
use Rattle.text.specs.Bytes.{same_no_case}
use Rattle.text.specs.Numerals.{number_of}
use Rattle.text.specs.declared.numeral.Base.TheVariants.{Decimal}
use Rattle.message.specs.Fields.{content_length, transfer_encoding}
use Rattle.message.specs.Faults.{flaw, onward}
use Rattle.message.specs.Sent.{Sent}
use Rattle.message.specs.declared.fault.Fault.TheVariants.{Framing}
use Rattle.message.specs.declared.fault.Flaw.{Flaw}
use Rattle.message.specs.declared.framing.Size.{Size}
use Rattle.message.specs.declared.framing.Size.TheVariants.{Length, Chunked}
use Rattle.message.specs.declared.framing.Said.{Said}
use Rattle.message.specs.declared.framing.Nonsense.{Nonsense}

-- what one field says of the body: nothing, or how long it is; or it is nonsense
abbrev pub Says : Type 0
Says = Result (Option Size) Nonsense

-- a length of 1 to 6 digits
abbrev pub says_length : Option ℕ → Says
says_length (Some n) = Ok (Some (Length n))
says_length None = Err record {}

-- a length, or an encoding that is `chunked` in any case
abbrev pub says_of : Sent → Says
says_of f =
    cond (same_no_case f.name content_length) (says_length (number_of Decimal f.value))
    (cond (same_no_case f.name transfer_encoding) (cond (same_no_case f.value (codes "chunked")) (Ok (Some Chunked)) (Err record {})) (Ok None))

abbrev pub said_in : Sent → Size → Said
said_in f size = record { size = size; at = f.at; value_at = f.value_at }

-- a field f after those that said so much: one that says something after another is wrong, and so is nonsense
abbrev pub say_on : Sent → Option Said → Says → Result (Option Said) Flaw
say_on f said (Ok None) = Ok said
say_on f (Some s) (Err n) = Err (flaw Framing f.at)
say_on f None (Err n) = Err (flaw Framing f.value_at)
say_on f (Some s) (Ok (Some size)) = Err (flaw Framing f.at)
say_on f None (Ok (Some size)) = Ok (Some (said_in f size))

abbrev pub said_with : Option Said → Sent → Result (Option Said) Flaw
said_with said f = say_on f said (says_of f)

-- what fields say, through them in order
unfoldable pub framed : Option Said → List Sent → Result (Option Said) Flaw
framed said [] = Ok said
framed said (f ∷ fs) = onward (said_with said f) (λ s. framed s fs)
