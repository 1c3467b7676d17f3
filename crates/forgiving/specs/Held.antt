-- What the code holds, as values.
use Rattle.std.specs.Prelude.{◌≡◌, ℕ, ◌<◌, List, map, length, vec_items, Vec, Some, None, Option}
use Rattle.std.specs.declared.alloc.Global.{Global}
use Rattle.std.specs.Borrow.{Bor}
use Rattle.text.specs.Bytes.{Text}
use Rattle.message.specs.Fields.{Field}
use Rattle.request.specs.Canonical.{Req}
use Rattle.reader.specs.Reader.{Cut, Short, Line, Ask, NotOne, One, Head, HeadMore, HeadOf, Fields, NotAny, Many, Got, More, Bad, Whole}
use Rattle.forgiving.specs.declared.field.Field.{Field as HeldField}
use Rattle.forgiving.specs.declared.got.Got.{Got as HeldGot}
use Rattle.forgiving.specs.declared.got.Got.TheVariants as held
use Rattle.forgiving.specs.declared.read.Request.{Request}
use Rattle.forgiving.specs.declared.line.Head.{Head as HeldHead}

abbrev pub texts : List (Bor Text) → List Text
texts ls = map (λ l. l.now) ls

abbrev pub view_split : Option (Bor Text × Bor Text) → Cut
view_split None = Short
view_split (Some p) = Line p.0.now p.1.now

abbrev pub view_head : Option HeldHead → Head
view_head None = HeadMore
view_head (Some h) = HeadOf (texts (vec_items h.lines)) h.rest.now

abbrev pub view_ask : Option (Bor Text × Bor Text) → Ask
view_ask None = NotOne
view_ask (Some p) = One p.0.now p.1.now

abbrev pub view_field : HeldField → Field
view_field f = record { name = vec_items f.name; value = vec_items f.value }

abbrev pub view_fields : List HeldField → List Field
view_fields fs = map view_field fs

abbrev pub view_many : Option (Vec HeldField Global) → Fields
view_many None = NotAny
view_many (Some fs) = Many (view_fields (vec_items fs))

-- a body that was found, as that of a request with this method, target and fields
abbrev pub with_body : Text → Text → List Field → HeldGot (Vec ℕ Global) → Got
with_body m t fs held.More = More
with_body m t fs held.Bad = Bad
with_body m t fs (held.Whole b rest) = Whole (record { method = m; target = t; fields = fs; body = vec_items b }) rest.now

-- whatever these are, a reader finds that
abbrev pub TakesBody : HeldGot (Vec ℕ Global) → (Text → Text → List Field → Got) → Type 0
TakesBody g found = (m t : Text) (fs : List Field) → with_body m t fs g ≡ found m t fs

abbrev pub view_request : Request → Req
view_request q = record { method = vec_items q.method; target = vec_items q.target; fields = view_fields (vec_items q.fields); body = vec_items q.body }

abbrev pub view_requests : List Request → List Req
view_requests qs = map view_request qs

abbrev pub view_got : HeldGot Request → Got
view_got held.More = More
view_got held.Bad = Bad
view_got (held.Whole q rest) = Whole (view_request q) rest.now

-- what follows a request is shorter than a text of n bytes in which it was found
abbrev pub Shorter : ℕ → HeldGot Request → Type 0
Shorter n held.More = Unit {0}
Shorter n held.Bad = Unit {0}
Shorter n (held.Whole q rest) = length rest.now < n
