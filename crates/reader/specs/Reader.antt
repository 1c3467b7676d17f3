-- A server's reader of requests, of which little is known: it may do what it likes with texts that the gate never writes.
use Rattle.std.specs.Prelude.{◌≡◌, ℕ, zero, suc, ◌<◌, ◌≤◌, Bool, cond, not, T, List, [], ◌∷◌, ◌++◌, length, take, drop, nat_le}
use Rattle.text.specs.Bytes.{Text, clean}
use Rattle.message.specs.Fields.{Field, canonical_fields, field_lines}
use Rattle.request.specs.Canonical.{Req, carries_body, head_limit, body_limit, canonical_method, canonical_target, one_host, fields_in_limits, first_line, length_field}

-- the first line of a text and what follows it, or not yet a line
pub data Cut : Type 0 where
  Short : Cut
  Line : (line rest : Text) → Cut

-- a first line as the reader understands it
pub data Ask : Type 0 where
  NotOne : Ask
  One : (method target : Text) → Ask

-- the lines after it as fields
pub data Fields : Type 0 where
  NotAny : Fields
  Many : List Field → Fields

-- how long the body is: so many bytes, or something that the reader settles in another way
pub data Size : Type 0 where
  Exactly : ℕ → Size
  Otherwise : Size

-- what a read finds: it waits, it gives up, or a request and what follows it
pub data Got : Type 0 where
  More : Got
  Bad : Got
  Whole : Req → Text → Got

-- A reader, as six parts. split: cuts off a line. skips: passes over empty lines before a request. asked: reads a first line. fields: reads the
-- lines after it. size: how long the body is. otherwise: what it does with a body that it does not take by a length.
pub record Reader : Type 0 where
  pub split : Text → Cut
  pub skips : Bool
  pub asked : Text → Ask
  pub fields : List Text → Fields
  pub size : Text → List Field → Size
  pub otherwise : Text → Text → List Field → Text → Got

-- the lines of a head, and what follows its empty line
pub data Head : Type 0 where
  HeadMore : Head
  HeadOf : List Text → Text → Head

abbrev pub put_line : Text → Head → Head
put_line l HeadMore = HeadMore
put_line l (HeadOf ls rest) = HeadOf (l ∷ ls) rest

abbrev pub on_line : (Text → Head) → Cut → Head
on_line go Short = HeadMore
on_line go (Line [] rest) = HeadOf [] rest
on_line go (Line (c ∷ cs) rest) = put_line (c ∷ cs) (go rest)

-- lines up to an empty one; the number bounds how many
unfoldable pub head_of : ℕ → Reader → Text → Head
head_of zero r s = HeadMore
head_of (suc k) r s = on_line (λ t. head_of k r t) (r.split s)

abbrev pub body_of : Reader → Text → Text → List Field → Text → Size → Got
body_of r m t fs s Otherwise = r.otherwise m t fs s
body_of r m t fs s (Exactly n) = cond (nat_le n (length s)) (Whole (record { method = m; target = t; fields = fs; body = take n s }) (drop n s)) More

abbrev pub with_fields : Reader → Text → Text → Text → Fields → Got
with_fields r m t s NotAny = Bad
with_fields r m t s (Many fs) = body_of r m t fs s (r.size m fs)

abbrev pub with_ask : Reader → List Text → Text → Ask → Got
with_ask r ls s NotOne = Bad
with_ask r ls s (One m t) = with_fields r m t s (r.fields ls)

abbrev pub on_head : Reader → (Text → Got) → Head → Got
on_head r again HeadMore = More
on_head r again (HeadOf [] rest) = cond r.skips (again rest) Bad
on_head r again (HeadOf (l ∷ ls) rest) = with_ask r ls rest (r.asked l)

-- one request off the front; the number bounds how many empty heads are passed over
unfoldable pub read_one : ℕ → Reader → Text → Got
read_one zero r s = More
read_one (suc k) r s = on_head r (λ t. read_one k r t) (head_of (suc (length s)) r s)

abbrev pub on_got : (Text → List Req) → Got → List Req
on_got go More = []
on_got go Bad = []
on_got go (Whole q rest) = q ∷ go rest

unfoldable pub read_many : ℕ → Reader → Text → List Req
read_many zero r s = []
read_many (suc k) r s = on_got (λ t. read_many k r t) (read_one (suc (length s)) r s)

-- all that the reader reads as requests in a text, in order, up to where it waits or gives up
abbrev pub read_all : Reader → Text → List Req
read_all r s = read_many (length s) r s

-- What is asked of a server's reader: that it reads plain things as everybody does. It is asked only of what the gate may write, within its limits.
-- whole_line: a text without CR and LF, followed by CR LF, is a line. part_line, part_end: on a line that has not ended, or that a last CR ended, it
-- waits. plain_ask: it reads a canonical first line as such. plain_fields, length_last: and canonical fields with one host, without a length or
-- with one as the last. size_given: where that length is the last field and the method carries a body, the body is what it says. size_none: a
-- canonical request of another method has no body.
pub record Fair (r : Reader) : Type 0 where
  pub whole_line : (l rest : Text) → T (clean l) → length l ≤ head_limit → r.split (l ++ (13 ∷ 10 ∷ rest)) ≡ Line l rest
  pub part_line : (l : Text) → T (clean l) → length l ≤ head_limit → r.split l ≡ Short
  pub part_end : (l : Text) → T (clean l) → length l ≤ head_limit → r.split (l ++ (13 ∷ [])) ≡ Short
  pub plain_ask : (m t : Text) → T (canonical_method m) → T (canonical_target t) → length (first_line m t) ≤ head_limit → r.asked (first_line m t) ≡ One m t
  pub plain_fields : (fs : List Field) → T (canonical_fields fs) → T (one_host fs) → T (fields_in_limits fs) → r.fields (field_lines fs) ≡ Many fs
  pub length_last : (fs : List Field) (body : Text) → T (canonical_fields fs) → T (one_host fs) → T (fields_in_limits (fs ++ (length_field body ∷ []))) → length body < body_limit →
      r.fields (field_lines (fs ++ (length_field body ∷ []))) ≡ Many (fs ++ (length_field body ∷ []))
  pub size_given : (m : Text) (fs : List Field) (body : Text) → T (canonical_method m) → T (carries_body m) → T (canonical_fields fs) → T (one_host fs) →
      T (fields_in_limits (fs ++ (length_field body ∷ []))) → length body < body_limit → r.size m (fs ++ (length_field body ∷ [])) ≡ Exactly (length body)
  pub size_none : (m : Text) (fs : List Field) → T (canonical_method m) → T (not (carries_body m)) → T (canonical_fields fs) → T (one_host fs) → T (fields_in_limits fs) → r.size m fs ≡ Exactly 0
