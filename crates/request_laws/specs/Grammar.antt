-- The grammar of requests as clients may send them, as texts joined together, and the canonical request that each means. RFC 9112, 2.1:
-- HTTP-message = start-line CRLF *( field-line CRLF ) CRLF [ message-body ].
use Rattle.std.specs.Prelude.{◌≡◌, ℕ, ◌+◌, ◌<◌, ◌≤◌, not, T, List, [], ◌∷◌, ◌++◌, length, Some, codes}
use Rattle.std.specs.List.{AllByRecursion}
use Rattle.text.specs.Bytes.{Text, same_no_case}
use Rattle.text.specs.Numerals.{number_of}
use Rattle.text.specs.declared.numeral.Base.TheVariants.{Decimal}
use Rattle.message.specs.Fields.{Field, content_length, transfer_encoding, lines_of}
use Rattle.message.specs.Hops.{kept_of}
use Rattle.message_laws.specs.Chunks.{Chunked}
use Rattle.request.specs.Canonical.{Req, carries_body, body_limit, head_limit, field_limit, canonical_method, first_line, head_lines}
use Rattle.request.specs.Heads.{window}
use Rattle.request.specs.Places.{Place, target_of}
use Rattle.request_laws.specs.Targets.{TargetSpelled}
use Rattle.request_laws.specs.Lines.{LinesSpelled, Named, Unframing, Only, HostSpelled}

-- The body that follows a head, by its method and its fields, as sent and as it is: none; or as long as the one length says; or in chunks.
pub data BodySpelled (m : Text) (fs : List Field) : Text → Text → Type 0 where
  none : T (not (carries_body m)) → AllByRecursion Unframing fs → BodySpelled m fs [] []
  sized : {b : Text} (f : Field) → T (carries_body m) → Only Unframing fs f → Named content_length f → number_of Decimal f.value ≡ Some (length b) → BodySpelled m fs b b
  chunked : {t b : Text} (f : Field) → T (carries_body m) → Only Unframing fs f → Named transfer_encoding f → T (same_no_case f.value (codes "chunked")) → Chunked t b → BodySpelled m fs t b

-- The text t is a request as a client may send it, for the server k, and it means the canonical request q: its method, the place that its target means,
-- the fields that are sent on, and its body. The head as sent has at most 64 fields and 20,480 bytes, the canonical head at most 16,384 bytes, and
-- the body fewer than 262,144.
pub record Spelled (names : List Text) (t : Text) (k : ℕ) (q : Req) : Type 0 where
  pub target : Text
  pub fields : List Field
  pub lines : Text
  pub after : Text
  pub place : Place
  pub method_good : T (canonical_method q.method)
  pub target_good : TargetSpelled target place
  pub target_is : q.target ≡ target_of place
  pub lines_good : LinesSpelled lines fields
  pub few : length fields ≤ field_limit
  pub short : length (first_line q.method target ++ (13 ∷ 10 ∷ lines)) + 2 ≤ window
  pub host_good : HostSpelled names fields k
  pub kept : q.fields ≡ kept_of fields
  pub body_good : BodySpelled q.method fields after q.body
  pub body_short : length q.body < body_limit
  pub head_short : length (lines_of (head_lines q)) + 2 ≤ head_limit
  pub text : t ≡ first_line q.method target ++ (13 ∷ 10 ∷ (lines ++ (13 ∷ 10 ∷ after)))
