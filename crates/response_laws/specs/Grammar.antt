-- The grammar of responses as servers may say them, as texts joined together, and what each means for its client. RFC 9112, 2.1 and 4:
-- HTTP-message = start-line CRLF *( field-line CRLF ) CRLF [ message-body ]; status-line = HTTP-version SP status-code SP [ reason-phrase ].
use Rattle.std.specs.Prelude.{◌≡◌, ◌+◌, ◌<◌, ◌≤◌, not, T, List, [], ◌∷◌, ◌++◌, length, Some, None, Option, codes}
use Rattle.std.specs.List.{list_all}
use Rattle.text.specs.Bytes.{Text, between, same_no_case}
use Rattle.text.specs.Numerals.{number_of}
use Rattle.text.specs.declared.numeral.Base.TheVariants.{Decimal}
use Rattle.message.specs.Fields.{Field, content_length, transfer_encoding}
use Rattle.message.specs.Hops.{kept_of}
use Rattle.message_laws.specs.Chunks.{Chunked}
use Rattle.request.specs.Canonical.{body_limit, field_limit}
use Rattle.request.specs.Heads.{window}
use Rattle.request_laws.specs.Lines.{LinesSpelled, Named, Unframing, Only}
use Rattle.response.specs.Copies.{copy, body_bytes}
use Rattle.response.specs.Status.{phrase_byte, is_last, has_body}
use Rattle.response.specs.declared.status.Status.{Status}
use Rattle.connection.specs.Model.{Response}

-- A first line: the version, three digits that are worth 100 to 599, a phrase, with a space between them.
pub record StatusSpelled (l : Text) (s : Status) : Type 0 where
  pub digits : Text
  pub phrase : Text
  pub three : length digits ≡ 3
  pub worth : number_of Decimal digits ≡ Some s.code
  pub ranged : T (between 100 599 s.code)
  pub good : T (list_all phrase_byte phrase)
  pub text : l ≡ codes "HTTP/1.1 " ++ (digits ++ (32 ∷ phrase))

-- The body that follows a head, as it is said and as it is, by the method that was asked, the status, and the fields: none follows, whatever the fields
-- say; or one as long as the one length says; or one in chunks.
pub data BodySpelled (m : Text) (s : Status) (fs : List Field) : Text → Option Text → Type 0 where
  none : T (not (has_body s m)) → BodySpelled m s fs [] None
  sized : {b : Text} (f : Field) → T (has_body s m) → Only Unframing fs f → Named content_length f → number_of Decimal f.value ≡ Some (length b) → BodySpelled m s fs b (Some b)
  chunked : {t b : Text} (f : Field) → T (has_body s m) → Only Unframing fs f → Named transfer_encoding f → T (same_no_case f.value (codes "chunked")) → Chunked t b → BodySpelled m s fs t (Some b)

-- The text t is a response to a request of the method m, and the client gets a of it: a head of at most 64 fields and 20,480 bytes, and a body of fewer
-- than 262,144 bytes; the copy has the first line as it came, the fields that are sent on, and the body without chunks.
pub record Spelled (m t : Text) (a : Response) : Type 0 where
  pub line : Text
  pub status : Status
  pub fields : List Field
  pub lines : Text
  pub after : Text
  pub body : Option Text
  pub status_good : StatusSpelled line status
  pub lines_good : LinesSpelled lines fields
  pub few : length fields ≤ field_limit
  pub short : length line + 2 + (length lines + 2) ≤ window
  pub body_good : BodySpelled m status fields after body
  pub body_short : length (body_bytes body) < body_limit
  pub last : a.last ≡ is_last status
  pub copied : a.text ≡ copy (record { line = line; fields = kept_of fields; body = body })
  pub text : t ≡ line ++ (13 ∷ 10 ∷ (lines ++ (13 ∷ 10 ∷ after)))
