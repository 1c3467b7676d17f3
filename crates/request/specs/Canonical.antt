-- Requests in canonical form, and their bytes: all that is ever sent to a server.
use Rattle.std.specs.Prelude.{ℕ, ◌+◌, Bool, true, false, cond, not, ◌&&◌, ◌||◌, List, [], ◌∷◌, ◌++◌, length, codes, ◌==◌, nat_le, nat_lt}
use Rattle.text.specs.Bytes.{Text, upper, visible, all, same, among, nonempty}
use Rattle.message.specs.Fields.{Field, length_of, canonical_fields, field_lines, lines_of}

pub record Req : Type 0 where
  pub method : Text
  pub target : Text
  pub fields : List Field
  pub body : Text

-- POST, PUT, PATCH: these always carry a length, and no other does
abbrev pub carries_body : Text → Bool
carries_body m = among m (codes "POST" ∷ codes "PUT" ∷ codes "PATCH" ∷ [])

abbrev pub version : Text
version = codes "HTTP/1.1"

-- a body has fewer bytes than this
abbrev pub body_limit : ℕ
body_limit = 262144

-- a canonical head has at most so many bytes, its empty line included, and at most so many fields
abbrev pub head_limit : ℕ
head_limit = 16384

abbrev pub field_limit : ℕ
field_limit = 64

-- 1 to 16 letters A to Z. RFC 9110, 9.1: method = token
abbrev pub canonical_method : Text → Bool
canonical_method m = nonempty m && nat_le (length m) 16 && all upper m

unfoldable pub begins_with_slash : Text → Bool
begins_with_slash [] = false
begins_with_slash (c ∷ cs) = c == 47

-- a slash first, and visible bytes. RFC 9112, 3.2.1: origin-form = absolute-path [ "?" query ]. What a path may look like is no matter of reading a head
abbrev pub canonical_target : Text → Bool
canonical_target t = begins_with_slash t && all visible t

unfoldable pub count_named : Text → List Field → ℕ
count_named n [] = 0
count_named n (f ∷ fs) = cond (same f.name n) (1 + count_named n fs) (count_named n fs)

-- exactly one field `host`
abbrev pub one_host : List Field → Bool
one_host fs = count_named (codes "host") fs == 1

abbrev pub length_field : Text → Field
length_field body = length_of (length body)

-- the fields as they are sent: the length, where there is one, is the last
abbrev pub sent_fields : Req → List Field
sent_fields q = cond (carries_body q.method) (q.fields ++ (length_field q.body ∷ [])) q.fields

-- few enough, and short enough
abbrev pub fields_in_limits : List Field → Bool
fields_in_limits fs = nat_le (length fs) field_limit && nat_le (length (lines_of (field_lines fs))) head_limit

-- method, space, target, space, version. RFC 9112, 3: request-line = method SP request-target SP HTTP-version
abbrev pub first_line : Text → Text → Text
first_line m t = m ++ (32 ∷ t ++ (32 ∷ version))

-- the lines of a head
abbrev pub head_lines : Req → List Text
head_lines q = first_line q.method q.target ∷ field_lines (sent_fields q)

-- what may be sent to a server
abbrev pub canonical : Req → Bool
canonical q =
    canonical_method q.method && canonical_target q.target && canonical_fields q.fields && one_host q.fields && nat_le (length (sent_fields q)) field_limit
    && nat_le (length (lines_of (head_lines q)) + 2) head_limit && nat_lt (length q.body) body_limit && (carries_body q.method || not (nonempty q.body))

unfoldable pub all_canonical : List Req → Bool
all_canonical [] = true
all_canonical (q ∷ qs) = canonical q && all_canonical qs

-- one request as it is sent: the first line, the fields, an empty line, the body. RFC 9112, 2.1: HTTP-message = start-line CRLF *( field-line CRLF )
-- CRLF [ message-body ]
abbrev pub write : Req → Text
write q = lines_of (head_lines q) ++ (13 ∷ 10 ∷ q.body)

-- requests one after the other
unfoldable pub writes : List Req → Text
writes [] = []
writes (q ∷ qs) = write q ++ writes qs

-- a request as a server holds it, with the fields as sent
abbrev pub as_sent : Req → Req
as_sent q = record { method = q.method; target = q.target; fields = sent_fields q; body = q.body }

unfoldable pub all_sent : List Req → List Req
all_sent [] = []
all_sent (q ∷ qs) = as_sent q ∷ all_sent qs
