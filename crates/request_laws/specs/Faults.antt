-- What can be wrong with a client's bytes, and where: every fault by the grammar that it breaks, in the stated order. A fault that stands later
-- in the order is one only where all that comes before it is good.
use Rattle.std.specs.Prelude.{◌≡◌, ℕ, ◌+◌, ◌-◌, ◌<◌, ◌≤◌, Bool, true, false, not, ◌||◌, T, ◌⊎◌, List, [], ◌∷◌, ◌++◌, map, length, take, drop, codes, ◌==◌}
use Rattle.std.specs.List.{prefix_len, AllByRecursion}
use Rattle.text.specs.Numerals.{hex_pair}
use Rattle.text.specs.Bytes.{Text, blank, plain_byte, query_byte, all, clean, nonempty, same_no_case}
use Rattle.text.specs.Marks.{before}
use Rattle.text_laws.specs.Laws.{Strays}
use Rattle.message.specs.Chunked.{most_bytes}
use Rattle.message.specs.Faults.{flaw}
use Rattle.message.specs.Fields.{Field, content_length, transfer_encoding, name_limit}
use Rattle.message.specs.Hops.{field_of, kept_of}
use Rattle.message.specs.Sent.{Sent}
use Rattle.message.specs.declared.fault.Fault.TheVariants.{FirstLine, TooLong, FieldLine, Host, Framing, BodyUnfit, BodyTooLong, PathByte, PathPart, QueryByte}
use Rattle.message.specs.declared.fault.Flaw.{Flaw}
use Rattle.message.specs.declared.framing.Size.{Size}
use Rattle.message.specs.declared.framing.Size.TheVariants.{Length, Chunked}
use Rattle.message_laws.specs.Breaks.{Breaks}
use Rattle.message_laws.specs.ChunkFaults.{ChunksBreak}
use Rattle.request.specs.Canonical.{carries_body, body_limit, head_limit, field_limit, canonical_method, begins_with_slash, first_line}
use Rattle.request.specs.Heads.{window}
use Rattle.request.specs.Writing.{head_length}
use Rattle.request.specs.Places.{Piece, Place, good_part, target_of}
use Rattle.request.specs.Targets.{good_code}
use Rattle.request_laws.specs.Targets.{PartSpelled, PartsSpelled, PathSpelled, TargetSpelled}
use Rattle.request_laws.specs.Lines.{FieldSpelled, Named, Unframing, SizeSpelled, Hostless, HostSpelled}
use Rattle.request_laws.specs.Grammar.{BodySpelled}

-- LINES

-- What stands behind a line: CR LF, which ends it, or a stray byte.
pub data LineEnds : Bool → Text → Type 0 where
  crlf : {rest : Text} → LineEnds true (13 ∷ 10 ∷ rest)
  stray : {t : Text} → Strays t → LineEnds false t

-- A clean line l in front of t, that has ended or has its stray byte.
pub record LineIn (t l : Text) (ended : Bool) : Type 0 where
  pub behind : Text
  pub ends : LineEnds ended behind
  pub tidy : T (clean l)
  pub text : t ≡ l ++ behind

-- No line has ended in t, and none is stray: it has no CR and no LF but for a last CR.
abbrev pub Unended : Text → Type 0
Unended t = T (clean t) ⊎ ((l : Text) × T (clean l) × (t ≡ l ++ (13 ∷ [])))

-- A method, a space, a target that begins with a slash and has no space, a space, the version.
abbrev pub GoodAsk : Text → Text → Type 0
GoodAsk m t = T (canonical_method m) × T (begins_with_slash t) × T (all (λ c. not (c == 32)) t)

abbrev pub GoodFirst : Text → Type 0
GoodFirst l = (m t : Text) × GoodAsk m t × (l ≡ first_line m t)

abbrev pub GoodField : Text → Type 0
GoodField l = (f : Field) × FieldSpelled l f

-- Field lines with the places where each line and each value begins; the first of them begins at the place at.
pub data LinesPlaced : ℕ → Text → List Sent → Type 0 where
  none : {at : ℕ} → LinesPlaced at [] []
  line : {at : ℕ} (l t : Text) {f : Sent} {fs : List Sent} → FieldSpelled l (field_of f) → f.at ≡ at → f.value_at ≡ at + (length f.name + 1 + prefix_len blank (drop (length f.name + 1) l)) →
      LinesPlaced (at + (length l + 2)) t fs → LinesPlaced at (l ++ (13 ∷ 10 ∷ t)) (f ∷ fs)

-- The bytes w are a good first line, good field lines fs, at most 64, and then rest, which begins at the place at.
pub record Front (w m t : Text) (fs : List Sent) (at : ℕ) (rest : Text) : Type 0 where
  pub ask : GoodAsk m t × T (clean t)
  pub lines : Text
  pub placed : LinesPlaced (length (first_line m t) + 2) lines fs
  pub few : length fs ≤ field_limit
  pub text : w ≡ first_line m t ++ (13 ∷ 10 ∷ (lines ++ rest))
  pub place : at ≡ length (first_line m t) + 2 + length lines

-- any line but the empty one that CR LF ends
abbrev pub FieldLineIn : Text → Text → Bool → Type 0
FieldLineIn t l ended = LineIn t l ended × (T (nonempty l) ⊎ (ended ≡ false))

-- 1, 2 and 3: the first line, then the lines behind it one by one. w: the first bytes, as many as have come and the window has.
pub data LineFault (w : Text) : Flaw → Type 0 where
  first : (l : Text) (ended : Bool) (p : ℕ) → LineIn w l ended → Breaks GoodFirst l ended p → LineFault w (flaw FirstLine p)
  too_many : {m t : Text} {fs : List Sent} {at : ℕ} {rest : Text} (l : Text) (ended : Bool) → Front w m t fs at rest → length fs ≡ field_limit → FieldLineIn rest l ended → LineFault w (flaw TooLong at)
  long_name : {m t : Text} {fs : List Sent} {at : ℕ} {rest : Text} (l : Text) (ended : Bool) → Front w m t fs at rest → length fs < field_limit → FieldLineIn rest l ended → name_limit < before 58 l → LineFault w (flaw TooLong (at + name_limit))
  malformed : {m t : Text} {fs : List Sent} {at : ℕ} {rest : Text} (l : Text) (ended : Bool) (p : ℕ) → Front w m t fs at rest → length fs < field_limit → FieldLineIn rest l ended → before 58 l ≤ name_limit →
      Breaks GoodField l ended p → LineFault w (flaw FieldLine (at + p))
  first_unended : length w ≡ window → Unended w → LineFault w (flaw TooLong window)
  unended : {m t : Text} {fs : List Sent} {at : ℕ} {rest : Text} → Front w m t fs at rest → length w ≡ window → Unended rest → LineFault w (flaw TooLong window)

-- THE WHOLE HEAD

-- The bytes w begin with a whole head of len bytes, its empty line included.
pub record HeadIn (w m t : Text) (fs : List Sent) (len : ℕ) : Type 0 where
  pub at : ℕ
  pub rest : Text
  pub front : Front w m t fs at (13 ∷ 10 ∷ rest)
  pub ends : len ≡ at + 2

abbrev pub AsFields : List Sent → List Field
AsFields fs = map field_of fs

-- of some fields, one after others of a kind, and a later one after more of that kind
pub record Twice (P : Field → Type 0) (fs : List Sent) (f g : Sent) : Type 0 where
  pub before : List Sent
  pub between : List Sent
  pub behind : List Sent
  pub others : AllByRecursion P (AsFields before) × AllByRecursion P (AsFields between)
  pub joined : fs ≡ before ++ (f ∷ (between ++ (g ∷ behind)))

-- of some fields, the first that is not of a kind
pub record FirstOther (P : Field → Type 0) (fs : List Sent) (f : Sent) : Type 0 where
  pub before : List Sent
  pub behind : List Sent
  pub others : AllByRecursion P (AsFields before)
  pub joined : fs ≡ before ++ (f ∷ behind)

-- one, and all others of a kind
pub record OnlySent (P : Field → Type 0) (fs : List Sent) (f : Sent) : Type 0 where
  pub before : List Sent
  pub behind : List Sent
  pub others : AllByRecursion P (AsFields before) × AllByRecursion P (AsFields behind)
  pub joined : fs ≡ before ++ (f ∷ behind)

abbrev pub IsHost : Sent → Type 0
IsHost f = Named (codes "host") (field_of f)

-- 4: no host, a second one, or one that names no server
pub data HostFault (names : List Text) (fs : List Sent) (len : ℕ) : Flaw → Type 0 where
  none : AllByRecursion Hostless (AsFields fs) → HostFault names fs len (flaw Host (len - 2))
  second : (f g : Sent) → Twice Hostless fs f g → IsHost f → IsHost g → HostFault names fs len (flaw Host g.at)
  unknown : (f : Sent) → OnlySent Hostless fs f → IsHost f → AllByRecursion (λ n. T (not (same_no_case n f.value))) names → HostFault names fs len (flaw Host f.value_at)

abbrev pub IsFraming : Sent → Type 0
IsFraming f = T (same_no_case f.name content_length || same_no_case f.name transfer_encoding)

-- 5: through the fields in order, a length or encoding with a bad value, or one after another
pub data FramingFault (fs : List Sent) : Flaw → Type 0 where
  nonsense : (f : Sent) → FirstOther Unframing fs f → IsFraming f → ((size : Size) → SizeSpelled (field_of f) size → ⊥) → FramingFault fs (flaw Framing f.value_at)
  second : (f g : Sent) (size : Size) → Twice Unframing fs f g → SizeSpelled (field_of f) size → IsFraming g → FramingFault fs (flaw Framing g.at)

-- at most one field says how long the body is
pub data Said (fs : List Sent) : Type 0 where
  nothing : AllByRecursion Unframing (AsFields fs) → Said fs
  once : (f : Sent) (size : Size) → OnlySent Unframing fs f → SizeSpelled (field_of f) size → Said fs

-- 6, and a length that is too large, which is 7: what the method and the fields say of the body
pub data BodyFault (m : Text) (fs : List Sent) (len : ℕ) : Flaw → Type 0 where
  unsaid : T (carries_body m) → AllByRecursion Unframing (AsFields fs) → BodyFault m fs len (flaw BodyUnfit (len - 2))
  unwanted : (f : Sent) (size : Size) → T (not (carries_body m)) → OnlySent Unframing fs f → SizeSpelled (field_of f) size → BodyFault m fs len (flaw BodyUnfit f.at)
  too_long : (f : Sent) (n : ℕ) → T (carries_body m) → OnlySent Unframing fs f → SizeSpelled (field_of f) (Length n) → body_limit ≤ n → BodyFault m fs len (flaw BodyTooLong f.value_at)

-- 4, then 5, then 6 and 7: the whole head
pub data HeadFault (names : List Text) (w : Text) : Flaw → Type 0 where
  host : {m t : Text} {fs : List Sent} {len : ℕ} {v : Flaw} → HeadIn w m t fs len → HostFault names fs len v → HeadFault names w v
  framing : {m t : Text} {fs : List Sent} {len : ℕ} {v : Flaw} (k : ℕ) → HeadIn w m t fs len → HostSpelled names (AsFields fs) k → FramingFault fs v → HeadFault names w v
  body : {m t : Text} {fs : List Sent} {len : ℕ} {v : Flaw} (k : ℕ) → HeadIn w m t fs len → HostSpelled names (AsFields fs) k → Said fs → BodyFault m fs len v → HeadFault names w v

-- THE TARGET

-- one token of a path: a slash or a plain byte, or a code for a plain byte or a byte above 127
pub data TokenSpelled : Text → Type 0 where
  slash : TokenSpelled (47 ∷ [])
  bare : {c : ℕ} → T (plain_byte c) → TokenSpelled (c ∷ [])
  coded : {a b : ℕ} → T (good_code (hex_pair a b)) → TokenSpelled (37 ∷ a ∷ b ∷ [])

pub data TokensSpelled : Text → Type 0 where
  none : TokensSpelled []
  token : (t u : Text) → TokenSpelled t → TokensSpelled u → TokensSpelled (t ++ u)

-- a target's path, and what stands behind it: nothing, or a question mark and the query
pub record PathIn (t path rest : Text) : Type 0 where
  pub text : t ≡ path ++ rest
  pub free : T (all (λ c. not (c == 63)) path)
  pub behind : (rest ≡ []) ⊎ ((query : Text) × (rest ≡ 63 ∷ query))

-- a text that begins with no token
abbrev pub Tokenless : Text → Type 0
Tokenless t = (u v : Text) → t ≡ u ++ v → TokenSpelled u → ⊥

-- 9, then 10, then 11: a token that a path may not have; the end of the first part that is empty or ends with a dot; a byte that a query may not have
pub data TargetFault (t : Text) : Flaw → Type 0 where
  byte : (good bad rest : Text) → PathIn t (good ++ bad) rest → TokensSpelled good → T (nonempty bad) → Tokenless bad → TargetFault t (flaw PathByte (length good))
  part : (front p behind rest : Text) {ps : List (List Piece)} {pieces : List Piece} → PathIn t (front ++ (47 ∷ (p ++ behind))) rest → T (nonempty (front ++ (p ++ behind))) → TokensSpelled (front ++ (47 ∷ (p ++ behind))) →
      PartsSpelled front ps → PartSpelled p pieces → T (not (good_part pieces)) → ((behind ≡ []) ⊎ ((more : Text) × (behind ≡ 47 ∷ more))) → TargetFault t (flaw PathPart (length front + 1 + length p))
  query : (path good behind : Text) (c : ℕ) {ps : List (List Piece)} → PathIn t path (63 ∷ (good ++ (c ∷ behind))) → PathSpelled path ps → T (all query_byte good) → T (not (query_byte c)) → TargetFault t (flaw QueryByte (length path + 1 + length good))

-- ALL OF IT

-- A whole head that is good for the server k.
pub record GoodHead (names : List Text) (s m t : Text) (fs : List Sent) (len k : ℕ) : Type 0 where
  pub head : HeadIn (take window s) m t fs len
  pub host : HostSpelled names (AsFields fs) k

-- All of a request has come: a good head, and the body behind it.
pub record AllCame (names : List Text) (s m t : Text) (fs : List Sent) (len k : ℕ) (body : Text) : Type 0 where
  pub good : GoodHead names s m t fs len k
  pub after : Text
  pub rest : Text
  pub spelled : BodySpelled m (AsFields fs) after body
  pub short : length body < body_limit
  pub text : drop len s ≡ after ++ rest

-- The first fault in the bytes s, in the stated order: the lines; the whole head; the chunks; the target; the canonical head.
pub data FirstFault (names : List Text) (s : Text) : Flaw → Type 0 where
  in_lines : {v : Flaw} → LineFault (take window s) v → FirstFault names s v
  in_head : {v : Flaw} → HeadFault names (take window s) v → FirstFault names s v
  in_chunks : {m t : Text} {fs : List Sent} {len : ℕ} {v : Flaw} (k : ℕ) (f : Sent) → GoodHead names s m t fs len k → T (carries_body m) → OnlySent Unframing fs f → SizeSpelled (field_of f) Chunked →
      ChunksBreak most_bytes len (drop len s) v → FirstFault names s v
  in_target : {m t body : Text} {fs : List Sent} {len : ℕ} {v : Flaw} (k : ℕ) → AllCame names s m t fs len k body → TargetFault t v → FirstFault names s (flaw v.fault (length m + 1 + v.place))
  in_canonical : {m t body : Text} {fs : List Sent} {len : ℕ} (k : ℕ) (p : Place) → AllCame names s m t fs len k body → TargetSpelled t p →
      head_limit < head_length (record { method = m; target = target_of p; fields = kept_of (AsFields fs); body = body }) → FirstFault names s (flaw TooLong len)
