-- Texts are lists of bytes. Which bytes may stand where, texts compared with and without case, and what an output holds after a write.
use Rattle.std.specs.Prelude.{◌≡◌, ℕ, ◌+◌, ◌-◌, ◌^◌, min, Bool, true, false, cond, not, ◌&&◌, ◌||◌, List, [], ◌∷◌, ◌++◌, length, take, drop, ◌==◌, nat_le}

abbrev pub Text : Type 0
Text = List ℕ

-- c is one of the bytes from a to e
abbrev pub between : ℕ → ℕ → ℕ → Bool
between a e c = nat_le a c && nat_le c e

-- A to Z
abbrev pub upper : ℕ → Bool
upper c = between 65 90 c

-- 0 to 9
abbrev pub digit : ℕ → Bool
digit c = between 48 57 c

-- A to Z, a to z, 0 to 9
abbrev pub alphanumeric : ℕ → Bool
alphanumeric c = upper c || between 97 122 c || digit c

-- a byte of a field's name as sent: a letter, a digit or a hyphen. RFC 9110, 5.1: field-name = token. Stricter than that: servers differ on the
-- other bytes of a token (some take an underscore for a hyphen)
abbrev pub name_byte : ℕ → Bool
name_byte c = alphanumeric c || c == 45

-- a byte of a server's name: a letter, a digit, a hyphen or a dot. RFC 9110, 7.2: Host = uri-host [ ":" port ]. Stricter: a registered name without
-- codes, and no port
abbrev pub host_byte : ℕ → Bool
host_byte c = name_byte c || c == 46

-- visible ASCII. RFC 5234, B.1: VCHAR = %x21-7E
abbrev pub visible : ℕ → Bool
visible c = between 33 126 c

-- space and tab. RFC 9110, 5.6.3: OWS = *( SP / HTAB )
abbrev pub blank : ℕ → Bool
blank c = c == 32 || c == 9

-- a byte of a field's value as sent
abbrev pub value_byte : ℕ → Bool
value_byte c = visible c || blank c

-- a byte that stands for itself in a path: letters, digits and - _ ~ . ! $ & ' ( ) * + , = : @. RFC 3986, 3.3: pchar = unreserved / pct-encoded /
-- sub-delims / ":" / "@". Stricter: no ";", at which some servers cut a part
abbrev pub plain_byte : ℕ → Bool
plain_byte c =
    alphanumeric c || c == 45 || c == 95 || c == 126 || c == 46 || c == 33 || c == 36 || c == 38 || c == 39 || c == 40 || c == 41 || c == 42 || c == 43 || c == 44 || c == 61 || c == 58 || c == 64

-- a byte of a rule's path: plain, and no capital
abbrev pub rule_byte : ℕ → Bool
rule_byte c = plain_byte c && not (upper c)

-- a byte of a query: visible, but no #. RFC 3986, 3.4: query = *( pchar / "/" / "?" ). Wider, since a query is kept as it is and no rule looks at it
abbrev pub query_byte : ℕ → Bool
query_byte c = visible c && not (c == 35)

-- CR or LF. RFC 9112, 2.2 lets a reader take a lone LF for the end of a line; nothing here does
abbrev pub line_end : ℕ → Bool
line_end c = c == 13 || c == 10

-- a letter in lower case; any other byte as it is
abbrev pub lower : ℕ → ℕ
lower c = cond (upper c) (c + 32) c

unfoldable pub lowered : Text → Text
lowered [] = []
lowered (c ∷ cs) = lower c ∷ lowered cs

-- every byte passes
unfoldable pub all : (ℕ → Bool) → Text → Bool
all p [] = true
all p (c ∷ cs) = p c && all p cs

-- the same bytes
unfoldable pub same : Text → Text → Bool
same [] [] = true
same [] (d ∷ ds) = false
same (c ∷ cs) [] = false
same (c ∷ cs) (d ∷ ds) = c == d && same cs ds

-- the same bytes but for the case of letters
abbrev pub same_no_case : Text → Text → Bool
same_no_case s t = same (lowered s) (lowered t)

-- one of the texts
unfoldable pub among : Text → List Text → Bool
among t [] = false
among t (u ∷ us) = same t u || among t us

unfoldable pub nonempty : Text → Bool
nonempty [] = false
nonempty (c ∷ cs) = true

-- no CR and no LF
abbrev pub clean : Text → Bool
clean t = all (λ c. not (line_end c)) t

-- what an output that held xs holds after a write of ys to its front: ys as far as there is room, then what stood there
abbrev pub placed : Text → Text → Text
placed ys xs = take (length xs) (ys ++ drop (length ys) xs)

-- a write of ys to the front of an output that held xs: what it holds then, and how many bytes were written
pub record Wrote (ys xs then : Text) (n : ℕ) : Type 0 where
  pub holds : then ≡ placed ys xs
  pub count : n ≡ min (length ys) (length xs)

-- a length as a number of 64 bits tells it: the largest such number where it is larger
abbrev pub capped : ℕ → ℕ
capped n = min n (2 ^ 64 - 1)
