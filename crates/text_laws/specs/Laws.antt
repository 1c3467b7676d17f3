-- What lines, trimmed and squeezed values and numerals are, in words of texts joined together. Each is a type; a proof of the type is the theorem.
use Rattle.std.specs.Prelude.{◌≡◌, ℕ, ◌^◌, ◌<◌, Bool, false, not, T, ◌⊎◌, [], ◌∷◌, ◌++◌, length, Some, ◌==◌, ◌≢◌}
use Rattle.text.specs.Bytes.{Text, blank, all, nonempty, clean}
use Rattle.text.specs.Cuts.{whole, short, stray, cut_line}
use Rattle.text.specs.Trims.{trimmed, squeezed}
use Rattle.text.specs.Numerals.{radix, most_digits, numeral, value_after, number_of}
use Rattle.text.specs.declared.numeral.Base.{Base}

-- each follows from the other
abbrev pub Iff : Type 0 → Type 0 → Type 0
Iff p q = (p → q) × (q → p)

-- A line is cut off exactly where the text is a clean line, CR LF and the rest.
abbrev pub WholeLine : Type 0
WholeLine = (t l rest : Text) → Iff (cut_line t ≡ whole l rest) (T (clean l) × (t ≡ l ++ (13 ∷ 10 ∷ rest)))

-- A text is short of a line exactly where it is clean, or clean but for a last CR.
abbrev pub ShortLine : Type 0
ShortLine = (t : Text) → Iff (cut_line t ≡ short) (T (clean t) ⊎ ((l : Text) × T (clean l) × (t ≡ l ++ (13 ∷ []))))

-- what makes a CR or LF stray: it is an LF, or a CR before another byte than LF
pub data Strays : Text → Type 0 where
  lone_lf : {rest : Text} → Strays (10 ∷ rest)
  lone_cr : {d : ℕ} {rest : Text} → (d ≢ 10) → Strays (13 ∷ d ∷ rest)

-- A CR or LF is stray, at n, exactly where n clean bytes stand before it and it ends no line.
abbrev pub StrayLine : Type 0
StrayLine = (t : Text) (n : ℕ) → Iff (cut_line t ≡ stray n) ((l s : Text) × T (clean l) × (length l ≡ n) × (t ≡ l ++ s) × Strays s)

unfoldable pub blank_first : Text → Bool
blank_first [] = false
blank_first (c ∷ cs) = blank c

unfoldable pub blank_last : Text → Bool
blank_last [] = false
blank_last (c ∷ []) = blank c
blank_last (c ∷ d ∷ cs) = blank_last (d ∷ cs)

-- v is t without the blanks at its ends
pub record TrimsTo (t v : Text) : Type 0 where
  pub front : Text
  pub back : Text
  pub blanks : T (all blank front) × T (all blank back)
  pub bare : T (not (blank_first v)) × T (not (blank_last v))
  pub joined : t ≡ front ++ (v ++ back)

-- The trimmed value is the one that is left when all blanks at both ends are taken away.
abbrev pub Trims : Type 0
Trims = (t v : Text) → Iff (trimmed t ≡ v) (TrimsTo t v)

-- v is t with each run of blanks made one space
pub data SqueezesTo : Text → Text → Type 0 where
  none : SqueezesTo [] []
  byte : {c : ℕ} {t v : Text} → T (not (blank c)) → SqueezesTo t v → SqueezesTo (c ∷ t) (c ∷ v)
  run : {c : ℕ} (cs t : Text) {v : Text} → T (blank c) → T (all blank cs) → T (not (blank_first t)) → SqueezesTo t v → SqueezesTo (c ∷ (cs ++ t)) (32 ∷ v)

-- The squeezed value is that one.
abbrev pub Squeezes : Type 0
Squeezes = (t v : Text) → Iff (squeezed t ≡ v) (SqueezesTo t v)

-- A number that has few enough digits is read back as it was written.
abbrev pub ReadBack : Type 0
ReadBack = (base : Base) (n : ℕ) → n < radix base ^ most_digits base → number_of base (numeral base n) ≡ Some n

-- a zero before other digits
unfoldable pub needless_zero : Text → Bool
needless_zero [] = false
needless_zero (c ∷ []) = false
needless_zero (c ∷ d ∷ cs) = c == 48

-- A numeral of a number of 64 bits has some digits, is worth that number, and has no needless zero.
abbrev pub ExactNumeral : Type 0
ExactNumeral = (base : Base) (n : ℕ) → n < 2 ^ 64 → T (nonempty (numeral base n)) × (value_after base 0 (numeral base n) ≡ Some n) × T (not (needless_zero (numeral base n)))
