-- The grammar of a script's line, as texts joined together: which lines there are, and what each says.
use Rattle.std.specs.Prelude.{◌≡◌, ℕ, ◌+◌, ◌*◌, ◌≤◌, not, ◌&&◌, T, List, [], ◌∷◌, ◌++◌, length, Some, Ok, codes, ◌==◌}
use Rattle.std.specs.List.{AllByRecursion}
use Rattle.text.specs.Bytes.{Text, between}
use Rattle.text.specs.Numerals.{decimal, hex_value}
use Rattle.text_laws.specs.Laws.{Iff}
use Rattle.script.specs.Words.{good_word}
use Rattle.script.specs.Statements.{Says, nothing, server, rule, event, statement_of}
use Rattle.script.specs.declared.statement.Sender.TheVariants as sender
use Rattle.rules.specs.declared.Verdict.{Verdict}
use Rattle.rules.specs.declared.Verdict.TheVariants.{Allow, Deny}
use Rattle.script.specs.declared.word.Word.TheVariants.{Name, Method, Part}

-- texts with a mark between them
unfoldable pub joined_by : ℕ → List Text → Text
joined_by mark [] = []
joined_by mark (t ∷ []) = t
joined_by mark (t ∷ u ∷ ts) = t ++ (mark ∷ joined_by mark (u ∷ ts))

-- `-` for no method, or 1 to 8 methods with commas between them
pub data MethodsWord : List Text → Text → Type 0 where
  no_method : MethodsWord [] (codes "-")
  some_methods : (ms : List Text) → AllByRecursion (λ m. T (good_word Method m)) ms → 1 ≤ length ms → length ms ≤ 8 → MethodsWord ms (joined_by 44 ms)

-- `/` for no part, or 1 to 16 parts, each after a slash
pub data PathWord : List Text → Text → Type 0 where
  no_part : PathWord [] (codes "/")
  some_parts : (ps : List Text) → AllByRecursion (λ p. T (good_word Part p)) ps → 1 ≤ length ps → length ps ≤ 16 → PathWord ps (47 ∷ joined_by 47 ps)

-- two hexadecimal digits, and the byte that they spell
pub record Pair (b x y : ℕ) : Type 0 where
  pub high : ℕ
  pub low : ℕ
  pub first : hex_value x ≡ Some high
  pub second : hex_value y ≡ Some low
  pub byte : b ≡ high * 16 + low

-- one or more such pairs
pub data HexWord : Text → Text → Type 0 where
  last_pair : {b x y : ℕ} → Pair b x y → HexWord (b ∷ []) (x ∷ y ∷ [])
  next_pair : {b x y : ℕ} {bs t : Text} → Pair b x y → HexWord bs t → HexWord (b ∷ bs) (x ∷ y ∷ t)

-- the letter after a backslash, and the byte that it stands for
pub data Escape : ℕ → ℕ → Type 0 where
  cr : Escape 13 114
  lf : Escape 10 110
  tab : Escape 9 116
  backslash : Escape 92 92
  quote : Escape 34 34

-- what follows an opening quote, the closing one included
pub data QuotedText : Text → Text → Type 0 where
  closed : QuotedText [] (34 ∷ [])
  plain : {c : ℕ} {bs t : Text} → T (between 32 126 c && not (c == 34) && not (c == 92)) → QuotedText bs t → QuotedText (c ∷ bs) (c ∷ t)
  escaped : {b l : ℕ} {bs t : Text} → Escape b l → QuotedText bs t → QuotedText (b ∷ bs) (92 ∷ l ∷ t)
  coded : {b x y : ℕ} {bs t : Text} → Pair b x y → QuotedText bs t → QuotedText (b ∷ bs) (92 ∷ 120 ∷ x ∷ y ∷ t)

-- the bytes of an event, in digits or in quotes
pub data BytesWord : Text → Text → Type 0 where
  in_digits : {bs t : Text} → HexWord bs t → BytesWord bs t
  in_quotes : {bs t : Text} → QuotedText bs t → BytesWord bs (34 ∷ t)

abbrev pub verdict_word : Verdict → Text
verdict_word Allow = codes "allow "
verdict_word Deny = codes "deny "

-- a line, and what it says
pub data LineSays : Text → Says → Type 0 where
  empty : LineSays [] nothing
  comment : {t : Text} → LineSays (35 ∷ t) nothing
  a_server : (n : Text) → T (good_word Name n) → LineSays (codes "server " ++ n) (server n)
  a_rule : (v : Verdict) {ms ps : List Text} {a b : Text} → MethodsWord ms a → PathWord ps b → LineSays (verdict_word v ++ (a ++ (32 ∷ b))) (rule (record { verdict = v; methods = ms; parts = ps }))
  from_client : (n : ℕ) {bs w : Text} → 1 ≤ n → n ≤ 16 → BytesWord bs w → LineSays (codes "from client " ++ (decimal n ++ (32 ∷ w))) (event (sender.Client n) bs)
  from_server : (n : ℕ) {bs w : Text} → 1 ≤ n → n ≤ 8 → BytesWord bs w → LineSays (codes "from server " ++ (decimal n ++ (32 ∷ w))) (event (sender.Server n) bs)

-- A line is read as saying something exactly where the grammar says so.
abbrev pub ReadIffSays : Type 0
ReadIffSays = (t : Text) (s : Says) → Iff (statement_of t ≡ Ok s) (LineSays t s)
