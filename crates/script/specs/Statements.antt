-- The grammar of a script's line: what each line says, or what is wrong with it.
use Rattle.std.specs.Prelude.{◌≡◌, ℕ, ◌+◌, ◌*◌, Bool, true, cond, ◌&&◌, List, [], ◌∷◌, is_some, Some, None, Ok, Err, codes, Option, Result, ◌==◌, nat_le}
use Rattle.std.specs.Option.{option_map, ok_or}
use Rattle.text.specs.Bytes.{Text}
use Rattle.text.specs.Numerals.{digit_value, on_digit}
use Rattle.text.specs.declared.numeral.Base.TheVariants.{Decimal}
use Rattle.text.specs.Marks.{rest_after, cut_at}
use Rattle.script.specs.Words.{good_word}
use Rattle.script.specs.Series.{on_rest, methods_of, methods_in, parts_of, parts_in}
use Rattle.script.specs.Payloads.{payload_of, bytes_in, spelled}
use Rattle.script.specs.declared.problem.Problem.{Problem}
use Rattle.script.specs.declared.problem.Problem.TheVariants as problem
use Rattle.script.specs.declared.read.Side.{Side}
use Rattle.script.specs.declared.read.Side.TheVariants as side
use Rattle.script.specs.declared.statement.Sender.{Sender}
use Rattle.script.specs.declared.statement.Sender.TheVariants as sender
use Rattle.script.specs.declared.statement.Statement.{Statement}
use Rattle.script.specs.declared.statement.Statement.TheVariants as statement
use Rattle.rules.specs.declared.Verdict.{Verdict}
use Rattle.rules.specs.declared.Verdict.TheVariants.{Allow, Deny}
use Rattle.script.specs.declared.word.Word.TheVariants.{Name}

-- a rule: its verdict, its methods and the first parts of the path
pub record RuleText : Type 0 where
  pub verdict : Verdict
  pub methods : List Text
  pub parts : List Text

-- what a line says: nothing, the next server's name, a rule, or that a sender sends bytes
pub data Says : Type 0 where
  nothing : Says
  server : Text → Says
  rule : RuleText → Says
  event : Sender → Text → Says

abbrev pub and_then : {X Y : Type 0} → Result X Problem → (X → Result Y Problem) → Result Y Problem
and_then (Ok x) go = go x
and_then (Err e) go = Err e

-- two words that one space sets apart
abbrev pub on_cut : {X : Type 0} → Option (Text × Text) → (Text → Text → X) → X → X
on_cut None go x = x
on_cut (Some p) go x = go p.0 p.1

-- the next server
abbrev pub server_of : Text → Result Says Problem
server_of name = cond (good_word Name name) (Ok (server name)) (Err problem.ServerName)

-- methods and a path
abbrev pub rule_of : Verdict → Text → Result Says Problem
rule_of v t =
    on_cut (cut_at 32 t)
    (λ methods path. and_then (methods_of methods) (λ ms. and_then (parts_of path) (λ ps. Ok (rule (record { verdict = v; methods = ms; parts = ps })))))
    (Err problem.RuleWords)

abbrev pub ranged : ℕ → ℕ → ℕ → Option ℕ
ranged least most n = cond (nat_le least n && nat_le n most) (Some n) None

-- the number that one digit or two spell without a zero in front, where it is 1 to most
abbrev pub number_in : ℕ → Text → Option ℕ
number_in most [] = None
number_in most (a ∷ []) = on_digit (digit_value Decimal a) (λ n. ranged 1 most n)
number_in most (a ∷ b ∷ []) = on_digit (digit_value Decimal a) (λ m. on_digit (digit_value Decimal b) (λ n. ranged 10 most (m * 10 + n)))
number_in most (a ∷ b ∷ c ∷ cs) = None

-- clients are 1 to 16, servers 1 to 8
abbrev pub sender_of : Side → Text → Result Sender Problem
sender_of side.Client t = ok_or (option_map sender.Client (number_in 16 t)) problem.ClientNumber
sender_of side.Server t = ok_or (option_map sender.Server (number_in 8 t)) problem.ServerNumber

-- a sender's number and the bytes
abbrev pub event_of : Side → Text → Result Says Problem
event_of s t =
    on_cut (cut_at 32 t)
    (λ number word. and_then (sender_of s number) (λ from. and_then (payload_of word) (λ bytes. Ok (event from bytes))))
    (Err problem.EventWords)

abbrev pub sent_of : Text → Result Says Problem
sent_of t =
    on_rest (rest_after (codes "from client ") t) (event_of side.Client)
    (on_rest (rest_after (codes "from server ") t) (event_of side.Server) (Err problem.UnknownStatement))

-- no bytes, or a first byte #
abbrev pub passed_over : Text → Bool
passed_over [] = true
passed_over (c ∷ cs) = c == 35

-- what a line says
abbrev pub statement_of : Text → Result Says Problem
statement_of t =
    cond (passed_over t) (Ok nothing)
    (on_rest (rest_after (codes "server ") t) server_of
    (on_rest (rest_after (codes "allow ") t) (rule_of Allow)
    (on_rest (rest_after (codes "deny ") t) (rule_of Deny) (sent_of t))))

-- what the code holds, as values: the words of a rule taken apart, the bytes of an event spelled out
abbrev pub said_by : Statement → Says
said_by statement.Nothing = nothing
said_by (statement.Server n) = server n.now
said_by (statement.Rule r) = rule (record { verdict = r.verdict; methods = methods_in r.methods.now; parts = parts_in r.path.now })
said_by (statement.Event e) = event e.sender (bytes_in e.payload)

abbrev pub view : Result Statement Problem → Result Says Problem
view (Ok s) = Ok (said_by s)
view (Err e) = Err e

-- the words of a statement are good ones: a server's name, a rule's methods and path, and the spelling of an event's bytes
abbrev pub Sound : Statement → Type 0
Sound statement.Nothing = Unit {0}
Sound (statement.Server n) = good_word Name n.now ≡ true
Sound (statement.Rule r) = (methods_of r.methods.now ≡ Ok (methods_in r.methods.now)) × (parts_of r.path.now ≡ Ok (parts_in r.path.now))
Sound (statement.Event e) = is_some (spelled e.payload) ≡ true
