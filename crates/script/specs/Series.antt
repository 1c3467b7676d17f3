-- The methods of a rule and the parts of its path: words that a mark separates.
use Rattle.std.specs.Prelude.{◌≡◌, ℕ, zero, suc, cond, List, [], ◌∷◌, Some, None, Ok, Err, codes, Option, Result, MatchResult}
use Rattle.text.specs.Bytes.{Text}
use Rattle.text.specs.Marks.{rest_after, split}
use Rattle.script.specs.Words.{good_word}
use Rattle.script.specs.declared.problem.Problem.{Problem}
use Rattle.script.specs.declared.problem.Problem.TheVariants as problem
use Rattle.script.specs.declared.series.Series.{Series}
use Rattle.script.specs.declared.word.Word.TheVariants.{Method, Part}

-- up to 8 methods with a comma between them, and up to 16 parts with a slash
abbrev pub methods : Series
methods = record { word = Method; mark = 44; most = 8; wrong = problem.Methods; too_many = problem.TooManyMethods }

abbrev pub parts : Series
parts = record { word = Part; mark = 47; most = 16; wrong = problem.Path; too_many = problem.TooManyParts }

abbrev pub pieces_in : Series → Text → List Text
pieces_in s t = split s.mark t

-- what is wrong with pieces of which there may be k, from the first on; x where nothing is
unfoldable pub judged : {X : Type 0} → Series → X → ℕ → List Text → Result X Problem
judged s x k [] = Ok x
judged s x zero (t ∷ ts) = Err s.too_many
judged s x (suc k) (t ∷ ts) = cond (good_word s.word t) (judged s x k ts) (Err s.wrong)

abbrev pub pieces_of : Series → Text → Result (List Text) Problem
pieces_of s t = judged s (pieces_in s t) s.most (pieces_in s t)

abbrev pub on_rest : {X : Type 0} → Option Text → (Text → X) → X → X
on_rest None f x = x
on_rest (Some t) f x = f t

abbrev pub on_none : {X : Type 0} → Text → X → X → X
on_none [] x y = x
on_none (c ∷ cs) x y = y

-- `-` alone stands for no method
abbrev pub methods_of : Text → Result (List Text) Problem
methods_of t = on_rest (rest_after (codes "-") t) (λ rest. on_none rest (Ok []) (Err problem.Methods)) (pieces_of methods t)

-- a path begins with a slash; that alone has no part
abbrev pub parts_of : Text → Result (List Text) Problem
parts_of t = on_rest (rest_after (codes "/") t) (λ rest. on_none rest (Ok []) (pieces_of parts rest)) (Err problem.Path)

-- the methods and the parts that a good word stands for
abbrev pub methods_in : Text → List Text
methods_in t = on_rest (rest_after (codes "-") t) (λ rest. []) (pieces_in methods t)

-- a word that does not begin with a slash stands for an empty part, which no good word has
abbrev pub parts_in : Text → List Text
parts_in t = on_rest (rest_after (codes "/") t) (λ rest. on_none rest [] (pieces_in parts rest)) ([] ∷ [])

-- a check passes where there is a value, which then is x, and else names the problem
abbrev pub Checks : {U X : Type 0} → Result U Problem → Result X Problem → X → Type 0
Checks r o x = MatchResult r (λ _. o ≡ Ok x) (λ p. o ≡ Err p)
