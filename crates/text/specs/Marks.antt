-- How a line is cut into words.
use Rattle.std.specs.Prelude.{ℕ, cond, not, List, [], ◌∷◌, Some, None, Option, ◌==◌}
use Rattle.std.specs.List.{prefix_len}
use Rattle.std.specs.Option.{option_map}
use Rattle.text.specs.Bytes.{Text}
use Rattle.text.specs.declared.mark.Split.{Split}

-- what follows the word in the line, where the line begins with it
unfoldable pub rest_after : Text → Text → Option Text
rest_after [] cs = Some cs
rest_after (w ∷ ws) [] = None
rest_after (w ∷ ws) (c ∷ cs) = cond (c == w) (rest_after ws cs) None

-- how many bytes stand before the first mark; all of them where there is none
abbrev pub before : ℕ → Text → ℕ
before m t = prefix_len (λ c. not (c == m)) t

-- what stands before the first mark, and what follows it
unfoldable pub cut_at : ℕ → Text → Option (Text × Text)
cut_at m [] = None
cut_at m (c ∷ cs) = cond (c == m) (Some ([], cs)) (option_map (λ p. (c ∷ p.0, p.1)) (cut_at m cs))

abbrev pub on_first : ℕ → List Text → List Text
on_first c [] = (c ∷ []) ∷ []
on_first c (t ∷ ts) = (c ∷ t) ∷ ts

-- the pieces that a mark separates
unfoldable pub split : ℕ → Text → List Text
split m [] = [] ∷ []
split m (c ∷ cs) = cond (c == m) ([] ∷ split m cs) (on_first c (split m cs))

-- the pieces of what is left of a text; none where nothing is left, which an empty text is not
abbrev pub split_rest : ℕ → Option Text → List Text
split_rest m None = []
split_rest m (Some t) = split m t

-- the pieces that an iterator has still to give
abbrev pub pieces_left : Split → List Text
pieces_left p = split_rest p.mark (option_map (λ x. x.now) p.rest)
