-- A target's canonical form is no longer than the target.
use Rattle.std.proofs.Common.{◌≡◌, ℕ, ◌+◌, ◌-◌, ◌≤◌, eqb, [], ◌∷◌, length, Some, None, Option, arith}
use Rattle.std.proofs.lemmas.List.{length-append, length-take, length-drop}
use Rattle.std.proofs.lemmas.Bool.{cond_both}
use Rattle.text.specs.Numerals.{hex_pair}
use Rattle.text.specs.Bytes.{Text, plain_byte}
use Rattle.text.specs.Marks.{before}
use Rattle.request.specs.Targets.{Stand, free, percent, half, tokens_at, capital, spell_code, spelled, path_of, query_of, marked, undone}
use Rattle.request.specs.declared.target.Token.TheVariants.{Byte}

code_short : (a b : ℕ) (o : Option ℕ) → length (spell_code a b o) ≤ 3
code_short a b None = omega arith
code_short a b (Some v) = cond_both (plain_byte v) (v ∷ []) (37 ∷ capital a ∷ capital b ∷ []) (λ t. length t ≤ 3) (λ _. omega arith) (λ _. omega arith)

-- the bytes of a token that is not read to its end
abbrev held : Stand → ℕ
held free = 0
held percent = 1
held (half a) = 2

path_short : (at : Stand) (cs : Text) → length (spelled (tokens_at at cs)) ≤ held at + length cs
unfolding tokens_at spelled
path_short free [] = omega arith
path_short free (c ∷ cs) =
    let more = path_short percent cs in
    let next = path_short free cs in
    cond_both (eqb c 37) (tokens_at percent cs) (Byte c ∷ tokens_at free cs) (λ ts. length (spelled ts) ≤ 0 + length (c ∷ cs)) (λ _. omega arith) (λ _. omega arith)
path_short percent [] = omega arith
path_short percent (c ∷ cs) = let next = path_short (half c) cs in omega arith
path_short (half a) [] = omega arith
path_short (half a) (c ∷ cs) =
    let next = path_short free cs in
    let code = code_short a c (hex_pair a c) in
    simp length-append (omega arith)

query_short : (q : Text) (n : ℕ) → length q ≡ n - 1 → length (marked q) ≤ n
query_short [] n e = omega arith
query_short (c ∷ cs) n e = omega arith

pub target_short : (t : Text) → length (undone t) ≤ length t
target_short t =
    let path = path_short free (path_of t) in
    let long = length-take (before 63 t) t in
    let query = query_short (query_of t) (length t - before 63 t) (simp length-drop (omega arith)) in
    simp length-append (omega arith)
