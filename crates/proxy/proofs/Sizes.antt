-- A request that is let pass has a short method, and fits into the output.
use Rattle.std.proofs.Common.{ℕ, ◌+◌, ◌<◌, ◌≤◌, T, ◌∷◌, ◌++◌, length, refl, arith, ltb→lt, leb→le}
use Rattle.std.proofs.lemmas.Bool.{leb-true}
use Rattle.std.proofs.lemmas.List.{length-append}
use Rattle.text.specs.Bytes.{Text}
use Rattle.text.proofs.Passing.{and_l, and_r}
use Rattle.message.specs.Fields.{lines_of}
use Rattle.request.specs.Canonical.{Req, canonical, canonical_method, body_limit, head_limit, head_lines, write}
use Rattle.request.specs.Reading.{memory_size}

-- the head of a canonical request is short, and so is its body
head_short : (q : Req) → T (canonical q) → length (lines_of (head_lines q)) + 2 ≤ head_limit
head_short q h = leb→le (length (lines_of (head_lines q)) + 2) head_limit (search (and_l, and_r) depth 8)

body_short : (q : Req) → T (canonical q) → length q.body < body_limit
body_short q h = ltb→lt (length q.body) body_limit (search (and_l, and_r) depth 8)

-- a canonical method is short
method_short : (m : Text) → T (canonical_method m) → length m ≤ 16
method_short m h = leb→le (length m) 16 (search (and_l, and_r) depth 8)

-- and a canonical request has one
method_good : (q : Req) → T (canonical q) → T (canonical_method q.method)
method_good q h = search (and_l, and_r) depth 8

-- the method of a request that is let pass is short
pub short_method : (q : Req) → T (canonical q) → length q.method ≤ 16
short_method q h = method_short q.method (method_good q h)

-- a head and a body have room in the output
capacity : head_limit + body_limit ≤ memory_size
unfolding memory_size
capacity = leb-true (16384 + 262144) 282624 refl

-- over any limits: a head, its empty line and a body
both_fit : (head body : Text) (most more size : ℕ) → length head + 2 ≤ most → length body < more → most + more ≤ size →
    length (head ++ (13 ∷ 10 ∷ body)) ≤ size
both_fit head body most more size h b room = omega (arith, length-append head (13 ∷ 10 ∷ body))

-- a request that is let pass fits into the output
pub fits_slot : (q : Req) → T (canonical q) → length (write q) ≤ memory_size
fits_slot q h = both_fit (lines_of (head_lines q)) q.body head_limit body_limit memory_size (head_short q h) (body_short q h) capacity
