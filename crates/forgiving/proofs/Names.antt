-- A name in lower case, byte by byte.
use Rattle.std.proofs.Common.{◌≡◌, [], ◌∷◌, map, refl, ap}
use Rattle.text.specs.Bytes.{Text, lower, lowered}

-- the letters of a name in lower case, one by one
pub lower_each : (t : Text) → map lower t ≡ lowered t
unfolding lowered
lower_each [] = refl
lower_each (c ∷ t) = ap (λ u. lower c ∷ u) (lower_each t)
