use Rattle.std.proofs.Common.{◌≡◌, ◌==◌, ◌&&◌, [], ◌∷◌, refl, ap, ◌∙◌}
use lib.Pointwise.{pointwise}
use Rattle.text.specs.Bytes.{Text, same}
use Rattle.text.proofs.name.eq.Goals as goal

head_by_head : (s t : Text) → pointwise (λ c d. c == d) s t ≡ same s t
unfolding same
head_by_head [] [] = refl
head_by_head [] (d ∷ ds) = refl
head_by_head (c ∷ cs) [] = refl
head_by_head (c ∷ cs) (d ∷ ds) = ap (λ b. (c == d) && b) (head_by_head cs ds)

pub returns : goal.returns
returns c = c.eq.ensures ∙ head_by_head c.args.a.now c.args.b.now
