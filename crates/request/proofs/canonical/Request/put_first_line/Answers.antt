use Rattle.std.proofs.Common.{◌≡◌, [], ◌∷◌, ◌++◌, append_assoc}
use Rattle.text.specs.Bytes.{Text}
use Rattle.text.proofs.Places.{wrote_more, wrote_as}
use Rattle.message.specs.Fields.{lines_of}
use Rattle.request.specs.Canonical.{first_line}
use Rattle.request.proofs.canonical.Request.put_first_line.Goals as goal

one_line : (m t : Text) → ((m ++ (32 ∷ [])) ++ t) ++ (32 ∷ 72 ∷ 84 ∷ 84 ∷ 80 ∷ 47 ∷ 49 ∷ 46 ∷ 49 ∷ 13 ∷ 10 ∷ []) ≡ lines_of (first_line m t ∷ [])
unfolding lines_of
one_line m t = simp append_assoc

pub returns : goal.returns
returns g c = wrote_as _ _ _ (one_line c.args.self.now.method.now c.args.self.now.target.now) (wrote_more _ _ _ _ _ _ _ (wrote_more _ _ _ _ _ _ _ (wrote_more _ _ _ _ _ _ _ c.put-n.ensures c.put.ensures) c.put-2.ensures) c.put-3.ensures)
