use Rattle.std.proofs.Common.{◌≡◌, ℕ, ◌≤◌, ◌++◌, length, drop, ◌∙◌, arith}
use Rattle.text.specs.Bytes.{Text, Wrote}
use Rattle.text.proofs.Places.{placed_fits, wrote_more, wrote_as}
use Rattle.request.specs.Canonical.{write}
use Rattle.request.specs.Writing.{request_by}
use Rattle.request.proofs.Parts.{write_parts}
use Rattle.request.proofs.canonical.Request.write.Goals as goal

-- a write of what has room is a write of all of it
whole : (ys xs then : Text) (n : ℕ) → length ys ≤ length xs → Wrote ys xs then n → (n ≡ length ys) × (length ys ≤ length xs) × (then ≡ ys ++ drop (length ys) xs)
whole ys xs then n h w = (omega (arith, w.count), h, w.holds ∙ placed_fits ys xs h)

pub returns : goal.returns
returns g c =
    let q = request_by g.F.FieldLine.view c.args.self.now in
    let room : length (write q) ≤ length c.args.out.now = omega (arith, c.wire_len-wanted.ensures, c.if-wanted-out.false) in
    whole (write q) c.args.out.now _ _ room
    (wrote_as _ _ _ (write_parts q) (wrote_more _ _ _ _ _ _ _ (wrote_more _ _ _ _ _ _ _ (wrote_more _ _ _ _ _ _ _ (wrote_more _ _ _ _ _ _ _ c.put_first_line-n.ensures c.put_fields.ensures) c.put_length.ensures) c.put.ensures) c.put-2.ensures))
