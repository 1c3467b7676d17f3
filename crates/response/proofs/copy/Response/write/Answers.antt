use Rattle.std.proofs.Common.{◌≡◌, ℕ, ◌≤◌, ◌++◌, length, drop, ◌∙◌, arith}
use Rattle.text.specs.Bytes.{Text, Wrote}
use Rattle.text.proofs.Places.{placed_fits, wrote_more, wrote_as}
use Rattle.response.specs.Copies.{copy, view_response}
use Rattle.response.proofs.Copying.{copy_parts}
use Rattle.response.proofs.copy.Response.write.Goals as goal

-- a write of what has room is a write of all of it
whole : (ys xs then : Text) (n : ℕ) → length ys ≤ length xs → Wrote ys xs then n → (n ≡ length ys) × (length ys ≤ length xs) × (then ≡ ys ++ drop (length ys) xs)
whole ys xs then n h w = (omega (arith, w.count), h, w.holds ∙ placed_fits ys xs h)

pub returns : goal.returns
returns c =
    let r = view_response c.args.self.now in
    let room : length (copy r) ≤ length c.args.out.now = omega (arith, c.wire_len-wanted.ensures, c.if-wanted-out.false) in
    whole (copy r) c.args.out.now _ _ room
    (wrote_as _ _ _ (copy_parts r) (wrote_more _ _ _ _ _ _ _ (wrote_more _ _ _ _ _ _ _ (wrote_more _ _ _ _ _ _ _ (wrote_more _ _ _ _ _ _ _ (wrote_more _ _ _ _ _ _ _ c.put-n.ensures c.put.ensures) c.put_fields.ensures) c.put_length.ensures) c.put-2.ensures) (wrote_as _ _ _ c.body.ensures c.put-3.ensures)))
