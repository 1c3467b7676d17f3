use Rattle.std.proofs.Common.{◌≡◌, ℕ, ◌+◌, arith}
use Rattle.std.proofs.lemmas.List.{length-take, length-drop}
use Rattle.text.specs.Bytes.{Text}
use Rattle.request.proofs.Undoing.{Undone, undone_long, undone_more, undone_all, undone_within}
use Rattle.request.proofs.target.undo_path.Goals as goal

far : (e v : Text) (at i n m : ℕ) → n ≡ m → Undone e v at (i + m) → Undone e v at (i + n)
far e v at i n m h u = rw h u

pub loop-token-preserved : goal.loop-token-preserved
loop-token-preserved c =
    let e = c.args.path.now in
    let v = c.loop-token.path in
    let at = c.loop-token.at in
    let i = c.loop-token.i in
    let long = undone_long e v at i c.loop-token.invariant.0 c.loop-token.invariant.1 in
    let within = simp (length-take, length-drop) at c.in-Some.ensures.within in (
      omega (arith, within, c.width-i.ensures, long),
      far e _ _ i _ _ c.width-i.ensures (undone_more e v at i c.loop-token.invariant.0 c.loop-token.invariant.1 c.in-Some.token c.in-Some.ensures.is c.put-at.new.out c.put-at.result c.put-at.ensures),
    )

pub returns : goal.returns
returns c =
    let e = c.args.path.now in
    let v = c.loop-token.path in
    record {
      is = undone_all e v c.loop-token.at c.loop-token.i c.loop-token.invariant.0 c.loop-token.invariant.1 c.in_default.ensures.is;
      within = undone_within e v c.loop-token.at c.loop-token.i c.loop-token.invariant.0 c.loop-token.invariant.1 c.in_default.ensures.is;
    }
