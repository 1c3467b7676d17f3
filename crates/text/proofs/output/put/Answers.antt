use Rattle.std.proofs.Common.{◌-◌, ◌++◌, drop, ap, ◌∙◌}
use Rattle.text.proofs.Places.{wrote_front}
use Rattle.text.proofs.output.put.Goals as goal

pub returns : goal.returns
returns c =
    let n = c.min-n.result in
    let out = c.args.out.now in
    record {
      holds = ap (λ zs. zs ++ drop (n - 0) out) c.copy_from_slice.ensures.after ∙ wrote_front n c.args.bytes.now out c.min-n.ensures;
      count = c.min-n.ensures;
    }
