use Rattle.std.proofs.Common.{[], Some, refl, subst}
use Rattle.request.specs.Writing.{Written}
use Rattle.response.specs.Copies.{copy}
use Rattle.response.proofs.Refusing.{line_written}
use Rattle.response.proofs.refusal.write_refusal.Goals as goal

pub returns : goal.returns
returns c =
    let all = line_written c.args.fault _ c.put_line-n.new.out c.put_line-n.result refl c.put_line-n.ensures in
    subst (λ l. Written (copy record { line = l; fields = []; body = Some [] }) c.args.out.now c.write.new.out c.write.result) all c.write.ensures
