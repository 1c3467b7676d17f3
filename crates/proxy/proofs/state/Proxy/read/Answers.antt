use Rattle.std.proofs.Common.{◌++◌, Ok, ap}
use Rattle.request.specs.Hosts.{names_of}
use Rattle.request_laws.specs.Laws.{finding_of}
use Rattle.request_laws.specs.Outcome.{outcome}
use Rattle.proxy.proofs.Passing.{never_unfit}
use Rattle.proxy.proofs.state.Proxy.read.Goals as goal

pub returns : goal.returns
returns c = λ part h few.
    let names = names_of c.args.self.now.names.now in
    let reads = c.in_ok-fed.ensures part h few in (
      c.in_ok-fed.fed,
      c.in_ok-did.did,
      ap (λ n. Ok (record { client = c.args.client; taken = n; did = c.in_ok-did.did })) c.taken.ensures,
      reads,
      c.in_ok-did.ensures (finding_of (outcome names (part ++ c.args.unread.now))) reads.0,
    )

pub returns-in_err-did : goal.returns-in_err-did
returns-in_err-did c = λ part h few.
    let names = names_of c.args.self.now.names.now in
    let reads = c.in_ok-fed.ensures part h few in
    never_unfit c.args.client c.in_ok-fed.fed.reading c.args.out.now c.take_up.new.out c.args.self.now c.take_up.new.self c.in_err-did.field-0.0 (finding_of (outcome names (part ++ c.args.unread.now)))
    (c.in_err-did.ensures (finding_of (outcome names (part ++ c.args.unread.now))) reads.0)
