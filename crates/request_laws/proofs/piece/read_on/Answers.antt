use Rattle.std.proofs.Common.{◌++◌, ◌^◌, ◌<◌, length, sym, subst}
use Rattle.request.specs.Hosts.{names_of}
use Rattle.request.specs.Reading.{fed_of}
use Rattle.request_laws.specs.Pieces.{ReadsOn}
use Rattle.request_laws.proofs.OnePiece.{reads_on}
use Rattle.request_laws.proofs.piece.read_on.Goals as goal

pub returns : goal.returns
returns c =
    let names = names_of c.args.servers.now in
    let piece = c.args.piece.now in
    let answer = fed_of names c.args.reading c.args.memory.now piece in
    λ part h counted.
    let read = reads_on names c.args.reading c.args.memory.now part piece h counted in
    subst (λ x. ReadsOn names part piece c.feed.new.memory x) (sym c.feed.ensures.told) (subst (λ m. ReadsOn names part piece m answer) (sym c.feed.ensures.held) read)
