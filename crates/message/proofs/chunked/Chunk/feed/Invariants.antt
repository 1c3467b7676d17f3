use Rattle.std.proofs.Common.{length}
use Rattle.message.proofs.Chunks.{Going}
use Rattle.message.proofs.chunked.Chunk.feed.Given as goal

abbrev pub invariant-loop-byte : goal.invariant-loop-byte
invariant-loop-byte l = Going l.initial.chunk l.initial.out l.piece l.chunk l.out l.written l.rest

abbrev pub decreases-loop-byte : goal.decreases-loop-byte
decreases-loop-byte l = length l.rest
