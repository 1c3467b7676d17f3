use Rattle.std.proofs.Common.{◌≡◌, ◌≤◌, ◌++◌, length, sym, ap, arith}
use Rattle.text.proofs.Places.{wrote_more, wrote_as}
use Rattle.message.specs.declared.chunked.Outcome.TheVariants.{More, Whole, Wrong}
use Rattle.message.specs.Chunked.{due_of}
use Rattle.message.proofs.Chunks.{copies, goes, ends, run_step, run_none}
use Rattle.message.proofs.chunked.Chunk.feed.Goals as goal

pub loop-byte-preserved-then-due-gt0 : goal.loop-byte-preserved-then-due-gt0
loop-byte-preserved-then-due-gt0 c =
    let due : c.min-due.result ≤ due_of c.loop-byte.chunk = omega arith in
    let there : c.min-due.result ≤ length c.loop-byte.rest.now = omega arith in
    let wrote = wrote_more _ _ _ _ _ _ _ c.loop-byte.invariant.wrote c.put-written.ensures in
    rw c.split_at.ensures.back
    (copies _ _ _ c.loop-byte.chunk _ _ _ _ _ _ _ c.loop-byte.invariant c.if-due-gt0.true due there c.skip-chunk.ensures
    (wrote_as _ _ _ (ap (λ t. c.loop-byte.invariant.done ++ t) c.split_at.ensures.front) wrote))

pub loop-byte-preserved : goal.loop-byte-preserved
loop-byte-preserved c =
    let none : due_of c.loop-byte.chunk ≡ 0 = omega (arith, c.in-Some.ensures.cases.1) in
    rw c.in-Ok-On.next-is
    (goes _ _ _ c.loop-byte.chunk _ _ _ c.in-Some.byte.now c.in-Some.behind.now _ c.loop-byte.invariant c.in-Some.ensures.cases.0 none (sym (rw c.in-Ok-On.field-0-is at c.in-Ok-On.ensures)))

pub returns-in-Ok-End : goal.returns-in-Ok-End
returns-in-Ok-End c =
    let none : due_of c.loop-byte.chunk ≡ 0 = omega (arith, c.in-Some.ensures.cases.1) in
    let e = run_step c.loop-byte.chunk c.loop-byte.rest.now c.in-Some.byte.now c.in-Some.behind.now _ c.in-Some.ensures.cases.0 none (rw c.in-Ok-End.field-0-is at c.in-Ok-End.ensures) in
    let both = ends _ _ _ c.loop-byte.chunk _ _ c.loop-byte.rest.now _ 1 Whole _ _ (sym c.if-not-fits.ensures) c.loop-byte.invariant e (omega (arith, c.in-Some.ensures.cases.1, c.loop-byte.invariant.within)) (rw c.in-Ok-End.last-is at c.fed.ensures) in
    record { told = both.0; held = both.1 }

pub returns-in-Err : goal.returns-in-Err
returns-in-Err c =
    let none : due_of c.loop-byte.chunk ≡ 0 = omega (arith, c.in-Some.ensures.cases.1) in
    let e = run_step c.loop-byte.chunk c.loop-byte.rest.now c.in-Some.byte.now c.in-Some.behind.now _ c.in-Some.ensures.cases.0 none c.in-Err.ensures in
    let both = ends _ _ _ c.loop-byte.chunk _ _ c.loop-byte.rest.now _ 0 (Wrong c.in-Err.flaw) _ _ (sym c.if-not-fits.ensures) c.loop-byte.invariant e (omega (arith, c.in-Some.ensures.cases.1, c.loop-byte.invariant.within)) c.fed-in-Err.ensures in
    record { told = both.0; held = both.1 }

pub returns : goal.returns
returns c =
    let e = run_none c.loop-byte.chunk c.loop-byte.rest.now c.in_default.ensures.cases in
    let both = ends _ _ _ c.loop-byte.chunk _ _ c.loop-byte.rest.now _ 0 More _ _ (sym c.if-not-fits.ensures) c.loop-byte.invariant e (omega (arith, c.in_default.ensures.cases)) c.fed-2.ensures in
    record { told = both.0; held = both.1 }
