use Rattle.std.proofs.Common.{◌≡◌, ◌+◌, ◌≤◌, length, vec_items, vec_len, vec_capacity}
use Rattle.script.specs.Payloads.{bytes_left, spelled, text_of}
use Rattle.script.proofs.Spelling.{whole, joined, puts}
use Rattle.script.proofs.payload.Payload.spell.Given as goal

-- what was spelled so far, with what is left, is the whole; the room has not shrunk, and each byte put out took at least one to spell
abbrev pub invariant-loop-byte : goal.invariant-loop-byte
invariant-loop-byte l =
    record {
      all : joined (vec_items l.out) (whole (bytes_left l.byte-iterator)) ≡ spelled l.self;
      room : vec_capacity l.initial.out ≤ vec_capacity l.out;
      few : vec_len l.out + puts (bytes_left l.byte-iterator) ≤ length (text_of l.self);
    }
