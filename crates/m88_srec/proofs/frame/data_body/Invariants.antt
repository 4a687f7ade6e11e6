-- The bytes of the address so far, and then the others.
use Rattle.std.proofs.Common.{◌≡◌, ◌++◌, take}
use Rattle.std.specs.Int.{to_be_bytes, w32}
use Rattle.m88_srec.proofs.frame.data_body.Given as goal

abbrev pub invariant-loop-byte : goal.invariant-loop-byte
invariant-loop-byte l = l.body.items ≡ take l.byte-index (to_be_bytes w32 l.at)

abbrev pub invariant-loop-byte-2 : goal.invariant-loop-byte-2
invariant-loop-byte-2 l = l.body.items ≡ to_be_bytes w32 l.at ++ take l.byte-index l.given
