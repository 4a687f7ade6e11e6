-- The count and the bytes so far.
use Rattle.std.proofs.Common.{◌≡◌, ◌+◌, ◌∷◌, length, take}
use Rattle.m88_srec.proofs.frame.framed.Given as goal

abbrev pub invariant-loop-byte : goal.invariant-loop-byte
invariant-loop-byte l = l.bytes.items ≡ (length l.body + 1) ∷ take l.byte-index l.body
