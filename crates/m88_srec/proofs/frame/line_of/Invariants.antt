-- The letter, the type digit and the digits so far.
use Rattle.std.proofs.Common.{◌≡◌, ◌+◌, ◌*◌, ◌∷◌, length, take}
use Rattle.std.specs.List.{flat_map}
use Rattle.m88_base.specs.Hex.{hex2}
use Rattle.m88_srec.specs.Records.{letter_s}
use Rattle.m88_srec.proofs.frame.line_of.Given as goal

abbrev pub invariant-loop-byte : goal.invariant-loop-byte
invariant-loop-byte l = record {
  items : l.line.items ≡ letter_s ∷ l.digit ∷ flat_map hex2 (take l.byte-index l.bytes);
  len : length l.line.items ≡ 2 * l.byte-index + 2;
}
