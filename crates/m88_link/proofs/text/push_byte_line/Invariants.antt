-- The digits of the bytes so far behind the text before.
use Rattle.std.proofs.Common.{◌≡◌, ◌++◌, take}
use Rattle.std.specs.Prelude.{flat_map}
use Rattle.m88_base.specs.Hex.{hex2}
use Rattle.m88_link.proofs.text.push_byte_line.Given as goal

abbrev pub invariant-loop-byte : goal.invariant-loop-byte
invariant-loop-byte l = l.text.items ≡ l.initial.text.items ++ flat_map hex2 (take l.byte-index l.bytes)
