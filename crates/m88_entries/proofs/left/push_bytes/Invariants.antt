-- The bytes so far are written.
use Rattle.std.proofs.Common.{◌≡◌, ◌++◌, flat_map, take}
use Rattle.m88_base.specs.Hex.{hex2}
use Rattle.m88_entries.proofs.left.push_bytes.Given as goal

abbrev pub invariant-loop-byte : goal.invariant-loop-byte
invariant-loop-byte l = l.text.items ≡ l.initial.text.items ++ flat_map hex2 (take l.byte-index l.bytes)
