-- The bytes so far are there as a text has them.
use Rattle.std.proofs.Common.{◌≡◌, ◌++◌, take}
use Rattle.std.specs.Prelude.{flat_map}
use Rattle.m88_sourcing.specs.Data.{in_text}
use Rattle.m88_sourcing.proofs.lines.push_inside.Given as goal

abbrev pub invariant-loop-b : goal.invariant-loop-b
invariant-loop-b l = l.text.items ≡ l.initial.text.items ++ flat_map in_text (take l.b-index l.bytes)
