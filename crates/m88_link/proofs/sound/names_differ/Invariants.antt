-- The first that repeats a name is among those that are left.
use Rattle.std.proofs.Common.{◌≡◌, take, drop}
use Rattle.m88_link.specs.Symbols.{first_repeated, repeated_after}
use Rattle.m88_link.proofs.sound.names_differ.Given as goal

abbrev pub invariant-loop-index : goal.invariant-loop-index
invariant-loop-index l = repeated_after (take l.index l.symbols) (drop l.index l.symbols) ≡ first_repeated l.symbols
