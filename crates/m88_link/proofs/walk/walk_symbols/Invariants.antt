-- The symbols so far are sound, and the table has them.
use Rattle.std.proofs.Common.{◌≡◌, take}
use Rattle.m88_link.specs.ObjectRead.{AreSoundSymbols}
use Rattle.m88_link.proofs.walk.walk_symbols.Given as goal

abbrev pub invariant-loop-index : goal.invariant-loop-index
invariant-loop-index l = record {
  sound : AreSoundSymbols l.sections (take l.index l.symbols);
  named : l.names ≡ take l.index l.symbols;
}
