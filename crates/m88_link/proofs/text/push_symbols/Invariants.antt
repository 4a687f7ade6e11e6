-- The lines of the symbols so far behind the text before; each has a text.
use Rattle.std.proofs.Common.{◌≡◌, ◌++◌, take}
use Rattle.std.specs.Prelude.{All, flat_map}
use Rattle.m88_link.specs.ObjectRead.{HasSymbolText}
use Rattle.m88_link.specs.ObjectText.{symbol_line}
use Rattle.m88_link.proofs.text.push_symbols.Given as goal

abbrev pub invariant-loop-symbol : goal.invariant-loop-symbol
invariant-loop-symbol l = record {
  text : l.text.items ≡ l.initial.text.items ++ flat_map symbol_line (take l.symbol-index l.symbols);
  have : All HasSymbolText (take l.symbol-index l.symbols);
}
