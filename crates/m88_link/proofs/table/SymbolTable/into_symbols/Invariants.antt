-- The symbols so far, and behind them those of the entries that are left, are those of the table.
use Rattle.std.proofs.Common.{◌≡◌, ◌++◌}
use Rattle.m88_link.specs.Inside.Tables.{entry_symbols}
use Rattle.m88_link.proofs.table.SymbolTable.into_symbols.Given as goal

abbrev pub invariant-loop-name : goal.invariant-loop-name
invariant-loop-name l = l.symbols.items ++ entry_symbols l.name-iterator ≡ entry_symbols l.initial.name-iterator
