-- One symbol more.
use Rattle.m88_link.specs.ObjectRead.{HasSymbolText}
use Rattle.m88_link.specs.ObjectText.{symbol_line}
use Rattle.m88_link.proofs.Walks.{all_one, text_one}
use Rattle.m88_link.proofs.text.push_symbols.Goals as goal

pub loop-symbol-preserved : goal.loop-symbol-preserved
loop-symbol-preserved c = record {
  text =
      text_one c.args.symbols.now c.loop-symbol.symbol-index c.symbol-item.result c.loop-symbol-test.true c.symbol-item.is
      symbol_line c.args.text.now.items c.loop-symbol.text.items c.push_symbol.new.text.items c.loop-symbol.invariant.text c.in_ok-push_symbol.ensures.text;
  have =
      all_one c.args.symbols.now c.loop-symbol.symbol-index c.symbol-item.result c.loop-symbol-test.true c.symbol-item.is
      HasSymbolText c.loop-symbol.invariant.have c.in_ok-push_symbol.ensures.has;
}
