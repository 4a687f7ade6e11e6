-- A symbol that isn't sound behind the others is the first, and one that is sound is one more in the table.
use Rattle.m88_link.proofs.Walks.{name_more, symbol_fails, symbol_holds}
use Rattle.m88_link.proofs.walk.walk_symbols.Goals as goal

pub returns-then-not-is_sound_behind : goal.returns-then-not-is_sound_behind
returns-then-not-is_sound_behind c =
    symbol_fails c.args.sections.now c.args.symbols.now c.loop-index.index c.index-symbols-index.result c.loop-index-test.true c.index-symbols-index.is
    c.loop-index.names c.is_sound_behind.result c.loop-index.invariant.named c.is_sound_behind.ensures c.loop-index.invariant.sound
    c.if-not-is_sound_behind.true

pub loop-index-preserved : goal.loop-index-preserved
loop-index-preserved c = record {
  sound =
      symbol_holds c.args.sections.now c.args.symbols.now c.loop-index.index c.index-symbols-index.result c.loop-index-test.true c.index-symbols-index.is
      c.loop-index.names c.is_sound_behind.result c.loop-index.invariant.named c.is_sound_behind.ensures c.loop-index.invariant.sound
      c.if-not-is_sound_behind.false;
  named =
      name_more c.args.sections.now c.args.symbols.now c.loop-index.index c.index-symbols-index.result c.loop-index-test.true c.index-symbols-index.is
      c.loop-index.names c.is_sound_behind.result c.loop-index.invariant.named c.is_sound_behind.ensures c.loop-index.invariant.sound
      c.add.new.self c.in_ok-add.ensures.ok;
}
