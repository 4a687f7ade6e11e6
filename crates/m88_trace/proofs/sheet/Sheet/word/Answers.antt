-- One access after the other is made.
use Rattle.std.proofs.Common.{ℕ, ap, sym, take, ◌∙◌}
use Rattle.m88_isa.specs.Bus.{bus_after_all}
use Rattle.m88_mem.specs.DataBus.{bus_of}
use Rattle.m88_trace.proofs.Writing.{item_at, made_at, word_next}
use Rattle.m88_trace.specs.Inside.Sheets.{sheet_accesses}
use Rattle.m88_trace.proofs.sheet.Sheet.word.Goals as goal

pub word_after-word-requires-clause-made : goal.word_after-word-requires-clause-made
word_after-word-requires-clause-made c =
    let s = c.args.self.now in
    made_at (sheet_accesses s) c.loop-waiting.waiting-index c.waiting-item.result.access c.requires.made.words
    (item_at s.waiting.items c.deref.result.now c.args.count c.loop-waiting.waiting-index c.waiting-item.result
    c.deref.ensures.value
    c.loop-waiting-test.true c.requires.count c.waiting-item.is)

pub loop-waiting-preserved : goal.loop-waiting-preserved
loop-waiting-preserved c =
    let s = c.args.self.now in
    let k = c.loop-waiting.waiting-index in
    let bus = bus_of c.args.board.now.memory in
    c.word_after-word.ensures (bus_after_all (take k (sheet_accesses s)) bus) c.loop-waiting.invariant
    ∙ ap (λ (f : ℕ → ℕ). f c.args.addr)
    (sym (word_next (sheet_accesses s) k c.waiting-item.result.access bus
    (item_at s.waiting.items c.deref.result.now c.args.count k c.waiting-item.result c.deref.ensures.value
    c.loop-waiting-test.true
    c.requires.count c.waiting-item.is)))
