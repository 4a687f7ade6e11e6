-- A load leaves the word, and so does a store to another.
use Rattle.m88_trace.proofs.Writing.{word_apart, word_kept, word_stored}
use Rattle.m88_trace.proofs.sheet.word_after.Goals as goal

pub returns-then-not-access : goal.returns-then-not-access
returns-then-not-access c = λ bus is. word_kept c.args.access.now bus c.args.addr c.args.word c.if-not-access.true is

pub returns-then-access-addr : goal.returns-then-access-addr
returns-then-access-addr c = λ bus is.
    word_apart c.args.access.now bus c.args.addr c.args.word c.if-not-access.false c.requires.word c.if-access-addr.true
    is

pub returns : goal.returns
returns c = λ bus is.
    word_stored c.args.access.now bus c.args.addr c.args.word c.merge.result c.if-not-access.false c.requires.word
    c.if-access-addr.false is
    c.merge.ensures.value
