-- A load gets the word that those before it leave.
use Rattle.std.proofs.Common.{arith, sym, subst, take, ◌≡◌, ◌<◌, length, Option}
use Rattle.std.specs.Prelude.{IfSome}
use Rattle.m88_isa.specs.Bus.{bus_after_all}
use Rattle.m88_isa.specs.declared.planned.Access.{Access}
use Rattle.m88_mem.specs.DataBus.{bus_of}
use Rattle.m88_trace.proofs.Following.{loads}
use Rattle.m88_trace.proofs.Writing.{index_at, made_at}
use Rattle.m88_trace.specs.Inside.Sheets.{sheet_accesses}
use Rattle.m88_trace.specs.Lines.{datum_by}
use Rattle.m88_trace.proofs.sheet.Sheet.datum.Goals as goal

pub word-requires-clause-word : goal.word-requires-clause-word
word-requires-clause-word c =
    let s = c.args.self.now in
    let below : c.args.index < length s.waiting.items = omega arith in
    (made_at (sheet_accesses s) c.args.index c.index.result.now.access c.requires.words
    (index_at s.waiting.items c.args.index c.index.result.now below c.index.ensures)).0

pub datum-requires : goal.datum-requires
datum-requires c =
    let s = c.args.self.now in
    let below : c.args.index < length s.waiting.items = omega arith in
    (made_at (sheet_accesses s) c.args.index c.index.result.now.access c.requires.words
    (index_at s.waiting.items c.args.index c.index.result.now below c.index.ensures)).1

pub returns : goal.returns
returns c =
    let s = c.args.self.now in
    let below : c.args.index < length s.waiting.items = omega arith in
    let words = bus_after_all (take c.args.index (sheet_accesses s)) (bus_of c.args.board.now.memory) in
    subst (λ (o : Option Access). IfSome o (λ a. c.datum.result ≡ datum_by a words))
    (sym (index_at s.waiting.items c.args.index c.index.result.now below c.index.ensures))
    (loads c.index.result.now.access words c.word.result c.datum.result c.if-access.false c.word.ensures
    c.datum.ensures.value)
