-- Each datum is that of its access.
use Rattle.std.proofs.Common.{◌<◌, ◌∙◌, List, ap, arith, length, subst, sym}
use Rattle.m88_base.specs.Pages.{page_number}
use Rattle.m88_mem.specs.DataBus.{MemoryView, absent_of, bus_of}
use Rattle.m88_trace.proofs.Data.{all_due, none_due, one_due}
use Rattle.m88_trace.proofs.Writing.{index_at, vec_empty, vec_some}
use Rattle.m88_trace.specs.Inside.Sheets.{AreDue, waiting_accesses, sheet_accesses}
use Rattle.m88_trace.specs.declared.waiting.Waiting.{Waiting}
use Rattle.m88_trace.proofs.sheet.Sheet.data.Goals as goal

pub returns-then-is_empty : goal.returns-then-is_empty
returns-then-is_empty c = λ few.
    let s = c.args.self.now in
    subst (λ (ws : List Waiting). AreDue c.default.result (waiting_accesses ws) (absent_of c.args.board.now.memory)
    (bus_of c.args.board.now.memory))
    (sym (vec_empty s.waiting.len s.waiting.items c.is_empty.result c.is_empty.ensures c.if-is_empty.true (omega arith)))
    (none_due c.default.result (absent_of c.args.board.now.memory) (bus_of c.args.board.now.memory))

pub returns-then-not-is_absent : goal.returns-then-not-is_absent
returns-then-not-is_absent c = λ few.
    let s = c.args.self.now in
    let below : 0 < length s.waiting.items =
    vec_some s.waiting.len s.waiting.items c.is_empty.result c.is_empty.ensures c.if-is_empty.false (omega arith) in
    one_due _ (sheet_accesses s) (absent_of c.args.board.now.memory) (bus_of c.args.board.now.memory)
    c.index.result.now.access (index_at s.waiting.items 0 c.index.result.now below c.index.ensures)
    (ap (λ (memory : MemoryView). absent_of memory (page_number c.index.result.now.access.addr)) (sym c.memory.ensures.value)
    ∙ sym c.is_absent.ensures ∙ c.if-not-is_absent.true) c.datum-oldest.ensures

pub returns : goal.returns
returns c = λ few.
    all_due _ (sheet_accesses c.args.self.now) (absent_of c.args.board.now.memory) (bus_of c.args.board.now.memory) few
    c.datum-oldest.ensures c.datum.ensures c.datum-2.ensures
