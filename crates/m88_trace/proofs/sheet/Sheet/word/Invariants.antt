-- So many of the accesses are made.
use Rattle.std.proofs.Common.{◌≡◌, take}
use Rattle.m88_isa.specs.Bus.{bus_after_all}
use Rattle.m88_mem.specs.DataBus.{bus_of}
use Rattle.m88_trace.specs.Inside.Sheets.{sheet_accesses}
use Rattle.m88_trace.proofs.sheet.Sheet.word.Given as goal

abbrev pub invariant-loop-waiting : goal.invariant-loop-waiting
invariant-loop-waiting l =
    l.word ≡ bus_after_all (take l.waiting-index (sheet_accesses l.self)) (bus_of l.board.memory) l.addr
