-- The lines so far and those that are left are all.
use Rattle.std.proofs.Common.{◌≡◌, ◌++◌, ◌-◌, ◌%◌, flat_map}
use Rattle.m88_isa.specs.Address.{word_address}
use Rattle.m88_mem.specs.DataBus.{bus_of}
use Rattle.m88_report.specs.Report.{word_line}
use Rattle.m88_session.specs.MonitorLines.{words_from}
use Rattle.m88_session.proofs.monitor.showing.push_words.Given as goal

abbrev pub invariant-loop-line : goal.invariant-loop-line
invariant-loop-line l = record {
  aligned : l.at % 4 ≡ 0;
  sofar : l.text.items ++ flat_map word_line (words_from (bus_of l.board.memory) l.at (l.count - l._line))
      ≡ l.initial.text.items ++ flat_map word_line (words_from (bus_of l.board.memory) (word_address l.address) l.count);
}
