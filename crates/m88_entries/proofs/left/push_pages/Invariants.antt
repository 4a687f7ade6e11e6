-- The pages so far are written.
use Rattle.std.proofs.Common.{◌≡◌, ◌++◌}
use Rattle.m88_mem.specs.DataBus.{absent_of}
use Rattle.m88_entries.specs.Left.{left_pages}
use Rattle.m88_entries.proofs.left.push_pages.Given as goal

abbrev pub invariant-loop-page : goal.invariant-loop-page
invariant-loop-page l = l.text.items ≡ l.initial.text.items ++ left_pages (absent_of l.memory) l.page
