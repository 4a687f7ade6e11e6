-- The lines so far, with those of the entries that are left, are all lines.
use Rattle.std.proofs.Common.{◌≡◌, ◌++◌, drop, map}
use Rattle.m88_base.specs.Lines.{text_of_lines}
use Rattle.m88_listing.specs.Entries.{entry_line}
use Rattle.m88_listing.specs.Listing.{entry_lines}
use Rattle.m88_listing.proofs.entries.push_entries.Given as goal

abbrev pub invariant-loop-entry : goal.invariant-loop-entry
invariant-loop-entry l =
    l.text.items ++ text_of_lines (map entry_line (drop l.entry-index l.entries))
    ≡ l.fn.text.items ++ text_of_lines (entry_lines l.title l.entries)
