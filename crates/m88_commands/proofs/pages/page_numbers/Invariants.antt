-- The numbers so far and those of the rest are those of the text.
use Rattle.std.proofs.Common.{◌≤◌, length}
use Rattle.std.specs.Prelude.{All}
use Rattle.m88_base.specs.Pages.{IsPage}
use Rattle.m88_commands.specs.Pages.{most_numbers}
use Rattle.m88_commands.proofs.PageLists.{Sofar}
use Rattle.m88_commands.proofs.pages.page_numbers.Given as goal

abbrev pub invariant-loop-first : goal.invariant-loop-first
invariant-loop-first l = record {
  sofar : Sofar l.text l.rest l.numbers.items;
  few : length l.numbers.items ≤ most_numbers;
  below : All IsPage l.numbers.items;
}

abbrev pub decreases-loop-first : goal.decreases-loop-first
decreases-loop-first l = length l.rest
