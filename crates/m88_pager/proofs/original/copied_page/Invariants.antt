-- The bytes so far.
use Rattle.std.proofs.Common.{◌≤◌, ◌-◌, length}
use Rattle.m88_base.specs.Pages.{page_bytes}
use Rattle.m88_mem.specs.DataBus.{image_bytes}
use Rattle.m88_pager.specs.Inside.Bytes.{HoldsFrom}
use Rattle.m88_pager.proofs.original.copied_page.Given as goal

abbrev pub invariant-loop-bytes : goal.invariant-loop-bytes
invariant-loop-bytes l = record {
  held : HoldsFrom (image_bytes l.image) l.start l.bytes.items;
  room : length l.bytes.items ≤ page_bytes;
}

abbrev pub decreases-loop-bytes : goal.decreases-loop-bytes
decreases-loop-bytes l = page_bytes - length l.bytes.items
