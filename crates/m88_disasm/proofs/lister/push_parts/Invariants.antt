-- The lines of the parts so far are there, at most MOST_PER_BYTE bytes for each byte of them.
use Rattle.std.proofs.Common.{◌+◌, ◌*◌, ◌≤◌, length, take}
use Rattle.m88_base.specs.Image.{parts}
use Rattle.m88_base.specs.Placed.{count_among}
use Rattle.m88_disasm.specs.declared.lister.TheConstants.{MOST_PER_BYTE}
use Rattle.m88_disasm.proofs.Lines.{PartsAppended}
use Rattle.m88_disasm.proofs.lister.push_parts.Given as goal

abbrev pub invariant-loop-index : goal.invariant-loop-index
invariant-loop-index l = record {
  lines : PartsAppended (parts l.image) l.initial.text.items l.text.items l.index;
  room : length l.text.items ≤ length l.initial.text.items + MOST_PER_BYTE * count_among (take l.index (parts l.image));
}
