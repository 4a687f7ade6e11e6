-- The text so far and the lines of the bytes that are left are the whole.
use Rattle.std.proofs.Common.{◌≡◌, ◌++◌}
use Rattle.std.specs.Slice.Iter.{chunks_rest, chunks_size}
use Rattle.m88_link.specs.ObjectText.{byte_lines}
use Rattle.m88_link.proofs.text.push_byte_lines.Given as goal

abbrev pub invariant-loop-line : goal.invariant-loop-line
invariant-loop-line l = record {
  size : chunks_size l.line-iterator ≡ 32;
  left : l.text.items ++ byte_lines (chunks_rest l.line-iterator) ≡ l.initial.text.items ++ byte_lines l.bytes;
}
