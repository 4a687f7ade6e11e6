-- The text so far and the lines of the bytes that are left are the whole.
use Rattle.std.proofs.Common.{◌≡◌, ◌+◌, ◌++◌, length}
use Rattle.std.specs.Slice.Iter.{chunks_rest, chunks_size}
use Rattle.m88_base.specs.Lines.{text_of_lines}
use Rattle.m88_srec.specs.Written.{data_lines}
use Rattle.m88_srec.proofs.writer.push_part.Given as goal

abbrev pub invariant-loop-piece : goal.invariant-loop-piece
invariant-loop-piece l = record {
  size : chunks_size l.piece-iterator ≡ 16;
  count : l.done + length (chunks_rest l.piece-iterator) ≡ length l.bytes;
  left : l.text.items ++ text_of_lines (data_lines (l.at + l.done) (chunks_rest l.piece-iterator))
      ≡ l.initial.text.items ++ text_of_lines (data_lines l.at l.bytes);
}
