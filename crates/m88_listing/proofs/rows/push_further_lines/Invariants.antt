-- The text so far and the lines of the bytes that are left are the whole, and these lie among the addresses.
use Rattle.std.proofs.Common.{◌≡◌, ◌+◌, ◌*◌, ◌<◌, ◌≤◌, ◌^◌, ◌++◌, length}
use Rattle.std.specs.Slice.Iter.{chunks_rest, chunks_size}
use Rattle.m88_base.specs.Lines.{text_of_lines}
use Rattle.m88_listing.specs.Rows.{further_from}
use Rattle.m88_listing.proofs.rows.push_further_lines.Given as goal

abbrev pub invariant-loop-piece : goal.invariant-loop-piece
invariant-loop-piece l = record {
  size : chunks_size l.piece-iterator ≡ 8;
  fits : 0 < length (chunks_rest l.piece-iterator) → l.at + l.number * 8 + length (chunks_rest l.piece-iterator) ≤ 2 ^ 32;
  left : l.text.items ++ text_of_lines (further_from l.at l.number (chunks_rest l.piece-iterator))
      ≡ l.initial.text.items ++ text_of_lines (further_from l.at 1 l.behind);
}
