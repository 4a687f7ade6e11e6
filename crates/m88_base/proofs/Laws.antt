-- The laws of what all crates share that proofs above cite, by their subject.

-- Registers: those with one number are the same.
pub use Rattle.m88_base.proofs.Same.{same_reg}
-- the word of a set whose members are below 32 has the bits of its members, and no others
pub use Rattle.m88_base.proofs.RegisterBits.{bit_of_member, bit_of_set}
-- Images: those with one start and the same bytes are the same.
pub use Rattle.m88_base.proofs.SameRuns.{same_images}
-- an image has no more parts than bytes
pub use Rattle.m88_base.proofs.FewParts.{few_parts}
-- the byte that a run has at an address: none below it or above it, and else the one that stands there
pub use Rattle.m88_base.proofs.Lookup.{byte_in_above, byte_in_at, byte_in_below, byte_in_from}
-- the byte that two runs have where one begins at the end of the other, or that joined lists of runs have
pub use Rattle.m88_base.proofs.Lookup.{byte_among-append, byte_in-join}
-- Bytes: each is below 256, at any index too, and so are the first of them and those behind.
pub use Rattle.m88_base.proofs.PartBytes.{AreBytes, byte_below, bytes_dropped, bytes_taken}
-- where parts that stand apart find bytes, the first has such, ends at most where all addresses end, and the others find
-- bytes too
pub use Rattle.m88_base.proofs.PartBytes.{behind_finds, part_bytes, part_ends}
-- each of runs that stand apart is a part of what is found in them
pub use Rattle.m88_base.proofs.Cuts.{run_is_part}
-- Elements of lists: one of joined lists stands in the first or in the second.
pub use Rattle.m88_base.proofs.Lookup.{slice_get-append_left, slice_get-append_right}
-- Options: three in a row are the same however they are grouped, and an option or none is the option.
pub use Rattle.m88_base.proofs.Lookup.{option_or-none, option_or_assoc}
-- Pieces of a list: as many as are counted, none of an empty list, one of a short one that isn't empty, and those of
-- joined lists where the first is whole pieces.
pub use Rattle.m88_base.proofs.InPieces.{first_piece, length-pieces, next_piece, no_pieces, only_piece, pieces-append}
-- Lines: one ends at a line feed, at a carriage return with its line feed, or with the text; any other byte before a
-- text begins its first line, one line with its end is the first of a text that it begins, and an empty text has none.
pub use Rattle.m88_base.proofs.Lines.{ends_last, ends_source, first_line, front_by, is_inner, no_lines}
-- lines that were appended are those of an equal text too, and one line more stands before others
pub use Rattle.m88_base.proofs.Appended.{line_before, retold}
-- an input is parted at a line in one way, or it isn't parted, and one of the two is so
pub use Rattle.m88_base.proofs.PartedLines.{one_parting, parted_not_unparted, parted_told}
-- what stands behind a line behind others stands behind one more, and a text of length 0 is empty
pub use Rattle.m88_base.proofs.PartedLines.{behind_more, empty_of}
-- Texts with a mark: a text is cut at its first mark in one way, one that lacks the mark has no cut, and digits lack a
-- mark that is no digit.
pub use Rattle.m88_base.proofs.Marks.{cut_once, none_in_digits, not_cut}
-- what a cut finds, that a cut is at the first byte of the value, and that a text without a cut lacks it
pub use Rattle.m88_base.proofs.Splitting.{cut_found, split_first, uncut}
-- what lacks a byte: joined texts that do, and a text of bytes that pass a test which the byte fails
pub use Rattle.m88_base.proofs.Splitting.{is_other, lacks-append, lacks_by, other_false}
-- Numerals: one that is read is that of its value, one that is written is read again and has no needless zero.
pub use Rattle.m88_base.proofs.Digits.{are_digits, decimal_found, decimal_leads, decimal_needed, decimal_told, tells}
-- the test of digits says that all are digits, and what is answered of a number by two tests is its value
pub use Rattle.m88_base.proofs.Digits.{all_are, are_all, value_told}
-- eight hexadecimal digits that are written are read again, and those that are read were written
pub use Rattle.m88_base.proofs.Hexadecimal.{hex8-hex8_of, hex8_of-hex8, is_hex8-hex8, value_of_hex8}
-- Verdicts: what is accepted or refused, never both, and refused for one reason, has one.
pub use Rattle.m88_base.proofs.OnceTold.{told_once}
-- Tests: one with a test that always passes is the test.
pub use Rattle.m88_base.proofs.Lines.{and_true}
-- Statements that hold or fail: an order of numbers, the sameness of texts, and two together.
pub use Rattle.m88_base.proofs.Decided.{IsDecided, at_most, both_decided, same_text}
-- Sources and sinks: where no call is made the count of calls stays, and one more call adds one to it.
pub use Rattle.m88_base.proofs.Calls.{calls_more, calls_none}
-- what two reads take together, and that the front of a buffer is as long as what was read into it
pub use Rattle.m88_base.proofs.Known.{consumes_front, consumes_more, length_front, takes_at_most, takes_exactly}
-- a text stands whole behind what a sink held only where it was written whole
pub use Rattle.m88_base.proofs.Wholly.{not_part, not_whole}
-- a program that has no text wrote nothing, and one that wrote ended in one of three ways
pub use Rattle.m88_base.proofs.Wholly.{answered, none_of_reading, only_refused}
-- Filters: what one answers that wrote nothing, what one whose reply was written, that an input of it is answered,
-- what it tells of a refusal, that a reply answers and refuses alike where its refusal shows a line, that the line of a
-- refusal refuses so, and that what is accepted has no refusal.
pub use Rattle.m88_base.proofs.Answering.{AreVerdicts, answers_input, answers_nothing, answers_reply, answers_alike, denies, refuses_alike, refuses_so, tells_refused, unrefused}
