-- The laws of listings and of the texts of instructions that proofs above cite, by their subject.

-- An image has one listing, and that writes it again.
pub use Rattle.m88_disasm.proofs.OneListing.{one_listing}
pub use Rattle.m88_disasm.proofs.Again.{listing_again}
-- lines that each begin with an equal line are equal where the others are
pub use Rattle.m88_disasm.proofs.OneListing.{one_more}
-- Instructions whose text is a short line that says them: of two registers and a number, of three registers, and of a
-- register and a place.
pub use Rattle.m88_disasm.proofs.PlainInstructions.{IsPlain, plain_immediate, plain_memory, plain_registers}
-- lines that are such instructions are a source that is accepted, and short
pub use Rattle.m88_disasm.proofs.PlainSources.{plain_length, plain_source}
-- what a line, its parts and its statement are, for those that write lines of other kinds
pub use Rattle.m88_disasm.proofs.Parts.{AreGood, Part, are_parted, are_printed, is_printed, name_is_printed, part_hex, part_mark, part_name, part_number, part_text, parts_text, piece_of, pieces, word_name, word_part_good}
pub use Rattle.m88_disasm.proofs.Spoken.{ConditionPart, Spoken, SpokenAs, comma, comma_good, condition_part, reg_good, reg_part, said_byte, said_instr, said_place, said_start, start_symbol, says_body, says_waiting, spoken}
pub use Rattle.m88_disasm.proofs.Forms.{behind}
pub use Rattle.m88_disasm.proofs.Rows.{AreRead, Stated, read_all, read_none, read_one, read_stated, read_unit, stated_behind, unit_is, unit_of}
-- words that fit in 15 bits fit in 25
pub use Rattle.m88_disasm.proofs.Spoken.{wider}
-- statements that give the bytes of parts and name addresses are a source of these parts
pub use Rattle.m88_disasm.proofs.Given.{Data, Gives, IsUse, Means, Names, PartsData, Sets, a_set, data_behind, more_data, more_parts, no_data, no_parts, no_set}
pub use Rattle.m88_disasm.proofs.Bodies.{ArePieces, gives_byte, gives_instr, pieces_of}
pub use Rattle.m88_disasm.proofs.Accepting.{opened_in, parts_heads}
pub use Rattle.m88_disasm.proofs.Linking.{AreInOrder, RoomsAre, hits_cons, lengths_behind, lengths_cons, lengths_of, parts_lengths, room, rooms_are, rooms_count}
pub use Rattle.m88_disasm.proofs.Naming.{AreLow, AreOnce, HasName, IsNew, MeanOne, names_in, names_of}
pub use Rattle.m88_disasm.proofs.Built.{IsWritten, accepted, bases, bytes_are, empty_first, heads_are, main, means_all, start_is, stood}
pub use Rattle.m88_disasm.proofs.Standing.{Bases, Empty, Fresh, Stands, address_is, bytes_behind, empty_behind, fresh_behind, located_cons, located_none, none_in, opens_part, stands_behind}
