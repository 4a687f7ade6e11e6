-- The laws of instructions, their programs and their words that proofs above cite, by their subject.

-- Words: the word of a valid instruction is below 2^32.
pub use Rattle.m88_isa.proofs.Words.{word_small}
-- the codes of mnemonics end below their fields, and a width and the low bits of an offset lie in theirs
pub use Rattle.m88_isa.proofs.Words.{bit_most, imm_most, lda_most, low16_below, mem_most, reg_most, width_below}
-- the mnemonic of a spelling is the one that is spelled so, that of a name is spelled so, and from_text answers it
pub use Rattle.m88_isa.proofs.Spelling.{settled, spelled_once, spells}
-- Programs of images: each is a program, and its instruction at a word is the one that the word says.
pub use Rattle.m88_isa.proofs.ImageProgram.{instruction_at_word, program_of_image}
-- Histories: each state stands at words, and behind a branch without a delay slot goes straight on.
pub use Rattle.m88_isa.proofs.AtWords.{state_straight, state_words}
-- so many instructions make at most twice as many transactions
pub use Rattle.m88_isa.proofs.Counted.{twice_at_most}
-- what a turn of a program does fits the data unit, and a taken trap waits for an empty one
pub use Rattle.m88_isa.proofs.Turns.{TurnFits, listed_recorded, traps_wait, turn_fits}
-- Accesses of an instruction: at most two, as many as are counted, each at a multiple of its size.
pub use Rattle.m88_isa.proofs.Plans.{at_most_two, rounded_fits, touches_counted}
-- the words of an access are valid and tell it
pub use Rattle.m88_isa.proofs.Told.{told_of, valid_of}
-- Memory in words: it holds bytes, and a load, a store, a turn and a whole history do to words what they do to bytes.
pub use Rattle.m88_isa.proofs.InWords.{bus_of_append, cells_bus, state_agrees, state_bus, state_bytes, touch_loads}
pub use Rattle.m88_isa.proofs.InWords.{touch_stores, touches_bytes, turn_agrees}
-- it holds bytes at the opening, and still behind a store and behind a turn
pub use Rattle.m88_isa.proofs.InWords.{byte_stored, opening_bytes, turn_bytes}
-- the words that change between two memories: a word that is another comes last, and one that is the same adds nothing
pub use Rattle.m88_isa.proofs.Changed.{other_among, same_among, same_word_among}
-- Pending accesses: no two load one register, also behind those that are issued.
pub use Rattle.m88_isa.proofs.Apart.{issue_stays_apart}
-- a load makes its register wait when it is issued and frees it when it is answered; a store changes nothing of that
pub use Rattle.m88_isa.proofs.Apart.{loaded_first, loaded_last, stored_first, stored_last}
-- a register that doesn't wait keeps its word, as r0 and numbers from 32 on, which never wait; and what is written at
-- once can be written before they are answered
pub use Rattle.m88_isa.proofs.Late.{beyond_waits_not, late_change, r0_waits_not, same_after_accesses}
-- an instruction that nothing holds means beside them what it means behind them, and writes no register that waits;
-- nothing is held while nothing is pending
pub use Rattle.m88_isa.proofs.Held.{meaning_seen, nothing_held, written_waits_not}
-- Helps of proofs: the least number that passes a test, or none, and a fact by the two values of a test.
pub use Rattle.m88_isa.proofs.Held.{none_from, none_passes, some_from}
pub use Rattle.m88_isa.proofs.Alone.{by_test}
-- two tests don't both hold where the second fails, and where both hold, each does
pub use Rattle.m88_isa.proofs.Held.{first_of, no_second, second_of}
