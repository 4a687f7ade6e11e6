-- The laws of objects and layouts that proofs above cite, by their subject.

-- A layout can be linked or has one refusal, never both.
pub use Rattle.m88_link.proofs.OneRefusal.{not_both, one_refusal, one_verdict as one_layout_verdict}
-- A text has one list of sound objects or one first fault.
pub use Rattle.m88_link.proofs.OneText.{one_verdict as one_text_verdict}
-- the text of objects is read as these objects
pub use Rattle.m88_link.proofs.Judged.{written_read}
-- Sizes: the layout of sound objects is too large where their bytes are too many.
pub use Rattle.m88_link.proofs.Extents.{too_large_is}
-- Where sound objects stand: each is sound there, and where their sections are disjoint no address has bytes of two.
pub use Rattle.m88_link.proofs.Rooms.{all_sound, alone_is}
-- runs that stand apart have no address twice, and such runs with the same bytes have as many
pub use Rattle.m88_link.proofs.Counted.{alone_apart, same_count}
-- The forced layout: objects without some of their relocations stand where they do, and define the same.
pub use Rattle.m88_link.proofs.Forced.{base_same, forced_globals, value_same}
-- Symbols: parts that repeat no name behind each other repeat none together.
pub use Rattle.m88_link.proofs.Parts.{repeats_none}
-- Helps of proofs: where what lists have is the same of each element that was changed, it is the same of all.
pub use Rattle.m88_link.proofs.Forced.{all_same}
-- what holds of all elements of joined lists holds of those of the first
pub use Rattle.m88_link.proofs.Walks.{front_of as all_of_front}
