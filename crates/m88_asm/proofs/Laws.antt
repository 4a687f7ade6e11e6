-- The laws of units, their objects and their images that proofs above cite, by their subject.

-- A unit is accepted or has one first fault.
pub use Rattle.m88_asm.proofs.OneUnit.{one_verdict as one_unit_verdict}
-- Images: the sections of modules have at each address what their statements give, and a byte that one gives is found.
unfoldable pub use Rattle.m88_asm.proofs.Imaging.{Has}
pub use Rattle.m88_asm.proofs.Imaging.{has_left, has_right, run_found, runs_law}
-- The layout of a unit and that of its objects have the same extents, globals and spots.
pub use Rattle.m88_asm.proofs.Composing.{extents_law, globals_law, spots_law}
-- the objects stand where their modules do, and so do the sections of each
pub use Rattle.m88_asm.proofs.Composing.{all_stood, placement, same_base}
-- Objects of a unit: they are sound, and their text is that of no others.
pub use Rattle.m88_asm.proofs.UnitSound.{modules_sound}
pub use Rattle.m88_asm.proofs.Layouts.{one_text}
-- Modules: each symbol of an accepted unit can be replaced, and statements that are all formed are formed one by one.
pub use Rattle.m88_asm.proofs.Composing.{CanFill, EachBased, formed}
pub use Rattle.m88_asm.proofs.Reaching.{each_fills}
-- a statement has as many bytes filled in as are counted
pub use Rattle.m88_asm.proofs.Relocating.{AllFormed, AreInReach, length-filled_bytes}
-- statements without a fault: the first has none and the others have none
pub use Rattle.m88_asm.proofs.Sounding.{first_parts}
-- as of any two options neither is there, where their first is none; a value of the first is that of one of them, and an
-- option is not both none and some
pub use Rattle.m88_asm.proofs.Assembling.{none_of_both}
pub use Rattle.m88_asm.proofs.Imaging.{either_some, some_none}
-- a test that would give a fault fails where there is none
pub use Rattle.m88_asm.proofs.Assembling.{no_fault}
-- Sources: one is accepted for assembling, or for linking too, or has one refusal, behind other lines of an input too.
pub use Rattle.m88_asm.proofs.SourceVerdicts.{not_linked, one_assembly_verdict, one_program_verdict, program_or_refusal, same_program_refusal}
-- one that is accepted has one program in each mode
pub use Rattle.m88_asm.proofs.UnitPrograms.{HasProgram, one_source_program, same_program, source_program}
-- it has one image, and the program that an image holds which holds its unit
pub use Rattle.m88_asm.proofs.HeldUnits.{Held, accepted_source, held_by, holds_by_image, holds_of_same, holds_unit, one_source_image}
-- Several sources in one input: it has one verdict, and what stands behind its lines is sources in one way
pub use Rattle.m88_asm.proofs.SeveralSources.{StandBefore, last_before, one_list, one_more_before, one_verdict as one_several_verdict, too_many}
-- images that hold them hold their programs, which are theirs alone
pub use Rattle.m88_asm.proofs.SeveralPrograms.{Shares, all_programs, as_many, hold_more, hold_none, program_held, program_mode, programs_count, same_programs, shares_by}
-- Texts of objects: one can be linked or has one refusal, it has one image, and that of a source's objects links as the
-- source does.
pub use Rattle.m88_asm.proofs.LinkedTexts.{LinksAlike, links_alike, one_image_of, one_linking_verdict}
