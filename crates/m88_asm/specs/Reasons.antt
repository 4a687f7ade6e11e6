-- The reasons of the assembler's faults, in the words of a refused line (formats: the line that refuses an input).
use Rattle.std.specs.Prelude.{ℕ, List, codes}
use Rattle.m88_base.specs.Refused.{placed_reason}
use Rattle.m88_link.specs.Reasons.{duplicate_reason, link_reason}
use Rattle.m88_asm.specs.declared.fault.UnitFault.{UnitFault}
use Rattle.m88_asm.specs.declared.fault.UnitFault.TheVariants as unit_fault
use Rattle.m88_asm.specs.declared.fault.AsmKind.{AsmKind}
use Rattle.m88_asm.specs.declared.fault.AsmKind.TheVariants as kind

-- the reason of a fault of the assembler
unfoldable pub asm_reason : AsmKind → List ℕ
asm_reason (kind.Duplicate name first) = duplicate_reason name first
asm_reason kind.Alignment = codes "alignment"
asm_reason kind.TooLarge = codes "too large"
asm_reason kind.Memory = codes "out of memory"

-- a fault of a unit, behind the place that it is told at
unfoldable pub unit_fault_text : UnitFault → List ℕ
unit_fault_text (unit_fault.Asm e) = placed_reason e.line e.col (asm_reason e.kind)
unit_fault_text (unit_fault.Link e) = placed_reason e.line e.col (link_reason e.kind)
