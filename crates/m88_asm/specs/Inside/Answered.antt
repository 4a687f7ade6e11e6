-- What is answered for a unit that is to be linked.
use Rattle.std.specs.Prelude.{ℕ, Option, Result, IfErr, IfOk, OnOk}
use Rattle.m88_base.specs.Image.{ProgramImage, byte_at}
use Rattle.m88_isa.specs.ImageProgram.{IsInstructionAt}
use Rattle.m88_isa.specs.declared.instr.Instr.{Instr}
use Rattle.m88_link.specs.Linked.{IsLinked}
use Rattle.m88_parse.specs.declared.unit.Unit.{Unit as Source}
use Rattle.m88_asm.specs.Accepted.{IsAcceptedUnit, IsUnitFault}
use Rattle.m88_asm.specs.Images.{IsUnitImage, IsUnitInstruction}
use Rattle.m88_asm.specs.Units.{unit_layout}
use Rattle.m88_asm.specs.declared.fault.UnitFault.{UnitFault}

-- a unit is accepted and its image is answered, with its instructions where they are placed, or its fault, or that
-- memory ran out
pub record AnswersUnit (u : Source) (result : Result ProgramImage UnitFault) : Type 0 where
  pub image : IfOk result (IsUnitImage u)
  pub instructions : IfOk result (λ image. (a : ℕ) (instruction : Option Instr) → IsUnitInstruction u a instruction
      → IsInstructionAt (byte_at image) a instruction)
  pub linked : IfOk result (IsLinked (unit_layout u))
  pub accepted : OnOk result (IsAcceptedUnit u)
  pub fault : IfErr result (IsUnitFault u)
