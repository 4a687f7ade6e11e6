-- Memory that ran out as a fault of the assembler: line 0 and column 0.
use Rattle.m88_asm.specs.declared.fault.AsmFault.{AsmFault}
use Rattle.m88_asm.specs.declared.fault.AsmKind.TheVariants.{Memory}

-- memory ran out
abbrev pub memory_ran_out : AsmFault
memory_ran_out = record { line = 0; col = 0; kind = Memory }
