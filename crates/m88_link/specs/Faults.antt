-- Memory that ran out as a fault of the linker, which no layout has: line 0 and column 0.
use Rattle.m88_link.specs.declared.fault.LinkFault.{LinkFault}
use Rattle.m88_link.specs.declared.fault.LinkKind.TheVariants.{Memory}

-- memory ran out, which has no place
abbrev pub memory_fault : LinkFault
memory_fault = record { line = 0; col = 0; kind = Memory }
