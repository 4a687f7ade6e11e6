-- The three words of a data transaction ("Control Registers": data unit transaction registers).
use Rattle.m88_base.specs.declared.triple.Triple.{Triple}

-- the words where there is no transaction
abbrev pub no_triple : Triple
no_triple = record { dmt = 0; dmd = 0; dma = 0 }
