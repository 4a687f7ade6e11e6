-- What a call gives that may run out of memory.
use Rattle.std.specs.Prelude.{Result, Ok, Err, ◌≡◌, ◌⊎◌}
use Rattle.m88_srec.specs.declared.fault.SrecFault.{SrecFault}
use Rattle.m88_srec.specs.declared.fault.SrecKind.TheVariants.{Memory}

-- memory ran out, which has no line
abbrev pub no_memory : SrecFault
no_memory = record { line = 0; kind = Memory }

-- what a call returned, seen by view, is what is said, or memory ran out
abbrev pub GivesVerdict : {X Y : Type 0} → (X → Y) → Result X SrecFault → Result Y SrecFault → Type 0
GivesVerdict view (Ok x) said = said ≡ Ok (view x)
GivesVerdict view (Err fault) said = (fault ≡ no_memory) ⊎ (said ≡ Err fault)
