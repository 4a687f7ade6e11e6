-- What a call that takes memory answers, and why a source has no unit.
use Rattle.std.specs.Prelude.{◌≡◌, ◌⊎◌, ℕ, List, Result, Ok, Err, codes}
use Rattle.m88_parse.specs.declared.fault.ParseFault.{ParseFault}
use Rattle.m88_parse.specs.declared.fault.ParseKind.{ParseKind}
use Rattle.m88_parse.specs.declared.fault.ParseKind.TheVariants.{NotAscii, Syntax, NoSuchName, OutOfRange, Memory}

-- memory ran out, which has no place in a source
abbrev pub out_of_memory : ParseFault
out_of_memory = record { line = 0; col = 0; kind = Memory }

-- what a call returned, seen by view, is what the definition says, or memory ran out
abbrev pub Gives : {X Y : Type 0} → (X → Y) → Result X ParseFault → Result Y ParseFault → Type 0
Gives view (Ok x) read = read ≡ Ok (view x)
Gives view (Err e) read = (e ≡ out_of_memory) ⊎ (read ≡ Err e)

-- why a line can't be cut into tokens
abbrev pub IsCutKind : ParseKind → Type 0
IsCutKind NotAscii = Unit {0}
IsCutKind Syntax = Unit {0}
IsCutKind OutOfRange = Unit {0}
IsCutKind NoSuchName = ⊥
IsCutKind Memory = ⊥

-- why a source has no unit
abbrev pub IsSourceKind : ParseKind → Type 0
IsSourceKind Memory = ⊥
IsSourceKind _ = Unit {0}

-- the reason of a fault in the words of a refused line
unfoldable pub reason : ParseKind → List ℕ
reason NotAscii = codes "not ascii"
reason Syntax = codes "syntax"
reason NoSuchName = codes "no such name"
reason OutOfRange = codes "out of range"
reason Memory = codes "out of memory"
