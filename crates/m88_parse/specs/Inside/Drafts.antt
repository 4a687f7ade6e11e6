-- The modules of a source as they grow row by row: what a part of the source has come to, and how the rest goes on from
-- there.
use Rattle.std.specs.Prelude.{◌≡◌, ◌⊎◌, ℕ, ◌+◌, List, [], ◌∷◌, ◌++◌, Option, Some, None, Result, Ok, Err, IfErr, OnOk}
use Rattle.std.specs.Option.{unwrap_or}
use Rattle.m88_parse.specs.declared.fault.ParseFault.{ParseFault}
use Rattle.m88_parse.specs.Fault.{out_of_memory}
use Rattle.m88_parse.specs.declared.unit.Statement.{Statement}
use Rattle.m88_parse.specs.declared.unit.Module.{Module}
use Rattle.m88_parse.specs.declared.unit.Unit.{Unit as Source}
use Rattle.m88_parse.specs.Inside.Source.{SourceRow, grouped, main_with, modules_in, rows_of, with_row}

-- the modules that are closed, and the one that is open, if one has begun
pub record Drafted : Type 0 where
  pub closed : List Module
  pub current : Option Module

-- before the first line
abbrev pub nothing_yet : Drafted
nothing_yet = record { closed = []; current = None }

-- a module with more statements behind its own
abbrev pub with_more : Module → List Statement → Module
with_more m xs = record { name = m.name; line = m.line; statements = m.statements ++ xs }

-- the modules of a source whose rest is these rows, by what is closed and what is open before them
abbrev pub modules_with : List Module → Option Module → List SourceRow → List Module
modules_with closed None rows = closed ++ modules_in (grouped rows).0 (grouped rows).1
modules_with closed (Some m) rows = closed ++ with_more m (grouped rows).0 ∷ (grouped rows).1

-- the same by a draft
abbrev pub modules_after : Drafted → List SourceRow → List Module
modules_after d rows = modules_with d.closed d.current rows

-- what is open where a statement comes
abbrev pub begun : Option Module → Module
begun current = unwrap_or current (main_with [])

-- the unit of a source whose rest was read so
abbrev pub leads : Drafted → Result (List SourceRow) ParseFault → Result Source ParseFault
leads d (Ok rows) = Ok (record { modules = modules_after d rows })
leads d (Err e) = Err e

-- rows stand behind others
abbrev pub Follows : Drafted → Drafted → Option SourceRow → Type 0
Follows after before r = (rows : List SourceRow) → modules_after after rows ≡ modules_after before (with_row r rows)

-- a row that was read stands behind others
abbrev pub GoesOn : Drafted → Drafted → Result SourceRow ParseFault → Type 0
GoesOn after before (Ok r) = Follows after before (Some r)
GoesOn after before (Err e) = ⊥

-- a call put what a line says behind the rows of a draft, or answered its fault, or memory ran out
pub record PutsRow {A : Type 0} (before after : Drafted) (result : Result A ParseFault) (row : Result SourceRow ParseFault)
    : Type 0 where
  pub said : OnOk result (GoesOn after before row)
  pub fault : IfErr result (λ e. (e ≡ out_of_memory) ⊎ (row ≡ Err e))

-- a line goes on with the lines behind it
abbrev pub LeadsOn : ℕ → List ℕ → Drafted → Drafted → Type 0
LeadsOn number line after before =
    (lines : List (List ℕ)) → leads after (rows_of (number + 1) lines) ≡ leads before (rows_of number (line ∷ lines))

-- a line ends the source with its fault
abbrev pub EndsWith : ℕ → List ℕ → Drafted → ParseFault → Type 0
EndsWith number line before e = (lines : List (List ℕ)) → leads before (rows_of number (line ∷ lines)) ≡ Err e
