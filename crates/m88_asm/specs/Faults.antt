-- The first statement of a unit that can't be laid out, and in it the first of three reasons: a name that its
-- module has defined before, a place that its words don't take, and too many bytes.
use Rattle.std.specs.Prelude.{◌≡◌, ℕ, ◌+◌, ◌%◌, ◌^◌, ◌==◌, ◌||◌, nat_lt, if◌then◌else◌, List, [], ◌∷◌, ◌++◌, Option, Some, None}
use Rattle.std.specs.Option.{option_map, option_or}
use Rattle.m88_parse.specs.declared.unit.Body.{Body}
use Rattle.m88_parse.specs.declared.unit.Body.TheVariants.{Word, Half, Code}
use Rattle.m88_parse.specs.declared.unit.Module.{Module}
use Rattle.m88_parse.specs.declared.unit.Statement.{Statement}
use Rattle.m88_parse.specs.declared.unit.Unit.{Unit as Source}
use Rattle.m88_base.specs.Image.{most_bytes}
use Rattle.m88_link.specs.Symbols.{Repetition, repeated_after}
use Rattle.m88_link.specs.declared.object.Symbol.{Symbol}
use Rattle.m88_asm.specs.declared.fault.AsmFault.{AsmFault}
use Rattle.m88_asm.specs.declared.fault.AsmKind.TheVariants as kind
use Rattle.m88_asm.specs.Counters.{Located, length_at, offset_of, place_of}
use Rattle.m88_asm.specs.Objects.{lines_in, symbols_of}

-- a repeated definition, told at its place with the line of the first
abbrev pub duplicate_at : Repetition → AsmFault
duplicate_at r = record { line = r.symbol.line; col = r.symbol.col; kind = kind.Duplicate r.symbol.name r.first }

-- the multiple at which a body's words stand: half words at 2, words and instructions at 4
abbrev pub alignment_of : Body → ℕ
alignment_of (Word values) = 4
alignment_of (Half numbers) = 2
alignment_of (Code instr fixup) = 4
alignment_of _ = 1

-- a statement at a place that its words don't take
abbrev pub misplaced_at : ℕ → Statement → Option AsmFault
misplaced_at place x =
    if place % alignment_of x.body == 0 then None
    else Some (record { line = x.line; col = x.col; kind = kind.Alignment })

-- the section would have more than 1,048,576 bytes, or one past 0xFFFFFFFF
abbrev pub too_large_at : ℕ → ℕ → Statement → Option AsmFault
too_large_at offset place x =
    if nat_lt most_bytes (offset + length_at place x.body) || nat_lt (2 ^ 32) (place + length_at place x.body)
    then Some (record { line = x.line; col = x.col; kind = kind.TooLarge })
    else None

-- what a statement at an offset and a place of its section doesn't fit
abbrev pub misfit_at : ℕ → ℕ → Statement → Option AsmFault
misfit_at offset place x = option_or (misplaced_at place x) (too_large_at offset place x)

-- what a statement meets, behind symbols that are defined
abbrev pub fault_in : List Symbol → Located → Option AsmFault
fault_in defined r =
    option_or (option_map duplicate_at (repeated_after defined (symbols_of r)))
    (misfit_at (offset_of r) (place_of r) r.statement)

-- the first fault of statements, behind symbols that are defined
unfoldable pub statements_fault : List Symbol → List Located → Option AsmFault
statements_fault defined [] = None
statements_fault defined (r ∷ rs) = option_or (fault_in defined r) (statements_fault (defined ++ symbols_of r) rs)

-- the first fault of a module
abbrev pub module_fault : Module → Option AsmFault
module_fault m = statements_fault [] (lines_in m)

-- the first fault of modules
abbrev pub modules_fault : List Module → Option AsmFault
modules_fault [] = None
modules_fault (m ∷ ms) = option_or (module_fault m) (modules_fault ms)

-- the first fault of a unit, its modules in order
abbrev pub unit_fault : Source → Option AsmFault
unit_fault u = modules_fault u.modules

-- the unit is accepted by the assembler: no statement meets a fault
abbrev pub IsAssembled : Source → Type 0
IsAssembled u = unit_fault u ≡ None
