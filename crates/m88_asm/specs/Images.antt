-- The image and the program of a unit: the bytes that its statements give at their addresses, its start, and the
-- instruction that is placed at an address.
use Rattle.std.specs.Prelude.{◌≡◌, ◌⊎◌, ℕ, ◌==◌, if◌then◌else◌, List, [], ◌∷◌, map, flat_map, Option, None, Some, IsSome}
use Rattle.std.specs.Option.{option_or}
use Rattle.m88_base.specs.Image.{IsImage, ProgramImage, byte_at}
use Rattle.m88_base.specs.Placed.{Placed, byte_among}
use Rattle.m88_isa.specs.ImageProgram.{IsInstructionAt}
use Rattle.m88_isa.specs.Machine.{Program}
use Rattle.m88_isa.specs.declared.instr.Instr.{Instr}
use Rattle.m88_parse.specs.declared.unit.Body.{Body}
use Rattle.m88_parse.specs.declared.unit.Body.TheVariants.{Code}
use Rattle.m88_parse.specs.declared.unit.Unit.{Unit as Source}
use Rattle.m88_link.specs.Linked.{start_address}
use Rattle.m88_link.specs.declared.object.Symbol.{Symbol}
use Rattle.m88_asm.specs.Counters.{Located}
use Rattle.m88_asm.specs.Filled.{resolved}
use Rattle.m88_asm.specs.Objects.{lines_in}
use Rattle.m88_link.specs.Bases.{Placement}
use Rattle.m88_parse.specs.declared.unit.Module.{Module}
use Rattle.m88_asm.specs.Units.{address_in, based, bytes_of, unit_layout, value_in_module}

-- the bytes of a statement, its symbols replaced, from its address on
abbrev pub run_of : List Symbol → Placement Module → Located → Placed
run_of globals b r = record { at = address_in b r; bytes = bytes_of globals b r }

-- the bytes of the statements of a module
abbrev pub runs_in : List Symbol → Placement Module → List Placed
runs_in globals b = map (run_of globals b) (lines_in b.part)

-- the byte that the statements of a unit give at an address
abbrev pub unit_byte : Source → ℕ → Option ℕ
unit_byte u = byte_among (flat_map (runs_in (unit_layout u).globals) (based u))

-- the address at which a unit starts
abbrev pub unit_start : Source → ℕ
unit_start u = start_address (unit_layout u).globals

-- the image of a unit: the bytes that its statements give, no others, and its start
pub record IsUnitImage (u : Source) (image : ProgramImage) : Type 0 where
  pub is_image : IsImage image
  pub bytes : (a : ℕ) → byte_at image a ≡ unit_byte u a
  pub start : image.start ≡ unit_start u

-- the instruction that a body is at an address
abbrev pub code_in : (List ℕ → ℕ) → ℕ → Body → Option Instr
code_in value address (Code instr fixup) = Some (resolved value address instr fixup)
code_in value address _ = None

-- the instruction of a statement that stands at an address
abbrev pub code_at : List Symbol → Placement Module → ℕ → Located → Option Instr
code_at globals b address r =
    if address_in b r == address then code_in (value_in_module globals b) (address_in b r) r.statement.body else None

-- the first that is found
abbrev pub first_of : {A B : Type 0} → (A → Option B) → List A → Option B
first_of find_in [] = None
first_of find_in (x ∷ xs) = option_or (find_in x) (first_of find_in xs)

-- the instruction of a statement of a module at an address
abbrev pub module_code : List Symbol → ℕ → Placement Module → Option Instr
module_code globals address b = first_of (code_at globals b address) (lines_in b.part)

-- the instruction statement that is placed at an address, its symbol replaced
abbrev pub placed_instruction : Source → ℕ → Option Instr
placed_instruction u address = first_of (module_code (unit_layout u).globals address) (based u)

-- the instruction at an address of a unit: the one that is placed there; where none is, the one that the four bytes
-- there are the word of, or none
abbrev pub IsUnitInstruction : Source → ℕ → Option Instr → Type 0
IsUnitInstruction u address instruction =
    (IsSome instruction × (placed_instruction u address ≡ instruction))
    ⊎ ((placed_instruction u address ≡ None) × IsInstructionAt (unit_byte u) address instruction)

-- the program of a unit: its bytes, its start, and at each address the instruction there
pub record IsUnitProgram (u : Source) (p : Program) : Type 0 where
  pub start : p.start ≡ unit_start u
  pub bytes : (a : ℕ) → p.byte a ≡ unit_byte u a
  pub instructions : (a : ℕ) → IsUnitInstruction u a (p.instruction a)
