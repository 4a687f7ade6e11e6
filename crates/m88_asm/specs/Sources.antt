-- A source of the assembly language: whether it can be assembled and linked, its image and its program; and where and
-- why it is refused, behind other lines of an input too.
use Rattle.std.specs.Prelude.{ℕ, false, ◌≡◌, ◌+◌, ◌⊎◌, List, Some}
use Rattle.m88_base.specs.Image.{ProgramImage}
use Rattle.m88_base.specs.Refusal.{Refusal}
use Rattle.m88_isa.specs.Machine.{Program}
use Rattle.m88_parse.specs.Fault.{reason}
use Rattle.m88_parse.specs.Language.FirstFaults.{IsFirstFault}
use Rattle.m88_parse.specs.Language.Units.{IsUnit}
use Rattle.m88_parse.specs.declared.fault.ParseFault.{ParseFault}
use Rattle.m88_parse.specs.declared.unit.Unit.{Unit as Source}
use Rattle.m88_link.specs.Reasons.{link_reason}
use Rattle.m88_link.specs.Refusal.{IsRefused}
use Rattle.m88_link.specs.declared.fault.LinkFault.{LinkFault}
use Rattle.m88_link.specs.declared.fault.LinkKind.{LinkKind}
use Rattle.m88_link.specs.declared.fault.LinkKind.TheVariants as link
use Rattle.m88_link.specs.declared.object.Object.{Object}
use Rattle.m88_asm.specs.Accepted.{IsAcceptedUnit}
use Rattle.m88_asm.specs.Faults.{IsAssembled, unit_fault}
use Rattle.m88_asm.specs.Images.{IsUnitImage, IsUnitProgram}
use Rattle.m88_asm.specs.Objects.{objects_of}
use Rattle.m88_asm.specs.Reasons.{asm_reason}
use Rattle.m88_asm.specs.Units.{unit_layout}
use Rattle.m88_asm.specs.declared.fault.AsmFault.{AsmFault}
use Rattle.m88_asm.specs.declared.fault.AsmKind.{AsmKind}
use Rattle.m88_asm.specs.declared.fault.AsmKind.TheVariants as asm

-- the source can be assembled: it has a unit, and none of the unit's statements meets a fault
pub record IsAssemblySource (source : List ℕ) : Type 0 where
  pub unit : Source
  pub is_unit : IsUnit source unit
  pub is_assembled : IsAssembled unit

-- the source can be assembled and linked: it has a unit, and that is accepted
pub record IsProgramSource (source : List ℕ) : Type 0 where
  pub unit : Source
  pub is_unit : IsUnit source unit
  pub is_accepted : IsAcceptedUnit unit

-- the objects are those of the source's unit, whose statements meet no fault
pub record AreSourceObjects (source : List ℕ) (objects : List Object) : Type 0 where
  pub unit : Source
  pub is_unit : IsUnit source unit
  pub is_assembled : IsAssembled unit
  pub objects_are : objects ≡ objects_of unit

-- the image is that of the source's unit
pub record IsSourceImage (source : List ℕ) (image : ProgramImage) : Type 0 where
  pub unit : Source
  pub is_unit : IsUnit source unit
  pub is_image : IsUnitImage unit image

-- the program is that of the source's unit: its bytes, its start, and its instructions where they are placed
pub record IsSourceProgram (source : List ℕ) (p : Program) : Type 0 where
  pub unit : Source
  pub is_unit : IsUnit source unit
  pub is_program : IsUnitProgram unit p

-- this holds of the source's program, MXM clear
pub record HoldsOfProgram (source : List ℕ) (Holds : Program → Type 0) : Type 0 where
  pub program : Program
  pub of_source : IsSourceProgram source program
  pub mode : program.mxm ≡ false
  pub holds : Holds program

-- why a statement can't be laid out, of a source behind n lines: the first definition of a name stands behind them too
abbrev pub asm_kind_behind : ℕ → AsmKind → AsmKind
asm_kind_behind n (asm.Duplicate name first) = asm.Duplicate name (n + first)
asm_kind_behind n kind = kind

-- why a layout has no image, behind n lines
abbrev pub link_kind_behind : ℕ → LinkKind → LinkKind
link_kind_behind n (link.Duplicate name first) = link.Duplicate name (n + first)
link_kind_behind n kind = kind

-- the refusal for a fault of the lines of a source that stands behind n lines of its input, none where it is the whole
-- input: each line is counted from the first of the input
abbrev pub parse_refusal : ℕ → ParseFault → Refusal
parse_refusal n fault = record { line = n + fault.line; column = fault.col; reason = reason fault.kind }

-- for one of a unit's statements
abbrev pub asm_refusal : ℕ → AsmFault → Refusal
asm_refusal n fault =
    record { line = n + fault.line; column = fault.col; reason = asm_reason (asm_kind_behind n fault.kind) }

-- and for one of a unit's layout; the line 1 of a layout that is too large is counted on like any other
abbrev pub link_refusal : ℕ → LinkFault → Refusal
link_refusal n fault =
    record { line = n + fault.line; column = fault.col; reason = link_reason (link_kind_behind n fault.kind) }

-- a source behind n lines is refused at the first fault of its lines
pub record IsUnread (n : ℕ) (source : List ℕ) (r : Refusal) : Type 0 where
  pub fault : ParseFault
  pub is_first : IsFirstFault source fault
  pub refusal : r ≡ parse_refusal n fault

-- where it has a unit, at the first fault of the unit's statements
pub record IsUnassembled (n : ℕ) (source : List ℕ) (r : Refusal) : Type 0 where
  pub unit : Source
  pub is_unit : IsUnit source unit
  pub fault : AsmFault
  pub is_first : unit_fault unit ≡ Some fault
  pub refusal : r ≡ asm_refusal n fault

-- and where these have none, at the refusal of the unit's layout
pub record IsUnlinked (n : ℕ) (source : List ℕ) (r : Refusal) : Type 0 where
  pub unit : Source
  pub is_unit : IsUnit source unit
  pub is_assembled : IsAssembled unit
  pub fault : LinkFault
  pub is_refused : IsRefused (unit_layout unit) fault
  pub refusal : r ≡ link_refusal n fault

-- a source behind n lines that can't be assembled is refused so
abbrev pub IsRefusedSource : ℕ → List ℕ → Refusal → Type 0
IsRefusedSource n source r = IsUnread n source r ⊎ IsUnassembled n source r

-- and one that can't be assembled and linked
abbrev pub IsRefusedProgram : ℕ → List ℕ → Refusal → Type 0
IsRefusedProgram n source r = IsRefusedSource n source r ⊎ IsUnlinked n source r
