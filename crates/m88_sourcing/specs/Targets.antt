-- What the branches of a source mean: each names its target.
use Rattle.std.specs.Prelude.{◌≡◌, ℕ, ℤ, pos, List, Option, Some, Contains}
use Rattle.m88_base.specs.declared.fixup.Fixup.{Fixup}
use Rattle.m88_base.specs.Image.{ProgramImage}
use Rattle.m88_isa.specs.declared.instr.Instr.{Instr}
use Rattle.m88_isa.specs.declared.instr.Instr.TheVariants as instr
use Rattle.m88_parse.specs.declared.unit.Body.TheVariants.{Code}
use Rattle.m88_parse.specs.declared.unit.Module.{Module}
use Rattle.m88_parse.specs.declared.unit.Unit.{Unit as Source}
use Rattle.m88_link.specs.Bases.{Placement}
use Rattle.m88_link.specs.Symbols.{symbol_meaning}
use Rattle.m88_asm.specs.Counters.{Located}
use Rattle.m88_asm.specs.Objects.{lines_in, symbols_in}
use Rattle.m88_asm.specs.Units.{address_in, base_in, based, unit_layout}
use Rattle.m88_sourcing.specs.Code.{IsCode, HoldsInstruction}
use Rattle.m88_sourcing.specs.Flow.{branch_target}
use Rattle.m88_sourcing.specs.Labels.{label_of}
use Rattle.m88_sourcing.specs.Said.{Said}

-- an instruction with another count of words, where it is a branch
abbrev pub counting : ℤ → Instr → Instr
counting words (instr.Branch link delayed old) = instr.Branch link delayed words
counting words (instr.BranchBit set delayed bit s1 old) = instr.BranchBit set delayed bit s1 words
counting words (instr.BranchCond delayed mask s1 old) = instr.BranchCond delayed mask s1 words
counting words i = i

-- what a name means in a module of a unit
abbrev pub meaning_in : Source → Placement Module → List ℕ → Option ℕ
meaning_in unit m name = symbol_meaning (unit_layout unit).globals (base_in m) (symbols_in m.part) name

-- the branch at an address is a statement of the unit whose count of words waits for a name, with nothing added to it,
-- and the name means the target
pub record NamesTarget (unit : Source) (a : ℕ) (i : Instr) (t : ℕ) : Type 0 where
  pub placed : Placement Module
  pub row : Located
  pub name : Fixup
  pub in_unit : Contains (based unit) placed
  pub in_module : Contains (lines_in placed.part) row
  pub stands : address_in placed row ≡ a
  pub waits : row.statement.body ≡ Code (counting (pos 0) i) (Some name)
  pub symbol : name.symbol ≡ label_of t
  pub alone : name.addend ≡ 0
  pub means : meaning_in unit placed name.symbol ≡ Some t

-- so it is with every branch that is code
abbrev pub NamesItsTargets : ProgramImage → Said → Source → Type 0
NamesItsTargets image said unit =
    (a : ℕ) (i : Instr) (t : ℕ) → IsCode image said a → HoldsInstruction image a i → branch_target a i ≡ Some t
    → NamesTarget unit a i t
