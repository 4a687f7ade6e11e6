-- Units that the assembler can lay out: every instruction is valid, each fixup has the kind of its operand and waits
-- for a field that is 0, and alignments are 1, 2, 4 or 8.
use Rattle.std.specs.Prelude.{◌≡◌, ◌⊎◌, ◌<◌, ◌^◌, ℕ, pos, length, Option, Some, None}
use Rattle.std.specs.List.{All, sum_by}
use Rattle.m88_base.specs.declared.fixup.Kind.{Kind}
use Rattle.m88_base.specs.declared.fixup.Kind.TheVariants.{Hi16, Lo16, Pc26, Pc16, Abs32}
use Rattle.m88_base.specs.declared.fixup.Fixup.{Fixup}
use Rattle.m88_isa.specs.Instr.{IsValid}
use Rattle.m88_isa.specs.declared.instr.Instr.{Instr}
use Rattle.m88_isa.specs.declared.instr.Instr.TheVariants.{Imm, MemImm, Branch, BranchBit, BranchCond}
use Rattle.m88_parse.specs.declared.unit.Value.{Value}
use Rattle.m88_parse.specs.declared.unit.Value.TheVariants.{Number, Symbol}
use Rattle.m88_parse.specs.declared.unit.Body.{Body}
use Rattle.m88_parse.specs.declared.unit.Body.TheVariants.{Word, Align, Code}
use Rattle.m88_parse.specs.declared.unit.Statement.{Statement}
use Rattle.m88_parse.specs.declared.unit.Module.{Module}
use Rattle.m88_parse.specs.declared.unit.Unit.{Unit as Source}

-- a number, or a symbol of this kind
abbrev pub IsOfKind : Kind → Value → Type 0
IsOfKind kind (Number n) = Unit {0}
IsOfKind kind (Symbol f) = f.kind ≡ kind

-- 1, 2, 4 or 8
abbrev pub IsAlignment : ℕ → Type 0
IsAlignment n = (n ≡ 1) ⊎ ((n ≡ 2) ⊎ ((n ≡ 4) ⊎ (n ≡ 8)))

-- hi16 or lo16
abbrev pub IsHalf : Kind → Type 0
IsHalf kind = (kind ≡ Hi16) ⊎ (kind ≡ Lo16)

-- the field that waits for a symbol is 0, and the fixup has its kind
abbrev pub Waits : Instr → Kind → Type 0
Waits (Imm op d s1 imm) kind = (imm ≡ 0) × IsHalf kind
Waits (MemImm op d s1 imm) kind = (imm ≡ 0) × IsHalf kind
Waits (Branch link delayed words) kind = (words ≡ pos 0) × (kind ≡ Pc26)
Waits (BranchBit set delayed bit s1 words) kind = (words ≡ pos 0) × (kind ≡ Pc16)
Waits (BranchCond delayed mask s1 words) kind = (words ≡ pos 0) × (kind ≡ Pc16)
Waits _ kind = ⊥

-- an instruction has no fixup, or one that its field waits for
abbrev pub IsFixed : Instr → Option Fixup → Type 0
IsFixed instr None = Unit {0}
IsFixed instr (Some f) = Waits instr f.kind

-- what a statement says can be laid out
abbrev pub IsFormedBody : Body → Type 0
IsFormedBody (Word values) = All (IsOfKind Abs32) values
IsFormedBody (Align n) = IsAlignment n
IsFormedBody (Code instr fixup) = IsValid instr × IsFixed instr fixup
IsFormedBody _ = Unit {0}

-- a statement whose body can be laid out
abbrev pub IsFormedStatement : Statement → Type 0
IsFormedStatement x = IsFormedBody x.body

-- a module of such statements
abbrev pub IsFormedModule : Module → Type 0
IsFormedModule m = All IsFormedStatement m.statements

-- a module at least, and fewer than 2 ^ 31 statements in all
pub record IsWellFormed (u : Source) : Type 0 where
  pub some : 0 < length u.modules
  pub few : sum_by (λ m. length m.statements) u.modules < 2 ^ 31
  pub each : All IsFormedModule u.modules
