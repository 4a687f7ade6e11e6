-- The names of addresses, and the texts of words that are code: a branch names its target.
use Rattle.std.specs.Prelude.{◌≡◌, ◌⊎◌, ℕ, ◌++◌, List, [], ◌∷◌, Option, Some, None, Contains, IsSome, codes, decimal, map}
use Rattle.m88_base.specs.Hex.{hex8}
use Rattle.m88_base.specs.Image.{ProgramImage, byte_at}
use Rattle.m88_isa.specs.Address.{word_address}
use Rattle.m88_isa.specs.declared.instr.Instr.{Instr}
use Rattle.m88_isa.specs.declared.instr.Instr.TheVariants as instr
use Rattle.m88_isa.specs.Names.{branch_bit_name, branch_cond_name, branch_name}
use Rattle.m88_disasm.specs.Text.{condition, instr_text, register_name, spelled}
use Rattle.m88_sourcing.specs.Code.{IsCode, HoldsInstruction}
use Rattle.m88_sourcing.specs.Flow.{branch_target}
use Rattle.m88_sourcing.specs.Said.{Said}

-- the name of an address: L and its eight digits
abbrev pub label_of : ℕ → List ℕ
label_of a = codes "L" ++ hex8 a

-- the line of a label alone
abbrev pub label_line : List ℕ → List ℕ
label_line name = name ++ codes ":"

-- the instruction at an address branches to another
abbrev pub BranchesTo : ProgramImage → ℕ → ℕ → Type 0
BranchesTo image a t = (i : Instr) × HoldsInstruction image a i × (branch_target a i ≡ Some t)

-- a word that is code branches to an address
abbrev pub IsTarget : ProgramImage → Said → ℕ → Type 0
IsTarget image said t = (from : ℕ) × IsCode image said from × BranchesTo image from t

-- code begins at an address as was said: it is the word of an entry, and it is code
abbrev pub IsEntry : ProgramImage → Said → ℕ → Type 0
IsEntry image said a = Contains (map word_address said.entries) a × IsCode image said a

-- an address has a label: a byte is there, and a branch leads to it, or code begins there as was said
abbrev pub HasLabel : ProgramImage → Said → ℕ → Type 0
HasLabel image said a = IsSome (byte_at image a) × (IsTarget image said a ⊎ IsEntry image said a)

-- the text of a branch that names its target
abbrev pub named_text : Instr → List ℕ → List ℕ
named_text (instr.Branch link delayed words) name = spelled (branch_name link delayed) (name ∷ [])
named_text (instr.BranchBit set delayed bit s1 words) name =
    spelled (branch_bit_name set delayed) (decimal bit ∷ register_name s1 ∷ name ∷ [])
named_text (instr.BranchCond delayed mask s1 words) name =
    spelled (branch_cond_name delayed) (condition mask ∷ register_name s1 ∷ name ∷ [])
named_text i name = instr_text i

-- the text of an instruction with such a target, or without one
abbrev pub text_to : Instr → Option ℕ → List ℕ
text_to i (Some t) = named_text i (label_of t)
text_to i None = instr_text i

-- the text of a word that is code
abbrev pub code_text : ℕ → Instr → List ℕ
code_text a i = text_to i (branch_target a i)
