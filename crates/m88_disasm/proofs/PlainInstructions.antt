-- Instructions whose text is a short line by itself that says them.
use Rattle.std.proofs.Common.{◌≡◌, ℕ, ◌^◌, ◌<◌, ◌≤◌, List, [], ◌∷◌, ◌++◌, length, refl, arith, length-append, decimal}
use Rattle.std.specs.Prelude.{None}
use Rattle.std.proofs.lemmas.Fmt.{length-decimal-le}
use Rattle.m88_base.specs.Reg.{number_of}
use Rattle.m88_base.specs.declared.reg.Reg.{Reg}
use Rattle.m88_isa.specs.Instr.{IsValid}
use Rattle.m88_isa.specs.Names.{imm_name, mem_name, reg_name}
use Rattle.m88_isa.specs.declared.instr.ImmOp.{ImmOp}
use Rattle.m88_isa.specs.declared.instr.Instr.{Instr}
use Rattle.m88_isa.specs.declared.instr.Instr.TheVariants.{Imm, MemImm, Regs}
use Rattle.m88_isa.specs.declared.instr.MemOp.{MemOp}
use Rattle.m88_isa.specs.declared.instr.RegOp.{RegOp}
use Rattle.m88_parse.specs.declared.unit.Body.TheVariants.{Code}
use Rattle.m88_disasm.specs.Read.{said_body}
use Rattle.m88_disasm.specs.Text.{instr_text, register_name, spelled}
use Rattle.m88_disasm.proofs.Names.{imm_short, mem_short, reg_short}

-- an instruction whose text is a line by itself, of at most 25 bytes, that says it and waits for no symbol
pub record IsPlain (i : Instr) : Type 0 where
  pub valid : IsValid i
  pub said : said_body i ≡ Code i None
  pub short : length (instr_text i) ≤ 25

-- three operands, of which two are registers
register_short : (r : Reg) → length (register_name r) ≤ 3
register_short r =
    let below : number_of r < 32 = r.in_range in
    let digits = length-decimal-le 2 (number_of r) (omega arith) (omega arith) (omega arith) in omega (arith, digits)

number_short : (n : ℕ) → n < 2 ^ 16 → length (decimal n) ≤ 5
number_short n below = length-decimal-le 5 n (omega arith) (omega arith) (omega arith)

line_short : (name : List ℕ) (d s : Reg) (last : List ℕ) → length name ≤ 11 → length last ≤ 5
    → length (spelled name (register_name d ∷ register_name s ∷ last ∷ [])) ≤ 25
line_short name d s last named few =
    let four = length-append last [] in
    let three = length-append (register_name s) (44 ∷ (last ++ [])) in
    let two = length-append (register_name d) (44 ∷ (register_name s ++ 44 ∷ (last ++ []))) in
    let one = length-append name (32 ∷ (register_name d ++ 44 ∷ (register_name s ++ 44 ∷ (last ++ [])))) in
    let first = register_short d in
    let second = register_short s in
    omega (arith, one, two, three, four, named, first, second)

-- of two registers and a number, of three registers, and of a register and a number at a place
pub plain_immediate : (op : ImmOp) (b c : Reg) (v : ℕ) → v < 2 ^ 16 → IsPlain (Imm op b c v)
unfolding instr_text
plain_immediate op b c v below =
    record { valid = below; said = refl; short = line_short (imm_name op) b c (decimal v) (imm_short op) (number_short v below) }

pub plain_registers : (op : RegOp) (b c d : Reg) → IsPlain (Regs op b c d)
unfolding instr_text
plain_registers op b c d =
    let few = register_short d in
    record { valid = tt; said = refl; short = line_short (reg_name op) b c (register_name d) (reg_short op) (omega (arith, few)) }

pub plain_memory : (op : MemOp) (b c : Reg) (v : ℕ) → v < 2 ^ 16 → IsPlain (MemImm op b c v)
unfolding instr_text
plain_memory op b c v below =
    record { valid = below; said = refl; short = line_short (mem_name op) b c (decimal v) (mem_short op) (number_short v below) }
