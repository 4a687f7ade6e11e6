-- The candidate of a valid instruction's word is that instruction. A lemma a form, in the order of the word table.
use Rattle.std.proofs.Common.{ℕ, ℤ, pos, negsuc, Bool, true, false, ◌≡◌, ◌+◌, ◌*◌, ◌/◌, ◌%◌, ◌^◌, ◌<◌, ◌≤◌, refl, sym, ◌∙◌, ap, arith, if◌then◌else◌}
use Rattle.std.proofs.lemmas.Bool.Decides.{nat_tests}
use Rattle.m88_base.specs.declared.reg.Reg.{Reg}
use Rattle.m88_base.specs.Reg.{number_of, reg_of}
use Rattle.m88_base.proofs.Laws.{same_reg}
use Rattle.m88_isa.proofs.Laws.{bit_most, imm_most, lda_most, low16_below, mem_most, reg_most, width_below}
use Rattle.m88_isa.specs.Instr.{IsValid, IsWidth, FitsWords}
use Rattle.m88_isa.specs.Word.{word_of, HasOneReading, mem_byte, imm_byte, reg_code, lda_code, bit_code, low16, low26}
use Rattle.m88_isa.specs.declared.instr.ImmOp.{ImmOp}
use Rattle.m88_isa.specs.declared.instr.ImmOp.TheVariants as immop
use Rattle.m88_isa.specs.declared.instr.MemOp.{MemOp}
use Rattle.m88_isa.specs.declared.instr.MemOp.TheVariants as memop
use Rattle.m88_isa.specs.declared.instr.RegOp.{RegOp}
use Rattle.m88_isa.specs.declared.instr.RegOp.TheVariants as regop
use Rattle.m88_isa.specs.declared.instr.LdaSize.{LdaSize}
use Rattle.m88_isa.specs.declared.instr.LdaSize.TheVariants.{Double}
use Rattle.m88_isa.specs.declared.instr.BitOp.{BitOp}
use Rattle.m88_isa.specs.declared.instr.BitOp.TheVariants.{Clr}
use Rattle.m88_isa.specs.declared.instr.Instr.{Instr}
use Rattle.m88_isa.specs.declared.instr.Instr.TheVariants as instr
use Rattle.m88_codec.specs.Inside.Candidate.{
  candidate_of,
  candidate_at,
  register_form,
  literal_form,
  control_form,
  mem_op_at,
  imm_op_at,
  reg_op_at,
  lda_size_at,
  bit_op_at,
  words16,
  words26,
}

-- a word by its opening bits, D, S1 and its low half
split : (h : ℕ) (d s : Reg) (l w : ℕ) → h < 64 → l < 2 ^ 16
    → w ≡ h * 2 ^ 26 + number_of d * 2 ^ 21 + number_of s * 2 ^ 16 + l
    → candidate_of w ≡ candidate_at h d s l (number_of d * 2 ^ 21 + number_of s * 2 ^ 16 + l)
unfolding candidate_of
split h d s l w hh hl e =
    let ed : reg_of (w / 2 ^ 21) ≡ d = same_reg _ _ (omega arith) in
    let es : reg_of (w / 2 ^ 16) ≡ s = same_reg _ _ (omega arith) in
    let eh : w / 2 ^ 26 ≡ h = omega arith in
    let el : w % 2 ^ 16 ≡ l = omega arith in
    let er : w % 2 ^ 26 ≡ number_of d * 2 ^ 21 + number_of s * 2 ^ 16 + l = omega arith in
    cc

-- a word of the register forms
by_registers : (d s : Reg) (c : ℕ) (s2 : Reg) (w : ℕ) → c < 256
    → w ≡ 0xF4 * 2 ^ 24 + number_of d * 2 ^ 21 + number_of s * 2 ^ 16 + (c * 256 + number_of s2)
    → candidate_of w ≡ register_form d s c s2
unfolding candidate_at
by_registers d s c s2 w hc e =
    let es2 : reg_of (c * 256 + number_of s2) ≡ s2 = same_reg _ _ (omega arith) in
    let ec : (c * 256 + number_of s2) / 256 ≡ c = omega arith in
    split 61 d s (c * 256 + number_of s2) w (omega arith) (omega arith) (omega arith) ∙ cc

mem_at : (op : MemOp) (d s : Reg) (imm rest : ℕ) → candidate_at (mem_byte op / 4) d s imm rest ≡ instr.MemImm op d s imm
unfolding candidate_at mem_op_at
mem_at memop.XmemBu d s imm rest = refl
mem_at _ d s imm rest = refl

imm_at : (op : ImmOp) (d s : Reg) (imm rest : ℕ) → candidate_at (imm_byte op / 4) d s imm rest ≡ instr.Imm op d s imm
unfolding candidate_at imm_op_at
imm_at immop.And d s imm rest = refl
imm_at _ d s imm rest = refl

reg_at : (op : RegOp) (d s s2 : Reg) → register_form d s (reg_code op / 256) s2 ≡ instr.Regs op d s s2
unfolding register_form reg_op_at
reg_at regop.And d s s2 = refl
reg_at _ d s s2 = refl

-- the code of a memory mnemonic with its marks
mem_reg_at : (scaled usr : Bool) (op : MemOp) (d s s2 : Reg)
    → register_form d s (mem_byte op + (if scaled then 2 else 0) + (if usr then 1 else 0)) s2 ≡ instr.MemReg op d s s2 scaled usr
unfolding register_form mem_op_at
mem_reg_at true true memop.XmemBu d s s2 = refl
mem_reg_at true true _ d s s2 = refl
mem_reg_at true false memop.XmemBu d s s2 = refl
mem_reg_at true false _ d s s2 = refl
mem_reg_at false true memop.XmemBu d s s2 = refl
mem_reg_at false true _ d s s2 = refl
mem_reg_at false false memop.XmemBu d s s2 = refl
mem_reg_at false false _ d s s2 = refl

lda_at : (size : LdaSize) (d s s2 : Reg) → register_form d s (lda_code size / 256) s2 ≡ instr.Lda size d s s2
unfolding register_form lda_size_at
lda_at Double d s s2 = refl
lda_at _ d s s2 = refl

bit_reg_at : (op : BitOp) (d s s2 : Reg) → register_form d s (bit_code op / 256) s2 ≡ instr.BitReg op d s s2
unfolding register_form bit_op_at
bit_reg_at Clr d s s2 = refl
bit_reg_at _ d s s2 = refl

bit_op_of_code : (op : BitOp) → bit_op_at (bit_code op / 2 ^ 11) ≡ op
unfolding bit_op_at
bit_op_of_code Clr = refl
bit_op_of_code _ = refl

-- the codes are multiples of what stands below them
mem_even : (op : MemOp) → mem_byte op ≡ 4 * (mem_byte op / 4)
mem_even op = grind arith

imm_even : (op : ImmOp) → imm_byte op ≡ 4 * (imm_byte op / 4)
imm_even op = grind arith

reg_even : (op : RegOp) → reg_code op ≡ 256 * (reg_code op / 256)
reg_even op = grind arith

lda_even : (size : LdaSize) → lda_code size ≡ 256 * (lda_code size / 256)
lda_even size = grind arith

bit_even : (op : BitOp) → bit_code op ≡ 2 ^ 11 * (bit_code op / 2 ^ 11)
bit_even op = grind arith

law_mem_imm : (op : MemOp) (d s : Reg) (imm : ℕ) → imm < 2 ^ 16
    → candidate_of (word_of (instr.MemImm op d s imm)) ≡ instr.MemImm op d s imm
law_mem_imm op d s imm v =
    let even = mem_even op in
    let bound = mem_most op in
    split (mem_byte op / 4) d s imm _ (omega arith) v (omega arith) ∙ mem_at op d s imm _

law_imm : (op : ImmOp) (d s : Reg) (imm : ℕ) → imm < 2 ^ 16
    → candidate_of (word_of (instr.Imm op d s imm)) ≡ instr.Imm op d s imm
law_imm op d s imm v =
    let even = imm_even op in
    let bound = imm_most op in
    split (imm_byte op / 4) d s imm _ (omega arith) v (omega arith) ∙ imm_at op d s imm _

law_regs : (op : RegOp) (d s s2 : Reg) → candidate_of (word_of (instr.Regs op d s s2)) ≡ instr.Regs op d s s2
law_regs op d s s2 =
    let even = reg_even op in
    let bound = reg_most op in
    by_registers d s (reg_code op / 256) s2 _ (omega arith) (omega arith) ∙ reg_at op d s s2

law_mem_reg : (op : MemOp) (d s s2 : Reg) (scaled usr : Bool)
    → candidate_of (word_of (instr.MemReg op d s s2 scaled usr)) ≡ instr.MemReg op d s s2 scaled usr
law_mem_reg op d s s2 scaled usr =
    let bound = mem_most op in
    let code : ℕ = mem_byte op + (if scaled then 2 else 0) + (if usr then 1 else 0) in
    by_registers d s code s2 _ (grind arith) (grind arith) ∙ mem_reg_at scaled usr op d s s2

law_lda : (size : LdaSize) (d s s2 : Reg) → candidate_of (word_of (instr.Lda size d s s2)) ≡ instr.Lda size d s s2
law_lda size d s s2 =
    let even = lda_even size in
    let bound = lda_most size in
    by_registers d s (lda_code size / 256) s2 _ (omega arith) (omega arith) ∙ lda_at size d s s2

law_bit_reg : (op : BitOp) (d s s2 : Reg) → candidate_of (word_of (instr.BitReg op d s s2)) ≡ instr.BitReg op d s s2
law_bit_reg op d s s2 =
    let even = bit_even op in
    let bound = bit_most op in
    by_registers d s (bit_code op / 256) s2 _ (omega arith) (omega arith) ∙ bit_reg_at op d s s2

law_find : (ones : Bool) (d s2 : Reg) → candidate_of (word_of (instr.Find ones d s2)) ≡ instr.Find ones d s2
unfolding register_form
law_find true d s2 = by_registers d (reg_of 0) 0xE8 s2 _ (omega arith) (omega arith)
law_find false d s2 = by_registers d (reg_of 0) 0xEC s2 _ (omega arith) (omega arith)

law_jump : (link delayed : Bool) (s2 : Reg)
    → candidate_of (word_of (instr.Jump link delayed s2)) ≡ instr.Jump link delayed s2
unfolding register_form
law_jump true true s2 = by_registers (reg_of 0) (reg_of 0) 0xCC s2 _ (omega arith) (omega arith)
law_jump true false s2 = by_registers (reg_of 0) (reg_of 0) 0xC8 s2 _ (omega arith) (omega arith)
law_jump false true s2 = by_registers (reg_of 0) (reg_of 0) 0xC4 s2 _ (omega arith) (omega arith)
law_jump false false s2 = by_registers (reg_of 0) (reg_of 0) 0xC0 s2 _ (omega arith) (omega arith)

law_bound_reg : (s s2 : Reg) → candidate_of (word_of (instr.BoundReg s s2)) ≡ instr.BoundReg s s2
unfolding register_form
law_bound_reg s s2 = by_registers (reg_of 0) s 0xF8 s2 _ (omega arith) (omega arith)

law_rte : candidate_of (word_of instr.Rte) ≡ instr.Rte
unfolding register_form
law_rte = by_registers (reg_of 0) (reg_of 0) 0xFC (reg_of 0) _ (omega arith) (omega arith)

-- a word of the bit fields with a literal, or of a trap
by_literal : (d s : Reg) (l w : ℕ) → l < 2 ^ 16 → w ≡ 0xF0 * 2 ^ 24 + number_of d * 2 ^ 21 + number_of s * 2 ^ 16 + l
    → candidate_of w ≡ literal_form d s l
unfolding candidate_at
by_literal d s l w hl e = split 60 d s l w (omega arith) hl (omega arith)

law_bit_lit : (op : BitOp) (d s : Reg) (width offset : ℕ) → IsWidth op width → offset < 32
    → candidate_of (word_of (instr.BitLit op d s width offset)) ≡ instr.BitLit op d s width offset
unfolding literal_form
law_bit_lit op d s width offset v u =
    let even = bit_even op in
    let bound = bit_most op in
    let below = width_below op width v in
    let l : ℕ = bit_code op + width * 2 ^ 5 + offset in
    let code : l / 2 ^ 11 ≡ bit_code op / 2 ^ 11 = omega arith in
    let ew : l / 2 ^ 5 % 32 ≡ width = omega arith in
    let eo : l % 32 ≡ offset = omega arith in
    let known = bit_op_of_code op in
    by_literal d s l _ (omega arith) (omega arith) ∙ grind (arith, nat_tests)

law_trap_bit : (set : Bool) (bit : ℕ) (s : Reg) (vector : ℕ) → bit < 32 → vector < 512
    → candidate_of (word_of (instr.TrapBit set bit s vector)) ≡ instr.TrapBit set bit s vector
unfolding literal_form
law_trap_bit true bit s vector v u =
    by_literal (reg_of bit) s (0xD800 + vector) _ (omega arith) (omega arith) ∙ grind (arith, nat_tests)
law_trap_bit false bit s vector v u =
    by_literal (reg_of bit) s (0xD000 + vector) _ (omega arith) (omega arith) ∙ grind (arith, nat_tests)

law_trap_cond : (mask : ℕ) (s : Reg) (vector : ℕ) → mask < 16 → vector < 512
    → candidate_of (word_of (instr.TrapCond mask s vector)) ≡ instr.TrapCond mask s vector
unfolding literal_form
law_trap_cond mask s vector v u =
    by_literal (reg_of mask) s (0xE800 + vector) _ (omega arith) (omega arith) ∙ grind (arith, nat_tests)

-- a word by its opening bits and the other 26
by_rest : (h r w : ℕ) → h < 64 → r < 2 ^ 26 → w ≡ h * 2 ^ 26 + r
    → candidate_of w ≡ candidate_at h (reg_of (w / 2 ^ 21)) (reg_of (w / 2 ^ 16)) (w % 2 ^ 16) r
unfolding candidate_of
by_rest h r w hh hr e =
    let eh : w / 2 ^ 26 ≡ h = omega arith in
    let er : w % 2 ^ 26 ≡ r = omega arith in
    cc

words26_low26 : (z : ℤ) → FitsWords 25 z → words26 (low26 z) ≡ z
words26_low26 (pos n) v = grind (arith, nat_tests)
words26_low26 (negsuc n) v = grind (arith, nat_tests)

words16_low16 : (z : ℤ) → FitsWords 15 z → words16 (low16 z) ≡ z
words16_low16 (pos n) v = grind (arith, nat_tests)
words16_low16 (negsuc n) v = grind (arith, nat_tests)

law_branch : (link delayed : Bool) (z : ℤ) → FitsWords 25 z
    → candidate_of (word_of (instr.Branch link delayed z)) ≡ instr.Branch link delayed z
unfolding candidate_at
law_branch true true z v =
    by_rest 51 (low26 z) _ (omega arith) (omega arith) (omega arith) ∙ ap (instr.Branch true true) (words26_low26 z v)
law_branch true false z v =
    by_rest 50 (low26 z) _ (omega arith) (omega arith) (omega arith) ∙ ap (instr.Branch true false) (words26_low26 z v)
law_branch false true z v =
    by_rest 49 (low26 z) _ (omega arith) (omega arith) (omega arith) ∙ ap (instr.Branch false true) (words26_low26 z v)
law_branch false false z v =
    by_rest 48 (low26 z) _ (omega arith) (omega arith) (omega arith) ∙ ap (instr.Branch false false) (words26_low26 z v)

-- the same number in the place of D, and the same count of words
branch_bit_is : (set delayed : Bool) (bit : ℕ) (s : Reg) (z : ℤ) → bit < 32 → FitsWords 15 z
    → instr.BranchBit set delayed (bit % 32) s (words16 (low16 z)) ≡ instr.BranchBit set delayed bit s z
branch_bit_is set delayed bit s z v u =
    let eb : bit % 32 ≡ bit = omega arith in
    let ez = words16_low16 z u in
    cc

law_branch_bit : (set delayed : Bool) (bit : ℕ) (s : Reg) (z : ℤ) → bit < 32 → FitsWords 15 z
    → candidate_of (word_of (instr.BranchBit set delayed bit s z)) ≡ instr.BranchBit set delayed bit s z
unfolding candidate_at
law_branch_bit true true bit s z v u =
    let bound = low16_below z u in
    split 55 (reg_of bit) s (low16 z) _ (omega arith) (omega arith) (omega arith) ∙ branch_bit_is true true bit s z v u
law_branch_bit true false bit s z v u =
    let bound = low16_below z u in
    split 54 (reg_of bit) s (low16 z) _ (omega arith) (omega arith) (omega arith) ∙ branch_bit_is true false bit s z v u
law_branch_bit false true bit s z v u =
    let bound = low16_below z u in
    split 53 (reg_of bit) s (low16 z) _ (omega arith) (omega arith) (omega arith) ∙ branch_bit_is false true bit s z v u
law_branch_bit false false bit s z v u =
    let bound = low16_below z u in
    split 52 (reg_of bit) s (low16 z) _ (omega arith) (omega arith) (omega arith) ∙ branch_bit_is false false bit s z v u

branch_cond_is : (delayed : Bool) (mask : ℕ) (s : Reg) (z : ℤ) → mask < 16 → FitsWords 15 z
    → instr.BranchCond delayed (mask % 32) s (words16 (low16 z)) ≡ instr.BranchCond delayed mask s z
branch_cond_is delayed mask s z v u =
    let em : mask % 32 ≡ mask = omega arith in
    let ez = words16_low16 z u in
    cc

law_branch_cond : (delayed : Bool) (mask : ℕ) (s : Reg) (z : ℤ) → mask < 16 → FitsWords 15 z
    → candidate_of (word_of (instr.BranchCond delayed mask s z)) ≡ instr.BranchCond delayed mask s z
unfolding candidate_at
law_branch_cond true mask s z v u =
    let bound = low16_below z u in
    split 59 (reg_of mask) s (low16 z) _ (omega arith) (omega arith) (omega arith) ∙ branch_cond_is true mask s z v u
law_branch_cond false mask s z v u =
    let bound = low16_below z u in
    split 58 (reg_of mask) s (low16 z) _ (omega arith) (omega arith) (omega arith) ∙ branch_cond_is false mask s z v u

law_bound_imm : (s : Reg) (imm : ℕ) → imm < 2 ^ 16
    → candidate_of (word_of (instr.BoundImm s imm)) ≡ instr.BoundImm s imm
unfolding candidate_at
law_bound_imm s imm v = split 62 (reg_of 0) s imm _ (omega arith) v (omega arith)

-- a word of the control forms
by_control : (d s : Reg) (l w : ℕ) → l < 2 ^ 16 → w ≡ 0x80 * 2 ^ 24 + number_of d * 2 ^ 21 + number_of s * 2 ^ 16 + l
    → candidate_of w ≡ control_form d s l
unfolding candidate_at
by_control d s l w hl e = split 32 d s l w (omega arith) hl (omega arith)

law_ldcr : (d : Reg) (cr : ℕ) (float : Bool) → cr < 64
    → candidate_of (word_of (instr.Ldcr d cr float)) ≡ instr.Ldcr d cr float
unfolding control_form
law_ldcr d cr true v = by_control d (reg_of 0) (0x4800 + cr * 2 ^ 5) _ (omega arith) (omega arith) ∙ grind (arith, nat_tests)
law_ldcr d cr false v = by_control d (reg_of 0) (0x4000 + cr * 2 ^ 5) _ (omega arith) (omega arith) ∙ grind (arith, nat_tests)

law_stcr : (s : Reg) (cr : ℕ) (float : Bool) → cr < 64
    → candidate_of (word_of (instr.Stcr s cr float)) ≡ instr.Stcr s cr float
unfolding control_form
law_stcr s cr true v =
    by_control (reg_of 0) s (0x8800 + cr * 2 ^ 5 + number_of s) _ (omega arith) (omega arith) ∙ grind (arith, nat_tests)
law_stcr s cr false v =
    by_control (reg_of 0) s (0x8000 + cr * 2 ^ 5 + number_of s) _ (omega arith) (omega arith) ∙ grind (arith, nat_tests)

law_xcr : (d s : Reg) (cr : ℕ) (float : Bool) → cr < 64
    → candidate_of (word_of (instr.Xcr d s cr float)) ≡ instr.Xcr d s cr float
unfolding control_form
law_xcr d s cr true v =
    by_control d s (0xC800 + cr * 2 ^ 5 + number_of s) _ (omega arith) (omega arith) ∙ grind (arith, nat_tests)
law_xcr d s cr false v =
    by_control d s (0xC000 + cr * 2 ^ 5 + number_of s) _ (omega arith) (omega arith) ∙ grind (arith, nat_tests)

law_sfu : (unit rest : ℕ) → 1 ≤ unit → unit < 8 → rest < 2 ^ 26
    → candidate_of (word_of (instr.Sfu unit rest)) ≡ instr.Sfu unit rest
unfolding candidate_at
law_sfu unit rest low high v =
    by_rest (32 + unit) rest _ (omega arith) v (omega arith) ∙ grind (arith, nat_tests)

-- the candidate of a valid instruction's word is that instruction
pub candidate_law : (i : Instr) → IsValid i → candidate_of (word_of i) ≡ i
candidate_law (instr.MemImm op d s1 imm) v = law_mem_imm op d s1 imm v
candidate_law (instr.Imm op d s1 imm) v = law_imm op d s1 imm v
candidate_law (instr.Regs op d s1 s2) v = law_regs op d s1 s2
candidate_law (instr.MemReg op d s1 s2 scaled usr) v = law_mem_reg op d s1 s2 scaled usr
candidate_law (instr.Lda size d s1 s2) v = law_lda size d s1 s2
candidate_law (instr.BitReg op d s1 s2) v = law_bit_reg op d s1 s2
candidate_law (instr.Find ones d s2) v = law_find ones d s2
candidate_law (instr.Jump link delayed s2) v = law_jump link delayed s2
candidate_law (instr.BoundReg s1 s2) v = law_bound_reg s1 s2
candidate_law instr.Rte v = law_rte
candidate_law (instr.BitLit op d s1 width offset) v = law_bit_lit op d s1 width offset v.0 v.1
candidate_law (instr.Branch link delayed words) v = law_branch link delayed words v
candidate_law (instr.BranchBit set delayed bit s1 words) v = law_branch_bit set delayed bit s1 words v.0 v.1
candidate_law (instr.BranchCond delayed mask s1 words) v = law_branch_cond delayed mask s1 words v.0 v.1
candidate_law (instr.TrapBit set bit s1 vector) v = law_trap_bit set bit s1 vector v.0 v.1
candidate_law (instr.TrapCond mask s1 vector) v = law_trap_cond mask s1 vector v.0 v.1
candidate_law (instr.BoundImm s1 imm) v = law_bound_imm s1 imm v
candidate_law (instr.Ldcr d cr float) v = law_ldcr d cr float v
candidate_law (instr.Stcr s1 cr float) v = law_stcr s1 cr float v
candidate_law (instr.Xcr d s1 cr float) v = law_xcr d s1 cr float v
candidate_law (instr.Sfu unit rest) v = law_sfu unit rest v.0 v.1 v.2

-- two instructions of one word are the same
pub one_reading : (word : ℕ) → HasOneReading word
one_reading word i j hi hj =
    sym (candidate_law i hi.0) ∙ ap candidate_of (hi.1 ∙ sym hj.1) ∙ candidate_law j hj.0
