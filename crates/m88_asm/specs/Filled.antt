-- The bytes of statements (assembler manuals: directives; relocation): what a statement gives where the fields that
-- wait for a symbol are 0, and what it gives once each symbol is replaced by its value.
use Rattle.std.specs.Prelude.{ℕ, ℤ, pos, negsuc, ◌+◌, ◌-◌, ◌/◌, ◌%◌, ◌^◌, List, [], nat_lt, if◌then◌else◌, flat_map, replicate, Option, Some, None}
use Rattle.std.specs.Int.{to_be_bytes, w16, w32}
use Rattle.m88_base.specs.declared.fixup.Fixup.{Fixup}
use Rattle.m88_base.specs.declared.fixup.Kind.{Kind}
use Rattle.m88_base.specs.declared.fixup.Kind.TheVariants.{Hi16}
use Rattle.m88_isa.specs.Word.{word_of}
use Rattle.m88_isa.specs.declared.instr.Instr.{Instr}
use Rattle.m88_isa.specs.declared.instr.Instr.TheVariants.{Imm, MemImm, Branch, BranchBit, BranchCond}
use Rattle.m88_parse.specs.declared.unit.Body.{Body}
use Rattle.m88_parse.specs.declared.unit.Body.TheVariants.{Word, Half, Byte, Ascii, Zero, Align, Code}
use Rattle.m88_parse.specs.declared.unit.Value.{Value}
use Rattle.m88_parse.specs.declared.unit.Value.TheVariants.{Number, Symbol}
use Rattle.m88_link.specs.Field.{distance}
use Rattle.m88_asm.specs.Counters.{padding}

-- what a fixup's field takes: the symbol's value plus the addend, modulo 2 ^ 32
abbrev pub target : (List ℕ → ℕ) → Fixup → ℕ
target value f = (value f.symbol + f.addend) % 2 ^ 32

-- the half of a target that `hi16` or `lo16` means
abbrev pub half_of : Kind → ℕ → ℕ
half_of Hi16 target = target / 2 ^ 16
half_of _ target = target % 2 ^ 16

-- a distance in bytes, taken from -2 ^ 31 to 2 ^ 31 - 1, as a count of words
abbrev pub words_of : ℕ → ℤ
words_of d = if nat_lt d (2 ^ 31) then pos (d / 4) else negsuc ((2 ^ 32 - d) / 4 - 1)

-- an instruction at an address, its symbol replaced: an immediate is a half of the target, a branch counts the
-- words from its address to the target
abbrev pub with_field : Instr → Kind → ℕ → ℕ → Instr
with_field (Imm op d s1 imm) kind target address = Imm op d s1 (half_of kind target)
with_field (MemImm op d s1 imm) kind target address = MemImm op d s1 (half_of kind target)
with_field (Branch link delayed words) kind target address = Branch link delayed (words_of (distance target address))
with_field (BranchBit set delayed bit s1 words) kind target address =
    BranchBit set delayed bit s1 (words_of (distance target address))
with_field (BranchCond delayed mask s1 words) kind target address =
    BranchCond delayed mask s1 (words_of (distance target address))
with_field instr kind target address = instr

-- an instruction at an address, its symbol replaced where it has one
abbrev pub resolved : (List ℕ → ℕ) → ℕ → Instr → Option Fixup → Instr
resolved value address instr None = instr
resolved value address instr (Some f) = with_field instr f.kind (target value f) address

-- a word of `.word`, 0 where its symbol is still to come
abbrev pub waiting_word : Value → ℕ
waiting_word (Number n) = n
waiting_word (Symbol f) = 0

-- a word of `.word` with its symbol replaced
abbrev pub filled_word : (List ℕ → ℕ) → Value → ℕ
filled_word value (Number n) = n
filled_word value (Symbol f) = target value f

-- the bytes that a body gives at a place of its section, where what waits for a symbol is 0; words are big-endian
abbrev pub waiting_bytes : ℕ → Body → List ℕ
waiting_bytes place (Word values) = flat_map (λ v. to_be_bytes w32 (waiting_word v)) values
waiting_bytes place (Half numbers) = flat_map (λ n. to_be_bytes w16 n) numbers
waiting_bytes place (Byte bytes) = bytes
waiting_bytes place (Ascii bytes) = bytes
waiting_bytes place (Zero n) = replicate n 0
waiting_bytes place (Align n) = replicate (padding n place) 0
waiting_bytes place (Code instr fixup) = to_be_bytes w32 (word_of instr)
waiting_bytes place _ = []

-- the bytes that a body gives at an address, with its symbols replaced
abbrev pub filled_bytes : (List ℕ → ℕ) → ℕ → ℕ → Body → List ℕ
filled_bytes value address place (Word values) = flat_map (λ v. to_be_bytes w32 (filled_word value v)) values
filled_bytes value address place (Code instr fixup) = to_be_bytes w32 (word_of (resolved value address instr fixup))
filled_bytes value address place body = waiting_bytes place body
