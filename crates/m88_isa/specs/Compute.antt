-- What the logic and arithmetic instructions compute of two words s and t ("Instruction Set": logical and integer
-- arithmetic instructions). A word is a number below 2^32, and its signed reading is its two's complement.
use Rattle.std.specs.Prelude.{ℕ, ℤ, pos, negsuc, Bool, true, false, not, ◌+◌, ◌-◌, ◌*◌, ◌/◌, ◌%◌, ◌^◌, ◌+ℤ◌, ◌==◌, ◌&&◌, ◌||◌, nat_lt, nat_le, int_lt, int_le, bit_and, bit_or, bit_xor, if◌then◌else◌}
use Rattle.std.specs.Int.{bit_not, cast_signed, w32}
use Rattle.m88_isa.specs.Vector.{bad_division, overflow}
use Rattle.m88_isa.specs.declared.planned.Computed.{Computed}
use Rattle.m88_isa.specs.declared.planned.Computed.TheVariants.{Gives, Raises}
use Rattle.m88_isa.specs.declared.instr.ImmOp.{ImmOp}
use Rattle.m88_isa.specs.declared.instr.RegOp.{RegOp}
use Rattle.m88_isa.specs.declared.instr.ImmOp.TheVariants as immop
use Rattle.m88_isa.specs.declared.instr.RegOp.TheVariants as regop

-- the number that a flag or a mark of the mnemonic adds: its weight where it is set
abbrev pub weight_if : Bool → ℕ → ℕ
weight_if there weight = if there then weight else 0

-- a word read as a signed number
abbrev pub signed : ℕ → ℤ
signed n = cast_signed w32 n

-- a signed number that a word can hold, -2^31 to 2^31 - 1
abbrev pub fits_signed : ℤ → Bool
fits_signed z = int_le (negsuc (2 ^ 31 - 1)) z && int_lt z (pos (2 ^ 31))

-- the exact sum of two words and a carry in
abbrev pub exact_sum : Bool → ℕ → ℕ → ℕ
exact_sum carry_in s t = s + t + weight_if carry_in 1

-- the exact sum of two words, both read as signed, and a carry in
abbrev pub exact_signed_sum : Bool → ℕ → ℕ → ℤ
exact_signed_sum carry_in s t = signed s +ℤ signed t +ℤ pos (weight_if carry_in 1)

-- the low word of a sum; with a carry out the carry becomes that out of bit 31, else it stays
abbrev pub unsigned_sum : Bool → Bool → Bool → ℕ → ℕ → Computed
unsigned_sum carry_out carry_in carry s t =
    Gives (exact_sum carry_in s t % 2 ^ 32) (if carry_out then nat_le (2 ^ 32) (exact_sum carry_in s t) else carry)

-- the same, where the exact signed sum fits a word
abbrev pub signed_sum : Bool → Bool → Bool → ℕ → ℕ → Computed
signed_sum carry_out carry_in carry s t =
    if fits_signed (exact_signed_sum carry_in s t) then unsigned_sum carry_out carry_in carry s t else Raises overflow

-- the quotient of unsigned words
abbrev pub unsigned_quotient : Bool → ℕ → ℕ → Computed
unsigned_quotient carry s t = if t == 0 then Raises bad_division else Gives (s / t) carry

-- the quotient of words that aren't negative
abbrev pub signed_quotient : Bool → ℕ → ℕ → Computed
signed_quotient carry s t =
    if t == 0 || nat_le (2 ^ 31) s || nat_le (2 ^ 31) t then Raises bad_division else Gives (s / t) carry

-- the low word of a product
abbrev pub product : ℕ → ℕ → ℕ
product s t = s * t % 2 ^ 32

-- the ten bits of a comparison: equal, not equal; signed greater, less or equal, less, greater or equal;
-- unsigned higher, lower or same, lower, higher or same
abbrev pub comparison : ℕ → ℕ → ℕ
comparison s t =
    weight_if (s == t) (2 ^ 2)
    + weight_if (not (s == t)) (2 ^ 3)
    + weight_if (int_lt (signed t) (signed s)) (2 ^ 4)
    + weight_if (int_le (signed s) (signed t)) (2 ^ 5)
    + weight_if (int_lt (signed s) (signed t)) (2 ^ 6)
    + weight_if (int_le (signed t) (signed s)) (2 ^ 7)
    + weight_if (nat_lt t s) (2 ^ 8)
    + weight_if (nat_le s t) (2 ^ 9)
    + weight_if (nat_lt s t) (2 ^ 10)
    + weight_if (nat_le t s) (2 ^ 11)

-- the immediate mnemonics, of the carry, the word s of S1 and the immediate t: `and` keeps the half of s that it
-- doesn't act on and `mask` clears it, `or` and `xor` keep it
abbrev pub immediate : ImmOp → Bool → ℕ → ℕ → Computed
immediate immop.And carry s t = Gives (bit_and s (2 ^ 32 - 2 ^ 16 + t)) carry
immediate immop.AndU carry s t = Gives (bit_and s (t * 2 ^ 16 + (2 ^ 16 - 1))) carry
immediate immop.Mask carry s t = Gives (bit_and s t) carry
immediate immop.MaskU carry s t = Gives (bit_and s (t * 2 ^ 16)) carry
immediate immop.Xor carry s t = Gives (bit_xor s t) carry
immediate immop.XorU carry s t = Gives (bit_xor s (t * 2 ^ 16)) carry
immediate immop.Or carry s t = Gives (bit_or s t) carry
immediate immop.OrU carry s t = Gives (bit_or s (t * 2 ^ 16)) carry
immediate immop.Addu carry s t = unsigned_sum false false carry s t
immediate immop.Subu carry s t = unsigned_sum false true carry s (bit_not w32 t)
immediate immop.Divu carry s t = unsigned_quotient carry s t
immediate immop.Mul carry s t = Gives (product s t) carry
immediate immop.Add carry s t = signed_sum false false carry s t
immediate immop.Sub carry s t = signed_sum false true carry s (bit_not w32 t)
immediate immop.Div carry s t = signed_quotient carry s t
immediate immop.Cmp carry s t = Gives (comparison s t) carry

-- the mnemonics on three registers, of the carry and the words of S1 and S2: a subtraction adds the bits of t turned
-- over and 1, or the carry where it has a carry in
abbrev pub registers : RegOp → Bool → ℕ → ℕ → Computed
registers regop.And carry s t = Gives (bit_and s t) carry
registers regop.AndC carry s t = Gives (bit_and s (bit_not w32 t)) carry
registers regop.Xor carry s t = Gives (bit_xor s t) carry
registers regop.XorC carry s t = Gives (bit_xor s (bit_not w32 t)) carry
registers regop.Or carry s t = Gives (bit_or s t) carry
registers regop.OrC carry s t = Gives (bit_or s (bit_not w32 t)) carry
registers regop.Addu carry s t = unsigned_sum false false carry s t
registers regop.Subu carry s t = unsigned_sum false true carry s (bit_not w32 t)
registers regop.Divu carry s t = unsigned_quotient carry s t
registers regop.Mul carry s t = Gives (product s t) carry
registers regop.Add carry s t = signed_sum false false carry s t
registers regop.Sub carry s t = signed_sum false true carry s (bit_not w32 t)
registers regop.Div carry s t = signed_quotient carry s t
registers regop.Cmp carry s t = Gives (comparison s t) carry
registers regop.AdduCo carry s t = unsigned_sum true false carry s t
registers regop.AdduCi carry s t = unsigned_sum false carry carry s t
registers regop.AdduCio carry s t = unsigned_sum true carry carry s t
registers regop.SubuCo carry s t = unsigned_sum true true carry s (bit_not w32 t)
registers regop.SubuCi carry s t = unsigned_sum false carry carry s (bit_not w32 t)
registers regop.SubuCio carry s t = unsigned_sum true carry carry s (bit_not w32 t)
registers regop.AddCo carry s t = signed_sum true false carry s t
registers regop.AddCi carry s t = signed_sum false carry carry s t
registers regop.AddCio carry s t = signed_sum true carry carry s t
registers regop.SubCo carry s t = signed_sum true true carry s (bit_not w32 t)
registers regop.SubCi carry s t = signed_sum false carry carry s (bit_not w32 t)
registers regop.SubCio carry s t = signed_sum true carry carry s (bit_not w32 t)
