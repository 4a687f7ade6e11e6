-- The numbers of the general registers, 0 to 31, and their values as a list (register model).
use Rattle.std.specs.Prelude.{ℕ, List, ◌%◌, ◌==◌, slice_set, if◌then◌else◌}
use Rattle.std.proofs.lemmas.Nat.{mod_below}
use Rattle.std.proofs.Math.Dec.{lit<}
use Rattle.m88_base.specs.declared.reg.Reg.{Reg}

-- the number of a register
abbrev pub number_of : Reg → ℕ
number_of r = r.n

-- the register that the five low bits of a number name
abbrev pub reg_of : ℕ → Reg
reg_of n = record { n = n % 32; in_range = mod_below n 32 (lit< tt) }

-- the values of the 32 registers after one is written; r0 stays as it is
abbrev pub with_register : Reg → ℕ → List ℕ → List ℕ
with_register r value regs = if number_of r == 0 then regs else slice_set regs (number_of r) value
