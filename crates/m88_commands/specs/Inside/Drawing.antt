-- What the generator of a workload makes of the number that it has.
use Rattle.std.specs.Prelude.{ℕ, ◌/◌, ◌%◌, ◌^◌}
use Rattle.m88_isa.specs.declared.instr.Instr.{Instr}
use Rattle.m88_commands.specs.Answer.Workload.{drawn_instruction, drawn_register, next_seed}

-- the upper 16 bits of a number of 32 bits
abbrev pub upper_half : ℕ → ℕ
upper_half x = x / 2 ^ 16

-- the number after four draws
abbrev pub after_four : ℕ → ℕ
after_four x = next_seed (next_seed (next_seed (next_seed x)))

-- the statement that four draws make
abbrev pub statement_from : ℕ → Instr
statement_from x =
    drawn_instruction (upper_half (next_seed x) % 8)
    (drawn_register (upper_half (next_seed (next_seed x))))
    (drawn_register (upper_half (next_seed (next_seed (next_seed x)))))
    (upper_half (after_four x))
