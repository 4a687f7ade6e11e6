-- The generated workload: a source of loads, stores and arithmetic and a schedule, both drawn from a number, and the
-- summary of their run (the format of workloads, docs/FORMATS.md).
use Rattle.std.specs.Prelude.{ℕ, zero, suc, ◌+◌, ◌*◌, ◌/◌, ◌%◌, ◌^◌, ◌==◌, ◌||◌, List, ◌++◌, bit_xor, codes, decimal, length, map, if◌then◌else◌}
use Rattle.std.specs.List.{fold, range_with_len}
use Rattle.m88_base.specs.Hex.{hex8}
use Rattle.m88_base.specs.Lines.{line_end, text_of_lines}
use Rattle.m88_base.specs.Reg.{reg_of}
use Rattle.m88_base.specs.declared.reg.Reg.{Reg}
use Rattle.m88_isa.specs.declared.instr.ImmOp.TheVariants.{Addu}
use Rattle.m88_isa.specs.declared.instr.Instr.{Instr}
use Rattle.m88_isa.specs.declared.instr.Instr.TheVariants.{Imm, MemImm, Regs}
use Rattle.m88_isa.specs.declared.instr.MemOp.TheVariants.{Ld, LdD, St, StB}
use Rattle.m88_isa.specs.declared.instr.RegOp.TheVariants.{Subu, Xor}
use Rattle.m88_disasm.specs.Text.{instr_text}
use Rattle.m88_event.specs.EndText.{run_end_line}
use Rattle.m88_event.specs.declared.letter.Letter.{Letter}
use Rattle.m88_event.specs.declared.letter.Letter.TheVariants.{Issue, Answer}
use Rattle.m88_event.specs.declared.outcome.Outcome.{Outcome}
use Rattle.m88_report.specs.Report.{count_line}

-- what the generator makes of its 32-bit number with each draw
abbrev pub next_seed : ℕ → ℕ
next_seed x = (1664525 * x + 1013904223) % 2 ^ 32

-- its number after so many draws
unfoldable pub seed_after : ℕ → ℕ → ℕ
seed_after number zero = number
seed_after number (suc n) = next_seed (seed_after number n)

-- draw n, from 0: the upper 16 bits of the number that the draw made
abbrev pub draw : ℕ → ℕ → ℕ
draw number n = seed_after number (n + 1) / 2 ^ 16

-- the register that a draw chooses, r2 to r7
abbrev pub drawn_register : ℕ → Reg
drawn_register d = reg_of (d % 6 + 2)

-- the address that a draw chooses, a multiple of 8
abbrev pub drawn_address : ℕ → ℕ
drawn_address v = v / 8 * 8

-- the instruction of a kind, 0 to 7, on two registers and a draw
unfoldable pub drawn_instruction : ℕ → Reg → Reg → ℕ → Instr
drawn_instruction kind b c v =
    if kind == 0 then Imm Addu b c v
    else (if kind == 1 then Regs Subu b c b
    else (if kind == 2 || kind == 3 then MemImm Ld b (reg_of 0) (drawn_address v)
    else (if kind == 4 then MemImm St b (reg_of 0) (drawn_address v)
    else (if kind == 5 then MemImm LdD b (reg_of 0) (drawn_address v)
    else (if kind == 6 then MemImm StB b (reg_of 0) (drawn_address v)
    else Regs Xor b b c)))))

-- statement n of the source, from 0: four draws choose its kind, its two registers and its number
abbrev pub drawn_statement : ℕ → ℕ → Instr
drawn_statement number n =
    drawn_instruction (draw number (4 * n) % 8) (drawn_register (draw number (4 * n + 1)))
    (drawn_register (draw number (4 * n + 2))) (draw number (4 * n + 3))

-- the source of so many statements: a line for each, which is the text of its instruction
unfoldable pub workload_source : ℕ → ℕ → List ℕ
workload_source number count = text_of_lines (map (λ n. instr_text (drawn_statement number n)) (range_with_len 0 count))

-- the letter of a draw: `i` where it is even, `r` where it is odd
abbrev pub drawn_letter : ℕ → Letter
drawn_letter d = if d % 2 == 0 then Issue else Answer

-- the letters of so many draws, from draw `first` on
unfoldable pub drawn_letters : ℕ → ℕ → ℕ → List Letter
drawn_letters number first n = map (λ k. drawn_letter (draw number (first + k))) (range_with_len 0 n)

-- the letters of the schedule
abbrev pub workload_letters : ℕ
workload_letters = 4096

-- the schedule: the draws behind those of the source, of which there are four for each statement
abbrev pub workload_schedule : ℕ → ℕ → List Letter
workload_schedule number count = drawn_letters number (4 * count) workload_letters

-- the exclusive or of words, 0 where there is none
abbrev pub xor_of : List ℕ → ℕ
xor_of words = fold bit_xor 0 words

-- the line that names the workload
abbrev pub workload_line : ℕ → ℕ → List ℕ
workload_line number count = codes "soak " ++ decimal number ++ codes " " ++ decimal count ++ line_end

-- the line of the exclusive or of all registers
unfoldable pub registers_xor_line : List ℕ → List ℕ
registers_xor_line regs = codes "regs " ++ hex8 (xor_of regs) ++ line_end

-- the line of the words of memory that changed: how many, and their values
unfoldable pub changes_line : List (ℕ × ℕ) → List ℕ
changes_line words =
    codes "mem " ++ decimal (length words) ++ codes " " ++ hex8 (xor_of (map (λ w. w.1) words)) ++ line_end

-- the summary of what a run came to: the workload, how it ended, its counts, its registers and its memory
unfoldable pub summary_of : ℕ → ℕ → Outcome → List ℕ
summary_of number count o =
    workload_line number count
    ++ run_end_line o.end
    ++ count_line (codes "retired") o.retired
    ++ count_line (codes "events") o.events
    ++ count_line (codes "answers") o.answers
    ++ count_line (codes "faults") (length o.records)
    ++ registers_xor_line o.regs
    ++ changes_line o.changed
