-- A workload's source is accepted and short: each of its statements is an instruction that stands by itself in a line.
use Rattle.std.proofs.Common.{◌≡◌, ℕ, ◌+◌, ◌*◌, ◌/◌, ◌%◌, ◌^◌, ◌==◌, ◌||◌, ◌<◌, ◌≤◌, Bool, true, false, List, length, refl, ap, arith}
use Rattle.std.specs.Prelude.{if◌then◌else◌}
use Rattle.std.specs.List.{range_with_len}
use Rattle.std.proofs.lemmas.List.FromFn.{length-range_with_len}
use Rattle.m88_base.specs.Reg.{reg_of}
use Rattle.m88_base.specs.declared.reg.Reg.{Reg}
use Rattle.m88_isa.specs.declared.instr.ImmOp.TheVariants.{Addu}
use Rattle.m88_isa.specs.declared.instr.Instr.{Instr}
use Rattle.m88_isa.specs.declared.instr.MemOp.TheVariants.{Ld, LdD, St, StB}
use Rattle.m88_isa.specs.declared.instr.RegOp.TheVariants.{Subu, Xor}
use Rattle.m88_asm.specs.Sources.{IsProgramSource}
use Rattle.m88_disasm.proofs.Laws.{IsPlain, plain_immediate, plain_length, plain_memory, plain_registers, plain_source}
use Rattle.m88_commands.proofs.Drawing.{seed_next}
use Rattle.m88_commands.specs.Limits.{most_input, most_statements}
use Rattle.m88_commands.specs.Answer.Workload.{draw, drawn_address, drawn_instruction, drawn_register, drawn_statement, seed_after, workload_source}

-- what holds of each form holds of the one that tests choose
by_tests : (P : Instr → Type 0) (t u v w x y : Bool) (i j k l m n o : Instr) → P i → P j → P k → P l → P m → P n → P o
    → P (if t then i else (if u then j else (if v then k else (if w then l else (if x then m else (if y then n else o))))))
by_tests P true u v w x y i j k l m n o a b c d e f g = a
by_tests P false true v w x y i j k l m n o a b c d e f g = b
by_tests P false false true w x y i j k l m n o a b c d e f g = c
by_tests P false false false true x y i j k l m n o a b c d e f g = d
by_tests P false false false false true y i j k l m n o a b c d e f g = e
by_tests P false false false false false true i j k l m n o a b c d e f g = f
by_tests P false false false false false false i j k l m n o a b c d e f g = g

plain_instruction : (kind : ℕ) (b c : Reg) (v : ℕ) → v < 2 ^ 16 → IsPlain (drawn_instruction kind b c v)
unfolding drawn_instruction
plain_instruction kind b c v below =
    let few : drawn_address v < 2 ^ 16 = omega arith in
    by_tests IsPlain (kind == 0) (kind == 1) (kind == 2 || kind == 3) (kind == 4) (kind == 5) (kind == 6) _ _ _ _ _ _ _
    (plain_immediate Addu b c v below) (plain_registers Subu b c b) (plain_memory Ld b (reg_of 0) (drawn_address v) few)
    (plain_memory St b (reg_of 0) (drawn_address v) few) (plain_memory LdD b (reg_of 0) (drawn_address v) few)
    (plain_memory StB b (reg_of 0) (drawn_address v) few) (plain_registers Xor b b c)

-- a draw has 16 bits
half_of_word : (x y : ℕ) → x ≡ y % 2 ^ 32 → x / 2 ^ 16 < 2 ^ 16
half_of_word x y e = omega (arith, e)

draw_below : (number n : ℕ) → draw number n < 2 ^ 16
draw_below number n =
    half_of_word (seed_after number (n + 1)) (1664525 * seed_after number n + 1013904223) (seed_next number n)

plain_statement : (number n : ℕ) → IsPlain (drawn_statement number n)
plain_statement number n =
    plain_instruction (draw number (4 * n) % 8) (drawn_register (draw number (4 * n + 1)))
    (drawn_register (draw number (4 * n + 2))) (draw number (4 * n + 3)) (draw_below number (4 * n + 3))

-- the source of each workload is accepted
pub workload_accepted : (number count : ℕ) → count ≤ most_statements → IsProgramSource (workload_source number count)
unfolding workload_source
workload_accepted number count few =
    let long = length-range_with_len 0 count in
    plain_source (drawn_statement number) (range_with_len 0 count) (workload_source number count) (plain_statement number)
    (omega (arith, long)) refl

-- and is short enough to be read
pub source_short : (number count : ℕ) (source : List ℕ) → count ≤ most_statements → source ≡ workload_source number count
    → length source ≤ most_input
unfolding workload_source
source_short number count source few is =
    let long = length-range_with_len 0 count in
    let short = plain_length (drawn_statement number) (range_with_len 0 count) (plain_statement number) in
    let same = ap length is in
    omega (arith, short, same, long)
