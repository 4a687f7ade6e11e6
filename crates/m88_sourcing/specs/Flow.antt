-- Where an instruction leads, without a look at registers ("Instruction Set": flow-control instructions).
use Rattle.std.specs.Prelude.{ℕ, ℤ, Bool, true, false, not, ◌==◌, ◌&&◌, Option, Some, None, if◌then◌else◌}
use Rattle.m88_base.specs.Reg.{number_of}
use Rattle.m88_isa.specs.Address.{after_bytes}
use Rattle.m88_isa.specs.Flow.{words_away}
use Rattle.m88_isa.specs.Monitor.{exit_service, monitor_trap, service_register}
use Rattle.m88_isa.specs.declared.instr.ImmOp.TheVariants.{Or}
use Rattle.m88_isa.specs.declared.instr.Instr.{Instr}
use Rattle.m88_isa.specs.declared.instr.Instr.TheVariants as instr

-- a branch with a delay slot leads right behind that: the machine goes on through the slot, where an instruction is
-- carried out as anywhere, so it is no slot ("Instruction Set": delayed branching)
abbrev pub is_through_slot : ℕ → Bool → ℤ → Bool
is_through_slot pc delayed words = delayed && words_away pc words == after_bytes pc 8

-- where the program goes on behind an instruction, or comes back to: behind a call and its slot; into the slot of a branch
-- that goes through it; nowhere behind another branch or a jump that is always taken, or behind a return from an exception
abbrev pub goes_on_to : ℕ → Instr → Option ℕ
goes_on_to pc (instr.Branch link delayed words) =
    if is_through_slot pc delayed words then Some (after_bytes pc 4)
    else if link then Some (after_bytes pc (if delayed then 8 else 4))
    else None
goes_on_to pc (instr.Jump false delayed s2) = None
goes_on_to pc (instr.Jump true delayed s2) = Some (after_bytes pc (if delayed then 8 else 4))
goes_on_to pc instr.Rte = None
goes_on_to pc i = Some (after_bytes pc 4)

-- the target of a branch, which its word names
abbrev pub branch_target : ℕ → Instr → Option ℕ
branch_target pc (instr.Branch link delayed words) = Some (words_away pc words)
branch_target pc (instr.BranchBit set delayed bit s1 words) = Some (words_away pc words)
branch_target pc (instr.BranchCond delayed mask s1 words) = Some (words_away pc words)
branch_target pc i = None

-- the delay slot of a branch or jump
abbrev pub slot : ℕ → Instr → Option ℕ
slot pc (instr.Branch link true words) = Some (after_bytes pc 4)
slot pc (instr.BranchBit set true bit s1 words) = Some (after_bytes pc 4)
slot pc (instr.BranchCond true mask s1 words) = Some (after_bytes pc 4)
slot pc (instr.Jump link true s2) = Some (after_bytes pc 4)
slot pc i = None

-- a trap to the monitor that is always taken
abbrev pub calls_monitor : Instr → Bool
calls_monitor (instr.TrapBit set bit s1 vector) = not set && (number_of s1 == 0 && vector == monitor_trap)
calls_monitor i = false

-- the number of the service that ends the program is put where the monitor looks for it
abbrev pub asks_for_end : Instr → Bool
asks_for_end (instr.Imm Or d s1 imm) = number_of d == service_register && (number_of s1 == 0 && imm == exit_service)
asks_for_end i = false
