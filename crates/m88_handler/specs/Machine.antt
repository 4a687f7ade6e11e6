-- The handler's machine ("Exception Processing"; "Control Registers"; "Instruction Set": the forms for the supervisor
-- alone): one instruction after the other, each finished before the next begins, over a space of its own, and by `.usr`
-- over the program's. The ports, what can't be written into PSR, and that the shadow registers are 0 while they aren't
-- frozen, are this project's profile.
use Rattle.std.specs.Prelude.{ℕ, zero, suc, Bool, true, false, not, List, [], ◌∷◌, ◌++◌, Option, Some, None, Result, Ok, Err, ◌+◌, ◌-◌, ◌*◌, ◌/◌, ◌%◌, ◌^◌, ◌==◌, ◌&&◌, ◌||◌, nat_le, slice_get, slice_index_or, slice_set, unwrap_or, if◌then◌else◌}
use Rattle.std.specs.Int.{bit_at}
use Rattle.m88_base.specs.Pages.{page_number}
use Rattle.m88_base.specs.Reg.{with_register}
use Rattle.m88_base.specs.declared.reg.Reg.{Reg}
use Rattle.m88_ctrl.specs.ControlRegisters.{ControlRegisters, by_number, carry_of, carry_place, kept_of, mxm_of, with_carry}
use Rattle.m88_isa.specs.Address.{after_bytes}
use Rattle.m88_isa.specs.Bus.{listed, loaded, stored}
use Rattle.m88_isa.specs.Effect.{plan_of, register}
use Rattle.m88_isa.specs.Lanes.{is_touched}
use Rattle.m88_isa.specs.Machine.{Program, four_bytes, with_written}
use Rattle.m88_isa.specs.Operands.{is_flow, no_register}
use Rattle.m88_isa.specs.Vector.{data_access, instruction_access, unimplemented}
use Rattle.m88_isa.specs.declared.instr.Instr.{Instr}
use Rattle.m88_isa.specs.declared.instr.Instr.TheVariants as instr
use Rattle.m88_isa.specs.declared.planned.Access.{Access}
use Rattle.m88_isa.specs.declared.planned.Effect.{Effect}
use Rattle.m88_isa.specs.declared.planned.Plan.{Plan}
use Rattle.m88_isa.specs.declared.planned.Plan.TheVariants as plan
use Rattle.m88_mem.specs.Marks.{with_page}
use Rattle.m88_handler.specs.declared.act.Act.{Act}
use Rattle.m88_handler.specs.declared.act.Act.TheVariants.{Raises, Works, Reaches, Reads, Writes, Swaps, Returns}
use Rattle.m88_handler.specs.declared.cause.Cause.TheVariants.{Vector, Psr, Steps}
use Rattle.m88_handler.specs.declared.cause.Course.{Course}
use Rattle.m88_handler.specs.declared.cause.Course.TheVariants as course

-- the word that puts its low byte out
abbrev pub console_port : ℕ
console_port = 0xFFF8

-- the word that stops the run
abbrev pub stop_port : ℕ
stop_port = 0xFFFC

-- the table of the pages, a word for each
abbrev pub page_table : ℕ
page_table = 0xFFC00000

-- what a handler works on: the registers, its next instruction and the one that follows, the control registers, its own
-- memory by words, what it put out, whether it stopped the run, how many of its instructions are done, the program's
-- memory by words, and which pages of it are absent
pub record Handling : Type 0 where
  pub regs : List ℕ
  pub pc : ℕ
  pub next : ℕ
  pub control : ControlRegisters
  pub own : ℕ → ℕ
  pub console : List ℕ
  pub stopped : Bool
  pub steps : ℕ
  pub user : ℕ → ℕ
  pub absent : ℕ → Bool

-- the page of a word of the table
abbrev pub page_of_entry : ℕ → ℕ
page_of_entry address = (address - page_table) / 4

-- a page is present, as the table shows it
abbrev pub presence : Bool → ℕ
presence absent = if absent then 0 else 1

-- a word of the handler's space, as it is read: the ports read as 0
abbrev pub own_word : Handling → ℕ → ℕ
own_word h a =
    if nat_le page_table a then presence (h.absent (page_of_entry a))
    else if a == console_port || a == stop_port then 0
    else h.own a

-- a store into the handler's space. The console and an entry of the table take the low byte of the register, where the
-- store touches the byte at offset 3; any store to the other port stops.
abbrev pub own_stored : Access → Handling → Handling
own_stored a h =
    if nat_le page_table a.addr
    then
    (if is_touched a.en 3
    then record h { absent = with_page (page_of_entry a.addr) (a.value % 2 == 0) h.absent }
    else h)
    else if a.addr == console_port
    then (if is_touched a.en 3 then record h { console = h.console ++ (a.value % 2 ^ 8 ∷ []) } else h)
    else if a.addr == stop_port then record h { stopped = true }
    else record h { own = stored a h.own }

-- an access to the handler's space
unfoldable pub after_own_access : Access → Handling → Handling
after_own_access a h =
    if a.write then own_stored a h
    else record h { regs = with_register a.reg (loaded a (own_word h)) h.regs }

-- an access to the program's space
unfoldable pub after_user_access : Access → Handling → Handling
after_user_access a h =
    if a.write then record h { user = stored a h.user }
    else record h { regs = with_register a.reg (loaded a h.user) h.regs }

-- some accesses, in order
unfoldable pub after_each : (Access → Handling → Handling) → List Access → Handling → Handling
after_each after [] h = h
after_each after (a ∷ accesses) h = after_each after accesses (after a h)

-- one of them has its page absent
unfoldable pub is_lacking : (ℕ → Bool) → List Access → Bool
is_lacking absent [] = false
is_lacking absent (a ∷ accesses) = absent (page_number a.addr) || is_lacking absent accesses

-- the form of an instruction that has its accesses in its own space: without `.usr`
abbrev pub plain : Instr → Instr
plain (instr.MemReg op d s1 s2 scaled usr) = instr.MemReg op d s1 s2 scaled false
plain i = i

-- what a plan does, in the program's space or in the handler's
abbrev pub memory_act : Bool → Plan → Act
memory_act usr (plan.Raise vector) = Raises vector
memory_act usr (plan.Trap vector) = Raises vector
memory_act usr (plan.Go effect) = if usr then Reaches effect else Works effect

-- a trap, which raises its vector where it is taken, whichever that is
abbrev pub trap_act : ℕ → Plan → Act
trap_act vector (plan.Raise _) = Raises vector
trap_act vector (plan.Trap _) = Raises vector
trap_act vector (plan.Go effect) = Works effect

-- a control instruction; its float form is the first unit's, as in a program
abbrev pub control_act : Bool → Act → Plan → Act
control_act float act plan = if float then memory_act false plan else act

-- by the instruction, and the plan that its plain form has in a program: those for the supervisor alone, traps, and all
-- others as in a program
abbrev pub act_by : Instr → Plan → Act
act_by (instr.MemReg op d s1 s2 scaled usr) plan = memory_act usr plan
act_by (instr.TrapBit set bit s1 vector) plan = trap_act vector plan
act_by (instr.TrapCond mask s1 vector) plan = trap_act vector plan
act_by (instr.Ldcr d cr float) plan = control_act float (Reads d cr) plan
act_by (instr.Stcr s1 cr float) plan = control_act float (Writes s1 cr) plan
act_by (instr.Xcr d s1 cr float) plan = control_act float (Swaps d s1 cr) plan
act_by instr.Rte plan = Returns
act_by i plan = memory_act false plan

-- an instruction is a change of flow in a taken delay slot
abbrev pub is_misplaced : Instr → ℕ → ℕ → Bool
is_misplaced i pc next = is_flow i && not (next == after_bytes pc 4)

-- the same at its place: a change of flow in a taken delay slot is unimplemented
abbrev pub act_in_place : Instr → List ℕ → Bool → Bool → ℕ → ℕ → Act
act_in_place i regs carry mxm pc next =
    if is_misplaced i pc next then Raises unimplemented else act_by i (plan_of (plain i) regs carry mxm pc next)

-- the instruction of a word that was fetched, or the vector where it can't be fetched or is none
abbrev pub fetched_of : Option (List ℕ) → Option Instr → Result Instr ℕ
fetched_of None i = Err instruction_access
fetched_of (Some word) None = Err unimplemented
fetched_of (Some word) (Some i) = Ok i

-- the instruction at an address
abbrev pub fetched_at : Program → ℕ → Result Instr ℕ
fetched_at s a = fetched_of (four_bytes s.byte a) (s.instruction a)

-- what it does
abbrev pub act_of : Result Instr ℕ → Handling → Act
act_of (Err vector) h = Raises vector
act_of (Ok i) h = act_in_place i h.regs (carry_of h.control) (mxm_of h.control) h.pc h.next

-- one instruction is done, behind which these follow
abbrev pub stepped_to : ℕ × ℕ → Handling → Handling
stepped_to after h = record h { pc = after.0; next = after.1; steps = h.steps + 1 }

-- and the following ones
abbrev pub stepped_on : Handling → Handling
stepped_on h = stepped_to (h.next, after_bytes h.next 4) h

-- one that may have stopped the run
abbrev pub on_or_stopped : Handling → Course × Handling
on_or_stopped h = (if h.stopped then course.Stops else course.GoesOn, h)

-- with the changes of an instruction but for its accesses
abbrev pub with_change : Effect → Handling → Handling
with_change e h = record h {
  regs = with_written e.reg h.regs;
  control = record h.control { psr = with_carry e.carry h.control.psr };
}

-- the changes of an instruction, its accesses made so
abbrev pub changed_by : (Access → Handling → Handling) → Effect → Handling → Handling
changed_by after e h = stepped_to e.after (after_each after (listed e.accesses) (with_change e h))

-- a status that may be written over another: it differs in C and in the low four bits, SFD1, MXM, IND and SFRZ, at most
abbrev pub may_follow : ℕ → ℕ → Bool
may_follow old new =
    old / 2 ^ (carry_place + 1) == new / 2 ^ (carry_place + 1)
    && old % 2 ^ carry_place / 2 ^ 4 == new % 2 ^ carry_place / 2 ^ 4

-- control registers by their numbers, as `by_number` lists them
abbrev pub registers_numbered : List ℕ → ControlRegisters
registers_numbered words = record {
  pid = slice_index_or words 0 0;
  psr = slice_index_or words 1 0;
  epsr = slice_index_or words 2 0;
  ssbr = slice_index_or words 3 0;
  sxip = slice_index_or words 4 0;
  snip = slice_index_or words 5 0;
  sfip = slice_index_or words 6 0;
  vbr = slice_index_or words 7 0;
  t2 = record { dmt = slice_index_or words 8 0; dmd = slice_index_or words 9 0; dma = slice_index_or words 10 0 };
  t1 = record { dmt = slice_index_or words 11 0; dmd = slice_index_or words 12 0; dma = slice_index_or words 13 0 };
  t0 = record { dmt = slice_index_or words 14 0; dmd = slice_index_or words 15 0; dma = slice_index_or words 16 0 };
  sr0 = slice_index_or words 17 0;
  sr1 = slice_index_or words 18 0;
  sr2 = slice_index_or words 19 0;
  sr3 = slice_index_or words 20 0;
}

-- the shadow registers are frozen: SFRZ, bit 0 of PSR, is set
abbrev pub is_frozen : ControlRegisters → Bool
is_frozen c = bit_at c.psr 0 == 1

-- the number of a shadow register: SSBR, SXIP, SNIP or SFIP
abbrev pub is_shadow : ℕ → Bool
is_shadow number = nat_le 3 number && nat_le number 6

-- what a register keeps of a word that a handler stores into it: VBR clears the low 12 bits, the others as ever
abbrev pub stored_of : ℕ → ℕ → ℕ
stored_of number word = kept_of number (if number == 7 then word / 2 ^ 12 * 2 ^ 12 else word)

-- while they aren't frozen the shadow registers are 0
abbrev pub unless_frozen : ControlRegisters → ControlRegisters
unless_frozen c = if is_frozen c then c else record c { ssbr = 0; sxip = 0; snip = 0; sfip = 0 }

-- one of the registers takes a word, but for a shadow register that isn't frozen
unfoldable pub with_number : ℕ → ℕ → ControlRegisters → ControlRegisters
with_number number word c =
    if is_shadow number && not (is_frozen c) then c
    else unless_frozen (registers_numbered (slice_set (by_number c) number (stored_of number word)))

-- a handler fails by a vector, and nothing changes
abbrev pub failed_by : ℕ → Handling → Course × Handling
failed_by vector h = (course.Fails (Vector vector), h)

-- a control register can't take a word: PID and those above SR3
abbrev pub is_unwritable : ℕ → Bool
is_unwritable number = number == 0 || nat_le 21 number

-- a control register takes a word, and a register the one that it had; or it can't: no control register of that number
-- takes words, or the word is a status that may not follow that of PSR
abbrev pub writes_control : ℕ → ℕ → Reg → ℕ → Handling → Course × Handling
writes_control number word d old h =
    if is_unwritable number then failed_by unimplemented h
    else if number == 1 && not (may_follow h.control.psr word) then (course.Fails Psr, h)
    else (
      course.GoesOn,
      stepped_on (record h {
        regs = with_register d old h.regs;
        control = with_number number word h.control;
      }),
    )

-- a register takes the word of a control register, if there is one
abbrev pub reads_control : Option ℕ → Reg → Handling → Course × Handling
reads_control None d h = failed_by unimplemented h
reads_control (Some word) d h = (course.GoesOn, stepped_on (record h { regs = with_register d word h.regs }))

-- what comes of an act
abbrev pub done_by : Act → Handling → Course × Handling
done_by (Raises vector) h = failed_by vector h
done_by (Works effect) h = on_or_stopped (changed_by after_own_access effect h)
done_by (Reaches effect) h =
    if is_lacking h.absent (listed effect.accesses) then failed_by data_access h
    else (course.GoesOn, changed_by after_user_access effect h)
done_by (Reads d cr) h = reads_control (slice_get (by_number h.control) cr) d h
done_by (Writes s1 cr) h = writes_control cr (register h.regs s1) no_register 0 h
done_by (Swaps d s1 cr) h =
    writes_control cr (register h.regs s1) d (unwrap_or (slice_get (by_number h.control) cr) 0) h
done_by Returns h = (course.Returns, record h { steps = h.steps + 1 })

-- what comes of the next instruction of a handler
abbrev pub done_next : Program → Handling → Course × Handling
done_next s h = done_by (act_of (fetched_at s h.pc) h) h

-- what comes of a handler of which this has come, by up to so many instructions more
unfoldable pub done_behind : Program → ℕ → Course × Handling → Course × Handling
done_behind s zero (course.GoesOn, h) = (course.Fails Steps, h)
done_behind s (suc n) (course.GoesOn, h) = done_behind s n (done_next s h)
done_behind s n done = done

-- up to so many instructions of a handler
abbrev pub handled_by : Program → ℕ → Handling → Course × Handling
handled_by s n h = done_behind s n (course.GoesOn, h)
