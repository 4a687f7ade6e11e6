-- What the next instruction comes to in its turn.
use Rattle.std.specs.Int.{bit_at}
use Rattle.std.specs.Prelude.{ℕ, Bool, not, true, false, List, [], IfSome, None, Option, Some, ◌≡◌, ◌<◌, if◌then◌else◌}
use Rattle.m88_base.specs.Reg.{number_of}
use Rattle.m88_ctrl.specs.ControlRegisters.{carry_of}
use Rattle.m88_base.specs.Pages.{page_number}
use Rattle.m88_event.specs.Choice.{Choice, end_by, finishes, holds, next_choice}
use Rattle.m88_event.specs.Local.{choice_by}
use Rattle.m88_event.specs.Shadow.{retired_pointer}
use Rattle.m88_event.specs.declared.happened.End.{End}
use Rattle.m88_event.specs.declared.letter.Letter.TheVariants.{Issue}
use Rattle.m88_isa.specs.Flow.{FlowFits}
use Rattle.m88_isa.specs.Held.{busy_register, held, is_pending, sync}
use Rattle.m88_isa.specs.Instr.{IsValid}
use Rattle.m88_isa.specs.Memory.{AreWordAccesses}
use Rattle.m88_isa.specs.Operands.{access_count_of, writes_of}
use Rattle.m88_isa.specs.History.{Completed}
use Rattle.m88_isa.specs.Effect.{FlowsToWords, IfGo, MakesAccesses, Meaning, RaisesListed, TrapsForUser, WritesWithin, meaning_of, plan_for, plan_of_outline}
use Rattle.m88_isa.specs.ImageProgram.{IsProgramOf}
use Rattle.m88_isa.specs.Machine.{Program, Stop, Turn, executed}
use Rattle.m88_isa.specs.declared.instr.Instr.{Instr}
use Rattle.m88_isa.specs.declared.planned.Access.{Access}
use Rattle.m88_isa.specs.declared.planned.Accesses.{Accesses}
use Rattle.m88_isa.specs.declared.planned.Effect.{Effect}
use Rattle.m88_isa.specs.declared.planned.Plan.{Plan}
use Rattle.m88_isa.specs.declared.planned.Plan.TheVariants.{Go}
use Rattle.m88_isa.specs.declared.planned.Outline.{Outline}
use Rattle.m88_iunit.specs.Pointers.{Pointers}
use Rattle.m88_board.specs.Board.{BoardView, completed_of, is_idle_board, local_of, next_of, pc_of}
use Rattle.m88_board.specs.Kept.{IsProgramEnd}

-- what an instruction means at a state
abbrev pub meaning_at : Instr → Completed → Meaning
meaning_at i c = meaning_of i c.regs c.carry c.mxm c.pc c.next

-- the turn of an instruction that was fetched and read, or of a word that is none
abbrev pub turn_of : Option Instr → Completed → Turn
turn_of i c = executed i c.regs c.carry c.mxm c.pc c.next

-- the choice that it comes to in its turn on a board: the pending transactions hold it, or nothing does
abbrev pub choice_for : Option Instr → BoardView → Choice
choice_for i b = next_choice (held i (turn_of i (completed_of b)) b.pending) (turn_of i (completed_of b))

-- what raises waits for an empty data unit, and then ends the program
abbrev pub stopping : Stop → List Access → Choice
stopping stop pending = if is_pending pending then holds sync else finishes stop

-- the letter `i` comes to a choice on a board, by each program that its image holds
abbrev pub IssueComesTo : Choice → BoardView → Type 0
IssueComesTo choice b =
    (p : Program) → IsProgramOf b.memory.image p → choice_by p b.limit Issue (local_of b) ≡ choice

-- it comes to an end of the program, with nothing pending
pub record ComesToEnd (end : End) (b : BoardView) : Type 0 where
  pub stop : Stop
  pub ends_by : end ≡ end_by stop
  pub comes : IssueComesTo (finishes stop) b
  pub empty : b.pending ≡ []
  pub is_end : IsProgramEnd end

-- more may be issued, and the next instruction is no bubble
pub record IsDue (b : BoardView) : Type 0 where
  pub going : is_idle_board b ≡ false
  pub valid : b.slots.nip.v ≡ true

-- and its word was fetched
pub record IsFetched (b : BoardView) : Type 0 where
  pub due : IsDue b
  pub fetched : b.slots.nip.e ≡ false

-- the slots after an instruction that goes on: it is XIP, and these are next
pub record IsAdvanced (old new : Pointers) (pc next : ℕ) (bubble : Bool) : Type 0 where
  pub xip : new.xip ≡ retired_pointer (pc_of old)
  pub here : pc_of new ≡ pc
  pub behind : next_of new ≡ next
  pub bubble_is : not new.nip.v ≡ bubble

-- this instruction has its turn
pub record HasTurn (i : Instr) (b : BoardView) : Type 0 where
  pub next : IsFetched b
  pub instr : IsValid i
  pub comes : IssueComesTo (choice_for (Some i) b) b

-- of two accesses, where the first is a store, the second is one to the same page
abbrev pub StoreOnOnePage : Accesses → Type 0
StoreOnOnePage a =
    1 < a.count → a.first.write ≡ true
    → (a.second.write ≡ true) × (page_number a.second.addr ≡ page_number a.first.addr)

-- and so do those of a plan that goes on
abbrev pub PlansOnePage : Plan → Type 0
PlansOnePage plan = IfGo plan (λ changes. StoreOnOnePage changes.accesses)

-- the plan that an outline stands for, by what the parts of a board show
abbrev pub planned_by : Outline → BoardView → Plan
planned_by outline b = plan_of_outline outline b.file.numbers (carry_of b.control) b.slots.fip.addr

-- what an instruction that goes on does on a board, where no register that it uses or writes waits
pub record IsPlanned (i : Instr) (effect : Effect) (b : BoardView) : Type 0 where
  pub instr : IsValid i
  pub free : busy_register (Some i) b.pending ≡ None
  pub means : Go effect ≡ plan_for (meaning_at i (completed_of b))
  pub made : AreWordAccesses (access_count_of i) effect.accesses
  pub written : IfSome effect.reg (λ write. bit_at (writes_of i) (number_of write.0) ≡ 1)
  pub flow : FlowFits effect.after effect.bubble
  pub page : StoreOnOnePage effect.accesses

-- a plan of the next instruction, and what holds of every plan of it
pub record IsPlanOf (i : Instr) (plan : Plan) (b : BoardView) : Type 0 where
  pub means : plan ≡ plan_for (meaning_at i (completed_of b))
  pub made : MakesAccesses (access_count_of i) plan
  pub written : WritesWithin (writes_of i) plan
  pub trap : TrapsForUser plan
  pub raise : RaisesListed plan
  pub flow : FlowsToWords plan
  pub page : PlansOnePage plan
