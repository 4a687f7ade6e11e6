-- What the next instruction does, as the code has it, and what a follower of a history sees.
use Rattle.std.specs.Prelude.{ℕ, Bool, true, false, List, ◌++◌, ◌≡◌, ◌+◌, ◌%◌}
use Rattle.m88_base.specs.Image.{ProgramImage}
use Rattle.m88_base.specs.Lines.{line_end}
use Rattle.m88_base.specs.Pages.{no_page}
use Rattle.m88_event.specs.Choice.{end_by}
use Rattle.m88_event.specs.EndText.{run_end_line}
use Rattle.m88_isa.specs.Address.{after_bytes}
use Rattle.m88_isa.specs.Bus.{Cells, after_accesses, in_words, listed}
use Rattle.m88_isa.specs.Effect.{recorded_change}
use Rattle.m88_isa.specs.Flow.{FlowFits}
use Rattle.m88_isa.specs.Held.{is_stop}
use Rattle.m88_isa.specs.Machine.{IsProgram, Program, State, Turn, changes, opening, outputs, state, stops, turn_at, with_written}
use Rattle.m88_isa.specs.ImageProgram.{IsProgramOf}
use Rattle.m88_isa.specs.Memory.{AreWordAccesses, IsWordAccess}
use Rattle.m88_isa.specs.declared.planned.Access.{Access}
use Rattle.m88_isa.specs.declared.planned.Effect.{Effect}
use Rattle.m88_mem.specs.DataBus.{absent_of, bus_of}
use Rattle.m88_trace.specs.Lines.{accesses_text, head_text, output_text, written_text}
use Rattle.m88_trace.specs.Trace.{trace_line_at}
use Rattle.m88_trace.specs.declared.doing.Doing.{Doing}
use Rattle.m88_trace.specs.declared.doing.Place.{Place}
use Rattle.m88_trace.specs.declared.doing.Doing.TheVariants.{Goes, Outputs, Ends}
use Rattle.m88_trace.specs.declared.follower.Follower.{Follower}

-- a turn as the code has it
abbrev pub doing_of : Turn → Doing
doing_of (changes change) = Goes (recorded_change change)
doing_of (outputs byte) = Outputs byte
doing_of (stops stop) = Ends (end_by stop)

-- the line that tells it
abbrev pub doing_line : ℕ → ℕ → ℕ → Doing → (ℕ → ℕ) → List ℕ
doing_line number at word (Goes effect) bus =
    head_text number at word ++ written_text effect.reg ++ accesses_text (listed effect.accesses) bus ++ line_end
doing_line number at word (Outputs byte) bus = head_text number at word ++ output_text byte ++ line_end
doing_line number at word (Ends end) bus = run_end_line end

-- registers, carry, both addresses and the words of memory, as a follower has them
pub record Seen : Type 0 where
  pub regs : List ℕ
  pub carry : Bool
  pub pc : ℕ
  pub next : ℕ
  pub bus : ℕ → ℕ

-- those of a follower
abbrev pub seen_by_follower : Follower → Seen
seen_by_follower f = record { regs = f.regs; carry = f.carry; pc = f.pc; next = f.next; bus = bus_of f.memory }

-- those of a state
unfoldable pub seen_at_state : State → Seen
seen_at_state s = record { regs = s.regs; carry = s.carry; pc = s.pc; next = s.next; bus = in_words s.memory }

-- registers and words after the changes of an instruction
abbrev pub cells_by : Effect → Seen → Cells
cells_by effect s =
    after_accesses (listed effect.accesses) (record { regs = with_written effect.reg s.regs; bus = s.bus })

-- what a follower sees after the next instruction
unfoldable pub after_doing : Doing → Seen → Seen
after_doing (Goes effect) s = record {
  regs = (cells_by effect s).regs;
  carry = effect.carry;
  pc = effect.after.0;
  next = effect.after.1;
  bus = (cells_by effect s).bus;
}
after_doing (Outputs byte) s = record s { pc = s.next; next = after_bytes s.next 4 }
after_doing (Ends end) s = s

-- what an instruction does can be followed: its accesses are those of words, and it goes on at words
abbrev pub CanFollow : Doing → Type 0
CanFollow (Goes effect) =
    AreWordAccesses effect.accesses.count effect.accesses × FlowFits effect.after effect.bubble
CanFollow _ = Unit {0}

-- the program ends by it
abbrev pub ends_by : Doing → Bool
ends_by (Goes effect) = false
ends_by (Outputs byte) = false
ends_by (Ends end) = true

-- the registers and the words of a follower
abbrev pub cells_of : Follower → Cells
cells_of f = record { regs = f.regs; bus = bus_of f.memory }

-- an instruction stands at a word, and so does the one that follows
pub record IsPlaced (place : Place) : Type 0 where
  pub here : place.pc % 4 ≡ 0
  pub behind : place.next % 4 ≡ 0

-- a follower stands at words, and no page is absent
pub record IsReady (f : Follower) : Type 0 where
  pub here : f.pc % 4 ≡ 0
  pub behind : f.next % 4 ≡ 0
  pub present : absent_of f.memory ≡ no_page

-- what an instruction does can be followed from where a follower stands
pub record CanDo (doing : Doing) (f : Follower) : Type 0 where
  pub ready : IsReady f
  pub follows : CanFollow doing

-- an access can be made there
pub record CanMake (a : Access) (f : Follower) : Type 0 where
  pub ready : IsReady f
  pub made : IsWordAccess a

-- a follower begins at the opening state of the program of an image
pub record BeginsHistory (image : ProgramImage) (f : Follower) : Type 0 where
  pub ready : IsReady f
  pub image_is : f.memory.image ≡ image
  pub seen : (p : Program) → IsProgramOf image p → seen_by_follower f ≡ seen_at_state (opening p)

-- an instruction is carried out, and its line stands behind what was there
pub record HasDone (number word : ℕ) (doing : Doing) (old new : Follower) (before after : List ℕ) : Type 0 where
  pub ready : IsReady new
  pub image : new.memory.image ≡ old.memory.image
  pub line : after ≡ before ++ doing_line number old.pc word doing (bus_of old.memory)
  pub seen : seen_by_follower new ≡ after_doing doing (seen_by_follower old)

-- these are the registers and the words of memory, and nothing else changed
pub record HasCells (cells : Cells) (old new : Follower) : Type 0 where
  pub cells_are : cells_of new ≡ cells
  pub carry : new.carry ≡ old.carry
  pub pc : new.pc ≡ old.pc
  pub next : new.next ≡ old.next
  pub image : new.memory.image ≡ old.memory.image
  pub absent : absent_of new.memory ≡ absent_of old.memory

-- from the state of a history with a number a follower wrote this line, and stands at the next state
pub record WroteLine (p : Program) (number : ℕ) (line : List ℕ) (stopped : Bool) (new : Follower) : Type 0 where
  pub text : line ≡ trace_line_at p number (state p number)
  pub seen : seen_by_follower new ≡ seen_at_state (state p (number + 1))
  pub ended : stopped ≡ is_stop (turn_at p (state p number))

-- a follower goes on by a line, from the state of a history with that number to the next
pub record IsNextTraceLine (number : ℕ) (line : List ℕ) (old : Follower) (stopped : Bool) (new : Follower)
    : Type 0 where
  pub ready : IsReady new
  pub image : new.memory.image ≡ old.memory.image
  pub follows : (p : Program) → IsProgram p → IsProgramOf old.memory.image p → p.mxm ≡ false
      → seen_by_follower old ≡ seen_at_state (state p number) → WroteLine p number line stopped new
