-- How a program ended is how it ends at the state that was reached.
use Rattle.std.specs.Prelude.{Bool, true, false, Option, Some, None, IfSome, ◌≡◌, is_some}
use Rattle.std.proofs.Common.{refl, sym, ap, subst, ◌∙◌}
use Rattle.m88_ctrl.specs.ControlRegisters.{ControlRegisters, carry_of, mxm_of}
use Rattle.m88_event.specs.Choice.{end_by, finishes, issue_choice}
use Rattle.m88_event.specs.Local.{choice_by, situation_of}
use Rattle.m88_event.specs.Timeline.{end_of_turn}
use Rattle.m88_event.specs.declared.happened.End.{End}
use Rattle.m88_event.specs.declared.letter.Letter.TheVariants.{Issue}
use Rattle.m88_isa.specs.Bus.{after_accesses}
use Rattle.m88_isa.specs.Held.{Hold}
use Rattle.m88_isa.specs.History.{Completed}
use Rattle.m88_isa.specs.ImageProgram.{IsProgramOf}
use Rattle.m88_isa.specs.Machine.{Program, Stop, Turn, changes, outputs, stops}
use Rattle.m88_mem.specs.DataBus.{MemoryView, bus_of}
use Rattle.m88_board.specs.Board.{BoardView, cells_in, completed_of, local_of, next_of, pc_of}
use Rattle.m88_board.specs.Kept.{EndsSo, turn_by}
use Rattle.m88_board.specs.Inside.Turns.{ComesToEnd}

-- the letter `i` ends the program only by the turn of the next instruction
ends_turn : (idle bubble : Bool) (why : Option Hold) (t : Turn) (stop : Stop) →
    issue_choice idle bubble why t ≡ finishes stop → end_of_turn t ≡ end_by stop
ends_turn true bubble why t stop h = absurd cc
ends_turn false true why t stop h = absurd cc
ends_turn false false (Some hold) t stop h = absurd cc
ends_turn false false None (changes change) stop h = absurd cc
ends_turn false false None (outputs byte) stop h = absurd cc
ends_turn false false None (stops s) stop h = let same : s ≡ stop = cc in ap end_by same

-- and so as the program does at the state reached
stops_so : (p : Program) (b : BoardView) (stop : Stop) → choice_by p b.limit Issue (local_of b) ≡ finishes stop →
    end_of_turn (turn_by p (completed_of b)) ≡ end_by stop
unfolding situation_of local_of
stops_so p b stop comes = ends_turn _ _ _ _ stop comes

-- the state reached is the same where the carry is
same_state : (b : BoardView) (control : ControlRegisters) (end : End) → carry_of control ≡ carry_of b.control →
    mxm_of control ≡ mxm_of b.control →
    completed_of (record b { control = control; book = record b.book { end = Some end } }) ≡ completed_of b
unfolding completed_of
same_state b control end carry mxm = λ i. record {
  regs = (after_accesses b.pending (cells_in b.file b.memory)).regs;
  carry = carry i;
  mxm = mxm i;
  pc = pc_of b.slots;
  next = next_of b.slots;
  bus = (after_accesses b.pending (cells_in b.file b.memory)).bus;
  out = b.out;
}

-- the program ends
pub ends_now : (b : BoardView) (control : ControlRegisters) (end : End) → ComesToEnd end b →
    carry_of control ≡ carry_of b.control → mxm_of control ≡ mxm_of b.control → EndsSo (record b { control = control; book = record b.book { end = Some end } }) end
ends_now b control end comes carry mxm = λ p of.
    ap (λ (c : Completed). end_of_turn (turn_by p c)) (same_state b control end carry mxm)
    ∙ stops_so p b comes.stop (comes.comes p of)
    ∙ sym comes.ends_by

-- the state reached is the same where the words are
same_words : (b : BoardView) (memory : MemoryView) → bus_of memory ≡ bus_of b.memory →
    completed_of (record b { memory = memory }) ≡ completed_of b
unfolding completed_of
same_words b memory bus = λ i. record {
  regs = (after_accesses b.pending (record { regs = b.file.numbers; bus = bus i })).regs;
  carry = carry_of b.control;
  mxm = mxm_of b.control;
  pc = pc_of b.slots;
  next = next_of b.slots;
  bus = (after_accesses b.pending (record { regs = b.file.numbers; bus = bus i })).bus;
  out = b.out;
}

-- how it ended stays so
pub still_ends : (b : BoardView) (memory : MemoryView) (ended : Option End) → memory.image ≡ b.memory.image →
    bus_of memory ≡ bus_of b.memory → IfSome ended (EndsSo b) → IfSome ended (EndsSo (record b { memory = memory }))
still_ends b memory None image bus ends = tt
still_ends b memory (Some end) image bus ends = λ p of.
    ap (λ (c : Completed). end_of_turn (turn_by p c)) (same_words b memory bus)
    ∙ ends p (subst (λ i. IsProgramOf i p) image of)

-- it hasn't ended
pub no_end : (ended : Option End) → is_some ended ≡ false → ended ≡ None
no_end None going = refl
no_end (Some end) going = absurd cc
