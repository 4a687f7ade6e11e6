-- What a letter makes the board do: the first that applies.
use Rattle.std.specs.Prelude.{ℕ, Bool, List, [], ◌∷◌, Option, Some, None, ◌==◌, ◌||◌, false, if◌then◌else◌}
use Rattle.m88_base.specs.Reg.{reg_of}
use Rattle.m88_base.specs.Pages.{page_number}
use Rattle.m88_isa.specs.Effect.{Change}
use Rattle.m88_isa.specs.Held.{Hold, busy, full, held, instruction_at, sync}
use Rattle.m88_isa.specs.Machine.{Program, Stop, Turn, by_vector, changes, exits, outputs, stops, turn}
use Rattle.m88_isa.specs.declared.planned.Access.{Access}
use Rattle.m88_event.specs.Situation.{Situation}
use Rattle.m88_event.specs.declared.happened.End.{End}
use Rattle.m88_event.specs.declared.happened.End.TheVariants.{Exit, Vector}
use Rattle.m88_event.specs.declared.happened.Happened.{Happened}
use Rattle.m88_event.specs.declared.happened.Happened.TheVariants as happened
use Rattle.m88_event.specs.declared.happened.Why.{Why}
use Rattle.m88_event.specs.declared.happened.Why.TheVariants as why
use Rattle.m88_event.specs.declared.letter.Letter.{Letter}
use Rattle.m88_event.specs.declared.letter.Letter.TheVariants.{Issue, Answer, Evict}
use Rattle.m88_event.specs.declared.record.Record.{Record}

-- nothing; it passes a bubble; it holds the next instruction; it retires the next instruction, with its changes or
-- with a byte that is put out for it; it ends the program; it answers the oldest transaction, or that one faults;
-- it makes every page absent
pub data Choice : Type 0 where
  idles : Choice
  passes : Choice
  holds : Hold → Choice
  issues : Change → Choice
  serves : ℕ → Choice
  finishes : Stop → Choice
  replies : Choice
  faults : Choice
  evicts : Choice

-- the next instruction in its turn, which nothing holds
abbrev pub turn_choice : Turn → Choice
turn_choice (changes change) = issues change
turn_choice (outputs byte) = serves byte
turn_choice (stops stop) = finishes stop

-- the next instruction, where something may hold it
abbrev pub next_choice : Option Hold → Turn → Choice
next_choice (Some why) turn = holds why
next_choice None turn = turn_choice turn

-- the letter `i`: idle where no more may be issued, else a bubble is passed, else the next instruction
abbrev pub issue_choice : Bool → Bool → Option Hold → Turn → Choice
issue_choice idle bubble why turn = if idle then idles else if bubble then passes else next_choice why turn

-- the letter `r`: idle where nothing is pending, else the oldest transaction, by its page
abbrev pub answer_choice : List Access → (ℕ → Bool) → Choice
answer_choice [] absent = idles
answer_choice (a ∷ pending) absent = if absent (page_number a.addr) then faults else replies

-- the turn of the next instruction
abbrev pub next_turn : Program → Situation → Turn
next_turn p s = turn p s.regs s.carry s.mxm s.pc s.next

-- what a letter makes of a situation
abbrev pub choice_of : Program → Letter → Situation → Choice
choice_of p Issue s =
    issue_choice s.idle s.bubble (held (instruction_at p s.pc) (next_turn p s) s.pending) (next_turn p s)
choice_of p Answer s = answer_choice s.pending s.absent
choice_of p Evict s = evicts

-- a page is that of one of some accesses
abbrev pub touches_page : List Access → ℕ → Bool
touches_page [] page = false
touches_page (a ∷ accesses) page = page_number a.addr == page || touches_page accesses page

-- how a history that ended did so
abbrev pub end_by : Stop → End
end_by (exits at) = Exit at
end_by (by_vector vector at) = Vector vector at

-- why an instruction is held
abbrev pub why_of : Hold → Why
why_of (busy register) = why.Busy (reg_of register)
why_of full = why.Full
why_of sync = why.Sync

-- what an event says that a choice is made at; a fault says its record
abbrev pub said : Choice → Record → Happened
said idles fault = happened.Idle
said passes fault = happened.Bubble
said (holds hold) fault = happened.Stalled (why_of hold)
said (issues change) fault = happened.Issued
said (serves byte) fault = happened.Served byte
said (finishes stop) fault = happened.Ended (end_by stop)
said replies fault = happened.Answered
said faults fault = happened.Faulted fault
said evicts fault = happened.Evicted

-- an event that serves a trap or ends the program
abbrev pub ServesOrEnds : Happened → Type 0
ServesOrEnds (happened.Served byte) = Unit {0}
ServesOrEnds (happened.Ended end) = Unit {0}
ServesOrEnds _ = ⊥
