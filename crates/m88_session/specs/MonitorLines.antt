-- What the commands of the monitor write of a moment of the timeline (the monitor's text, docs/FORMATS.md).
use Rattle.std.specs.Prelude.{ℕ, zero, suc, List, [], ◌∷◌, ◌++◌, Option, Some, None, codes, decimal, length, map, ◌+◌}
use Rattle.std.specs.List.{flat_map, range_with_len}
use Rattle.m88_base.specs.Hex.{hex2, hex8}
use Rattle.m88_base.specs.Lines.{line_end}
use Rattle.m88_base.specs.Reg.{number_of}
use Rattle.m88_isa.specs.Address.{after_bytes, word_address}
use Rattle.m88_isa.specs.Held.{instruction_at}
use Rattle.m88_isa.specs.History.{bus_at, pending_at}
use Rattle.m88_isa.specs.Machine.{Program, state}
use Rattle.m88_isa.specs.declared.instr.Instr.{Instr}
use Rattle.m88_disasm.specs.Text.{instr_text}
use Rattle.m88_event.specs.EndText.{run_end_line}
use Rattle.m88_event.specs.Letters.{letter_byte}
use Rattle.m88_event.specs.Local.{register_shown}
use Rattle.m88_event.specs.Timeline.{Moment, Run, nip_at, said_at}
use Rattle.m88_event.specs.declared.happened.Happened.{Happened}
use Rattle.m88_event.specs.declared.happened.Happened.TheVariants as happened
use Rattle.m88_event.specs.declared.happened.Why.{Why}
use Rattle.m88_event.specs.declared.happened.Why.TheVariants as why
use Rattle.m88_event.specs.declared.letter.Letter.{Letter}
use Rattle.m88_report.specs.Report.{carry_line, register_lines, word_line}

-- the line of the counts: the events, the instructions retired, the transactions done and those that are pending
unfoldable pub counts_line : ℕ → ℕ → ℕ → ℕ → List ℕ
counts_line events issued done pending =
    codes "events " ++ decimal events ++ codes " issued " ++ decimal issued ++ codes " done " ++ decimal done
    ++ codes " pending " ++ decimal pending ++ line_end

-- that of a moment
unfoldable pub counts_text : Program → Moment → List ℕ
counts_text p m = counts_line m.events m.retired m.done (length (pending_at p m.retired m.done))

-- r0 to r31 as they are shown: one that waits for a load has no value
unfoldable pub registers_at : Program → Moment → List (Option ℕ)
registers_at p m = map (register_shown p m) (range_with_len 0 32)

-- the four lines of the registers and that of the carry
unfoldable pub registers_text : Program → Moment → List ℕ
registers_text p m = register_lines (registers_at p m) ++ carry_line (state p m.retired).carry

-- the words of memory from an address on, so many, modulo 2^32
unfoldable pub words_from : (ℕ → ℕ) → ℕ → ℕ → List (ℕ × ℕ)
words_from bus a zero = []
words_from bus a (suc n) = (a, bus a) ∷ words_from bus (after_bytes a 4) n

-- the lines of so many words of the data bus, from the word of an address on
unfoldable pub words_text : Program → Moment → ℕ → ℕ → List ℕ
words_text p m a n = flat_map word_line (words_from (bus_at p m.retired m.done) (word_address a) n)

-- the line of a breakpoint
unfoldable pub breakpoint_line : ℕ → List ℕ
breakpoint_line a = codes "break " ++ hex8 a ++ line_end

-- why the next instruction is held
abbrev pub why_line : Why → List ℕ
why_line (why.Busy register) = codes "busy r" ++ decimal (number_of register) ++ line_end
why_line why.Full = codes "full" ++ line_end
why_line why.Sync = codes "sync" ++ line_end

-- the text of an instruction, where there is one, as wherever one is issued
abbrev pub text_of_any : Option Instr → List ℕ
text_of_any None = []
text_of_any (Some i) = instr_text i

-- the line of an issue: the address, and the instruction there
unfoldable pub issue_line : ℕ → Option Instr → List ℕ
issue_line address instruction = codes "issue " ++ hex8 address ++ codes " " ++ text_of_any instruction ++ line_end

-- what an event did, to the end of the line. Of an issue and of an output the address is told, and the instruction
-- that is there; of a fault the number of its record; and the end of the program as the report tells it.
unfoldable pub happened_line : ℕ → Option Instr → ℕ → Happened → List ℕ
happened_line address instruction fault happened.Issued = issue_line address instruction
happened_line address instruction fault (happened.Served byte) =
    codes "output " ++ hex8 address ++ codes " " ++ hex2 byte ++ line_end
happened_line address instruction fault happened.Bubble = codes "bubble" ++ line_end
happened_line address instruction fault (happened.Stalled why) = why_line why
happened_line address instruction fault happened.Answered = codes "answer" ++ line_end
happened_line address instruction fault (happened.Faulted record') = codes "fault " ++ decimal fault ++ line_end
happened_line address instruction fault happened.Evicted = codes "evict" ++ line_end
happened_line address instruction fault happened.Idle = codes "idle" ++ line_end
happened_line address instruction fault (happened.Ended end) = run_end_line end

-- the number of an event and its letter
unfoldable pub letter_text : ℕ → Letter → List ℕ
letter_text number letter = decimal number ++ codes " " ++ letter_byte letter ∷ codes " "

-- the line of the event of a letter at a moment: its number, its letter, what it did. What is issued, and the trap that
-- puts a byte out, is the instruction at NIP; a record has the number behind those before it.
unfoldable pub event_line : Run → Letter → Moment → List ℕ
event_line r letter m =
    letter_text (m.events + 1) letter
    ++ happened_line (nip_at r.program m).addr (instruction_at r.program (nip_at r.program m).addr) (length m.records + 1)
    (said_at r letter m)
