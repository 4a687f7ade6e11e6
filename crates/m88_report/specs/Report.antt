-- The report of a run, line by line (the format of reports, docs/FORMATS.md).
use Rattle.std.specs.Prelude.{ℕ, Bool, List, ◌++◌, Option, Some, None, codes, decimal, drop, length, map, take, ◌==◌, if◌then◌else◌}
use Rattle.std.specs.List.{enumerate_from, flat_map}
use Rattle.m88_base.specs.Hex.{hex2, hex8}
use Rattle.m88_base.specs.Lines.{line_end}
use Rattle.m88_base.specs.declared.triple.Triple.{Triple}
use Rattle.m88_event.specs.EndText.{run_end_line}
use Rattle.m88_event.specs.declared.outcome.Outcome.{Outcome}
use Rattle.m88_event.specs.declared.record.Record.{Record}

-- a line with a name and a count
abbrev pub count_line : List ℕ → ℕ → List ℕ
count_line name n = name ++ codes " " ++ decimal n ++ line_end

-- a register's value; of one that waits for a load it isn't known
abbrev pub value_text : Option ℕ → List ℕ
value_text None = codes "--------"
value_text (Some value) = hex8 value

-- a register in its line
abbrev pub register_text : Option ℕ → List ℕ
register_text register = codes " " ++ value_text register

-- a line with a name and registers
abbrev pub register_line : List ℕ → List (Option ℕ) → List ℕ
register_line name registers = name ++ flat_map register_text registers ++ line_end

-- the four lines of the 32 registers, eight in each
abbrev pub register_lines : List (Option ℕ) → List ℕ
register_lines registers =
    register_line (codes "r0") (take 8 registers)
    ++ register_line (codes "r8") (take 8 (drop 8 registers))
    ++ register_line (codes "r16") (take 8 (drop 16 registers))
    ++ register_line (codes "r24") (take 8 (drop 24 registers))

-- the line of the carry
abbrev pub carry_line : Bool → List ℕ
carry_line carry = codes "carry " ++ (if carry then codes "1" else codes "0") ++ line_end

-- the output, a byte in two digits, or a `-` where there is none
abbrev pub out_text : List ℕ → List ℕ
out_text out = if length out == 0 then codes "-" else flat_map hex2 out

-- the line of the output
abbrev pub out_line : List ℕ → List ℕ
out_line out = codes "out " ++ out_text out ++ line_end

-- the line of a word of data memory: its address and its value
abbrev pub word_line : ℕ × ℕ → List ℕ
word_line word = codes "mem " ++ hex8 word.0 ++ codes " " ++ hex8 word.1 ++ line_end

-- a word with its name
abbrev pub named_word : List ℕ → ℕ → List ℕ
named_word name word = name ++ codes " " ++ hex8 word

-- the line of what a record says of the processor: its status, the three instruction pointers and the registers that
-- wait for a load
unfoldable pub status_line : Record → List ℕ
status_line r =
    named_word (codes "epsr") r.epsr ++ named_word (codes " sxip") r.sxip ++ named_word (codes " snip") r.snip
    ++ named_word (codes " sfip") r.sfip ++ named_word (codes " ssbr") r.ssbr ++ line_end

-- the line of a triple with its number: DMT, DMD and DMA
unfoldable pub triple_line : ℕ × Triple → List ℕ
triple_line t =
    codes "t" ++ decimal t.0 ++ codes " " ++ hex8 t.1.dmt ++ codes " " ++ hex8 t.1.dmd ++ codes " " ++ hex8 t.1.dma
    ++ line_end

-- the four lines of a record: the processor, and the triples from t0, the oldest, on
abbrev pub record_lines : Record → List ℕ
record_lines r = status_line r ++ flat_map triple_line (enumerate_from 0 r.triples)

-- the line that begins a data fault: its number and that of its event
abbrev pub fault_line : ℕ → ℕ → List ℕ
fault_line number event = codes "fault " ++ decimal number ++ codes " event " ++ decimal event ++ line_end

-- the lines of a data fault with its number
unfoldable pub fault_lines : ℕ × Record → List ℕ
fault_lines fault = fault_line fault.0 fault.1.event ++ record_lines fault.1

-- the whole report: the end, the instructions retired, registers, carry and output, each word of data memory that
-- changed, the counts of events, of transactions answered with data and of data faults, and each data fault, from 1
unfoldable pub report_of : Outcome → List ℕ
report_of o =
    run_end_line o.end
    ++ count_line (codes "retired") o.retired
    ++ register_lines (map Some o.regs)
    ++ carry_line o.carry
    ++ out_line o.out
    ++ flat_map word_line o.changed
    ++ count_line (codes "events") o.events
    ++ count_line (codes "answers") o.answers
    ++ count_line (codes "faults") (length o.records)
    ++ flat_map fault_lines (enumerate_from 1 o.records)
