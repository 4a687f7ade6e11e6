-- The text of a trace's lines (the format of traces, docs/FORMATS.md).
use Rattle.std.specs.Prelude.{ℕ, List, [], ◌∷◌, ◌++◌, Option, Some, None, codes, decimal, if◌then◌else◌}
use Rattle.m88_base.specs.Hex.{hex2, hex8, hex_digit}
use Rattle.m88_base.specs.Lines.{line_end}
use Rattle.m88_base.specs.Reg.{number_of}
use Rattle.m88_base.specs.declared.reg.Reg.{Reg}
use Rattle.m88_event.specs.Choice.{end_by}
use Rattle.m88_event.specs.EndText.{run_end_line}
use Rattle.m88_isa.specs.Bus.{bus_after, loaded}
use Rattle.m88_isa.specs.History.{change_accesses}
use Rattle.m88_isa.specs.Machine.{Turn, changes, outputs, stops}
use Rattle.m88_isa.specs.declared.planned.Access.{Access}

-- the number of a step, and the address and the word of its instruction
unfoldable pub head_text : ℕ → ℕ → ℕ → List ℕ
head_text number at word = decimal number ++ codes " " ++ hex8 at ++ codes " " ++ hex8 word

-- the register that an instruction writes at once, if it writes one, and its new value
unfoldable pub written_text : Option (Reg × ℕ) → List ℕ
written_text None = []
written_text (Some written) = codes " r" ++ decimal (number_of written.0) ++ codes " " ++ hex8 written.1

-- an access up to its datum: whether it loads or stores, the address of its word, and the enable of its bytes
unfoldable pub access_head : Access → List ℕ
access_head a =
    (if a.write then codes " s " else codes " l ")
    ++ hex8 a.addr ++ codes " " ++ (hex_digit a.en ∷ []) ++ codes " "

-- its datum: of a store the register word, of a load what it gets of the words of memory
unfoldable pub datum_by : Access → (ℕ → ℕ) → ℕ
datum_by a bus = if a.write then a.value else loaded a bus

-- an access at the words of memory that it meets
abbrev pub access_text : Access → (ℕ → ℕ) → List ℕ
access_text a bus = access_head a ++ hex8 (datum_by a bus)

-- accesses in order, each at the words that those before it left
unfoldable pub accesses_text : List Access → (ℕ → ℕ) → List ℕ
accesses_text [] bus = []
accesses_text (a ∷ accesses) bus = access_text a bus ++ accesses_text accesses (bus_after a bus)

-- a byte that is put out
unfoldable pub output_text : ℕ → List ℕ
output_text byte = codes " o " ++ hex2 byte

-- the line of a step with a number by the turn of its instruction, at the words of memory before it: what it writes at
-- once and then its accesses, or the byte that it puts out; a turn that ends the program has the line of its end
abbrev pub turn_line : ℕ → ℕ → ℕ → Turn → (ℕ → ℕ) → List ℕ
turn_line number at word (changes change) bus =
    head_text number at word ++ written_text change.register ++ accesses_text (change_accesses change) bus ++ line_end
turn_line number at word (outputs byte) bus = head_text number at word ++ output_text byte ++ line_end
turn_line number at word (stops stop) bus = run_end_line (end_by stop)
