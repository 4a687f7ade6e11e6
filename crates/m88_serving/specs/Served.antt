-- What is written for an input: the accesses that the handler must make, in order, and what they come to; or the line
-- that refuses the input.
use Rattle.std.specs.Prelude.{◌≡◌, ℕ, zero, suc, Bool, ◌+◌, ◌==◌, List, [], ◌++◌, Ok, Err, codes, decimal, nat_le, flat_map, slice_index_or, if◌then◌else◌}
use Rattle.m88_base.specs.Hex.{hex8}
use Rattle.m88_base.specs.Lines.{line_end}
use Rattle.m88_base.specs.Reg.{number_of}
use Rattle.m88_base.specs.RegisterSet.{registers_in}
use Rattle.m88_base.specs.Refusal.{Refusal, refusal_line}
use Rattle.m88_base.specs.Shown.{IsShownOf}
use Rattle.m88_base.specs.declared.refused.Refused.{Refused}
use Rattle.m88_base.specs.declared.triple.Triple.{Triple}
use Rattle.m88_isa.specs.Bus.{changed_words, loaded}
use Rattle.m88_isa.specs.Lanes.{touched_below}
use Rattle.m88_isa.specs.Triples.{access_in, is_valid_triple}
use Rattle.m88_isa.specs.declared.planned.Access.{Access}
use Rattle.m88_monitor.specs.Serving.{Serving, after_service, after_triple, triple_at}
use Rattle.m88_report.specs.Report.{named_word, word_line}
use Rattle.m88_serving.specs.Cases.{Case}
use Rattle.m88_serving.specs.Faults.{serve_reason}
use Rattle.m88_serving.specs.Serving.{serving_of_case}
use Rattle.m88_serving.specs.Verdict.{serve_verdict}
use Rattle.m88_serving.specs.declared.fault.ServeFault.{ServeFault}

-- a mark, where it is set
abbrev pub mark : List ℕ → Bool → List ℕ
mark text set = if set then text else []

-- what an access is called that touches fewer bytes than a word has
abbrev pub size_text : ℕ → List ℕ
size_text en =
    if touched_below en 4 == 4 then [] else if touched_below en 4 == 2 then codes " half" else codes " byte"

-- the offset of the first byte that an enable names
abbrev pub first_touched : ℕ → ℕ
first_touched en = if nat_le 8 en then 0 else if nat_le 4 en then 1 else if nat_le 2 en then 2 else 3

-- the address of the first byte of an access
abbrev pub first_byte_of : Access → ℕ
first_byte_of a = a.addr + first_touched a.en

-- a byte address behind a word, and what is stored or loaded there
abbrev pub there_text : List ℕ → ℕ → ℕ → List ℕ
there_text word place value = word ++ hex8 place ++ codes ": " ++ hex8 value

-- a load, with the datum that it puts into its register
unfoldable pub load_text : Access → ℕ → List ℕ
load_text a datum =
    codes " load" ++ mark (codes " signed") a.signed ++ size_text a.en ++ codes " r" ++ decimal (number_of a.reg)
    ++ there_text (codes " from ") (first_byte_of a) datum

-- a store, with the whole register whose low bytes are stored
unfoldable pub store_text : Access → List ℕ
store_text a = codes " store" ++ size_text a.en ++ there_text (codes " to ") (first_byte_of a) a.value

-- the line of an access of a transaction by its place, with the datum of a load
unfoldable pub access_line : ℕ → Access → ℕ → List ℕ
access_line index a datum =
    codes "t" ++ decimal index ++ mark (codes " exchange") a.lock
    ++ (if a.write then store_text a else load_text a datum) ++ line_end

-- the line of a transaction, where it is valid, over these words of data memory
abbrev pub transaction_line : ℕ → Triple → (ℕ → ℕ) → List ℕ
transaction_line index t bus =
    if is_valid_triple t then access_line index (access_in t) (loaded (access_in t) bus) else []

-- the line of a transaction by its place, before its service
abbrev pub triple_text : ℕ → Serving → List ℕ
triple_text index s = transaction_line index (triple_at index s.control) s.bus

-- the lines of the three transactions, each behind the service of those before it
abbrev pub transactions_text : Serving → List ℕ
transactions_text s =
    triple_text 0 s ++ triple_text 1 (after_triple 0 s) ++ triple_text 2 (after_triple 1 (after_triple 0 s))

-- the line of a register's value, where it is a member of a set
abbrev pub awaited_text : (ℕ → Bool) → List ℕ → ℕ → List ℕ
awaited_text set numbers r =
    if set r then named_word (codes "r" ++ decimal r) (slice_index_or numbers r 0) ++ line_end else []

-- the lines of the members among the registers below a number
unfoldable pub registers_below : (ℕ → Bool) → List ℕ → ℕ → List ℕ
registers_below set numbers zero = []
registers_below set numbers (suc r) = registers_below set numbers r ++ awaited_text set numbers r

-- the lines of SSBR and of the two slots
abbrev pub slots_text : ℕ → ℕ → ℕ → List ℕ
slots_text ssbr snip sfip =
    named_word (codes "ssbr") ssbr ++ line_end ++ named_word (codes "snip") snip ++ named_word (codes " sfip") sfip
    ++ line_end

-- what is left behind: the registers that were waited for, the words that differ, SSBR, and the two slots at which
-- execution goes on
abbrev pub left_text : Serving → Serving → List ℕ
left_text before after =
    registers_below (registers_in before.control.ssbr) after.numbers 32
    ++ flat_map word_line (changed_words before.bus after.bus)
    ++ slots_text after.control.ssbr after.control.snip after.control.sfip

-- what is written for what a handler finds
unfoldable pub served_text : Serving → List ℕ
served_text s = transactions_text s ++ left_text s (after_service s)

-- where and why an input is refused, at column 1
abbrev pub turned_down : ServeFault → Refusal
turned_down fault = record { line = fault.line; column = 1; reason = serve_reason fault.kind }

-- the text is that of an input that is accepted
pub record IsServed (input text : List ℕ) : Type 0 where
  pub told : Case
  pub accepted : serve_verdict input ≡ Ok told
  pub is_text : text ≡ served_text (serving_of_case told)

-- the text is that of an input that is refused
pub record IsTurnedDown (input text : List ℕ) : Type 0 where
  pub fault : ServeFault
  pub refused : serve_verdict input ≡ Err fault
  pub is_text : text ≡ refusal_line (turned_down fault)

-- where and why an input is refused
pub record IsCaseRefusal (input : List ℕ) (refusal : Refusal) : Type 0 where
  pub fault : ServeFault
  pub refused : serve_verdict input ≡ Err fault
  pub is : refusal ≡ turned_down fault

-- what is told of an input that is refused: where and why, and the line there
abbrev pub IsToldOf : List ℕ → Refused → Type 0
IsToldOf input told = IsCaseRefusal input told.refusal × IsShownOf input told
