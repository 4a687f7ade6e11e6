-- What holds of every input and of every word.
use Rattle.std.specs.Prelude.{◌≡◌, ◌↔◌, ◌⊎◌, ◌<◌, ◌%◌, ◌^◌, ◌++◌, ℕ, All, List, [], ◌∷◌, None, Ok, flat_map, slice_index, true}
use Rattle.m88_base.specs.RegisterSet.{registers_in}
use Rattle.m88_base.specs.declared.reg.Reg.{Reg}
use Rattle.m88_base.specs.declared.triple.Triple.{Triple}
use Rattle.m88_event.specs.Run.{moment_after}
use Rattle.m88_event.specs.Timeline.{Moment, Run, record_at}
use Rattle.m88_event.specs.declared.record.Record.{Record}
use Rattle.m88_isa.specs.Bus.{in_words}
use Rattle.m88_isa.specs.History.{bus_at, pending_at}
use Rattle.m88_isa.specs.Machine.{IsProgram, state}
use Rattle.m88_isa.specs.Memory.{Touch, access_of, touches_of}
use Rattle.m88_isa.specs.Triples.{dmt_of}
use Rattle.m88_isa.specs.declared.instr.MemOp.{MemOp}
use Rattle.m88_isa.specs.declared.planned.Access.{Access}
use Rattle.m88_monitor.specs.Serving.{Serving, after_service}
use Rattle.m88_serving.specs.Cases.{Case}
use Rattle.m88_report.specs.Report.{record_lines, word_line}
use Rattle.m88_serving.specs.Faults.{is_dmt, repeated_from}
use Rattle.m88_serving.specs.Served.{IsServed, served_text}
use Rattle.m88_serving.specs.Serving.{named_bus, serving_of_case, serving_with}
use Rattle.m88_serving.specs.Verdict.{serve_verdict}

-- one of some touches has this DMT
abbrev pub IsDmtAmong : ℕ → List Touch → Type 0
IsDmtAmong dmt [] = ⊥
IsDmtAmong dmt (t ∷ touches) = (dmt ≡ dmt_of (access_of t)) ⊎ IsDmtAmong dmt touches

-- an access of a memory mnemonic has this DMT
pub record IsDmtOfAnAccess (dmt : ℕ) : Type 0 where
  pub op : MemOp
  pub d : Reg
  pub value : ℕ
  pub second : ℕ
  pub place : ℕ
  pub among : IsDmtAmong dmt (touches_of op d value second place)

-- a word is taken as a DMT exactly where an access has it
abbrev pub EachDmtIsOfAnAccess : Type 0
EachDmtIsOfAnAccess = (dmt : ℕ) → is_dmt dmt ≡ true ↔ IsDmtOfAnAccess dmt

-- behind the service of what is accepted no register waits
abbrev pub EachLeavesNoneWaiting : Type 0
EachLeavesNoneWaiting =
    (input : List ℕ) (told : Case) → serve_verdict input ≡ Ok told
    → (after_service (serving_of_case told)).control.ssbr ≡ 0

-- the three words of a transaction have 32 bits, as a board has them
pub record IsTripleOfWords (t : Triple) : Type 0 where
  pub dmt : t.dmt < 2 ^ 32
  pub dmd : t.dmd < 2 ^ 32
  pub dma : t.dma < 2 ^ 32

-- and so have all of a record
pub record IsRecordOfWords (r : Record) : Type 0 where
  pub epsr : r.epsr < 2 ^ 32
  pub sxip : r.sxip < 2 ^ 32
  pub snip : r.snip < 2 ^ 32
  pub sfip : r.sfip < 2 ^ 32
  pub ssbr : r.ssbr < 2 ^ 32
  pub triples : All IsTripleOfWords r.triples

-- a word of data memory with its address, as the monitor shows it
pub record IsShownWord (word : ℕ × ℕ) : Type 0 where
  pub aligned : word.0 % 4 ≡ 0
  pub address : word.0 < 2 ^ 32
  pub value : word.1 < 2 ^ 32

-- words are those of data memory where some accesses go: none is named twice, and at the address of each access there
-- stands what is named there, 0 where none is
pub record AreWordsAt (accesses : List Access) (bus : ℕ → ℕ) (words : List (ℕ × ℕ)) : Type 0 where
  pub shown : All IsShownWord words
  pub once : repeated_from 5 [] words ≡ None
  pub agree : All (λ a. named_bus words a.addr ≡ bus a.addr) accesses

-- the lines that m88 shows of a data fault, and those of words
abbrev pub shown_fault : Record → List (ℕ × ℕ) → List ℕ
shown_fault r words = record_lines r ++ flat_map word_line words

-- the record that a data fault would leave at a moment, with the words of that moment where transactions are pending, is
-- accepted, and what is written is what the service makes of it over all of data memory
abbrev pub IsServedAt : Run → Moment → Type 0
IsServedAt r m =
    (words : List (ℕ × ℕ)) → IsRecordOfWords (record_at r m)
    → AreWordsAt (pending_at r.program m.retired m.done) (bus_at r.program m.retired m.done) words
    → IsServed (shown_fault (record_at r m) words)
    (served_text (serving_with (record_at r m) (bus_at r.program m.retired m.done)))

-- so it is at each moment of a run
abbrev pub EachFaultIsServed : Type 0
EachFaultIsServed = (r : Run) (k : ℕ) → IsServedAt r (moment_after r k)

-- what the service makes of the record that a data fault would leave at a moment, and of memory as it is then
abbrev pub service_at : Run → Moment → Serving
service_at r m = after_service (serving_with (record_at r m) (bus_at r.program m.retired m.done))

-- behind it data memory is that of the history, and so is each register that was waited for
pub record CatchesUpAt (r : Run) (m : Moment) : Type 0 where
  pub memory : (service_at r m).bus ≡ in_words (state r.program m.retired).memory
  pub registers : (n : ℕ) → registers_in (record_at r m).ssbr n ≡ true
      → slice_index (service_at r m).numbers n ≡ slice_index (state r.program m.retired).regs n

-- so it is at each moment of a run
abbrev pub EachServiceCatchesUp : Type 0
EachServiceCatchesUp = (r : Run) (k : ℕ) → IsProgram r.program → CatchesUpAt r (moment_after r k)

-- what holds of all of them
pub record ServingLaws : Type 0 where
  -- a word is taken as a DMT exactly where an access of some instruction has it, and behind the service of what is
  -- accepted no register waits
  pub accesses : EachDmtIsOfAnAccess
  pub waits : EachLeavesNoneWaiting
  -- what a data fault leaves at any moment of a run, with the words of that moment where transactions are pending, is
  -- accepted, and served so; behind that service memory and the registers that were waited for are those of the history
  pub faults : EachFaultIsServed
  pub caught_up : EachServiceCatchesUp
