-- Worked runs, computed by the definitions: what each comes to is what the processor's rules give by hand. No proof cites
-- them; a definition that is changed must still give them.
use Rattle.std.specs.Prelude.{ℕ, pos, zero, suc, Bool, true, false, List, [], ◌∷◌, Option, Some, None, ◌≡◌, ◌+◌, ◌-◌, ◌==◌, ◌&&◌, ◌||◌, map, nat_le, nat_lt, replicate, slice_get, unwrap_or, if◌then◌else◌}
use Rattle.std.proofs.Common.{refl}
use Rattle.m88_base.specs.Reg.{reg_of}
use Rattle.m88_base.specs.RegisterSet as set
use Rattle.m88_base.specs.Triple.{no_triple}
use Rattle.m88_base.specs.declared.triple.Triple.{Triple}
use Rattle.m88_isa.specs.Bus.{in_words, waits_for}
use Rattle.m88_isa.specs.Held.{busy_register, first_from}
use Rattle.m88_isa.specs.History.{transactions}
use Rattle.m88_isa.specs.Machine.{Program, opening, state}
use Rattle.m88_isa.specs.Operands.{uses_of, writes_of}
use Rattle.m88_isa.specs.declared.instr.ImmOp.{ImmOp}
use Rattle.m88_isa.specs.declared.instr.ImmOp.TheVariants as immop
use Rattle.m88_isa.specs.declared.instr.Instr.{Instr}
use Rattle.m88_isa.specs.declared.instr.Instr.TheVariants as instr
use Rattle.m88_isa.specs.declared.instr.MemOp.{MemOp}
use Rattle.m88_isa.specs.declared.instr.MemOp.TheVariants as memop
use Rattle.m88_isa.specs.declared.instr.RegOp.{RegOp}
use Rattle.m88_event.specs.Letters.{letter_at}
use Rattle.m88_event.specs.Run.{moment_after, moment_along}
use Rattle.m88_event.specs.Situation.{record_of}
use Rattle.m88_event.specs.Timeline.{Moment, Run, after_letter, end_at, is_over, opening_moment, run_with, situation_at, xip_along}
use Rattle.m88_event.specs.declared.happened.End.{End}
use Rattle.m88_event.specs.declared.happened.End.TheVariants.{Limit, Exit, Vector}
use Rattle.m88_event.specs.declared.letter.Letter.{Letter}
use Rattle.m88_event.specs.declared.letter.Letter.TheVariants.{Issue as i, Answer as r}
use Rattle.m88_event.specs.declared.record.Record.{Record}

-- the instruction at an address, of words from a start on; a word may be none
abbrev placed : ℕ → List (Option Instr) → ℕ → Option Instr
placed start [] a = None
placed start (word ∷ words) a = if start == a then word else placed (start + 4) words a

-- how many bytes some words have
abbrev bytes_of : List (Option Instr) → ℕ
bytes_of [] = 0
bytes_of (word ∷ words) = 4 + bytes_of words

-- a program with its words from 0x1000 on, whose bytes are told by their instructions alone, and data from 0x2000 on
abbrev program : Bool → List (Option Instr) → List ℕ → Program
program mxm words bytes = record {
  mxm = mxm;
  start = 0x1000;
  byte = λ a.
      if nat_le 0x1000 a && nat_lt a (0x1000 + bytes_of words) then Some 0
      else if nat_le 0x2000 a then slice_get bytes (a - 0x2000) else None;
  instruction = placed 0x1000 words;
}

-- one of some pages
abbrev named : List ℕ → ℕ → Bool
named [] page = false
named (p ∷ pages) page = p == page || named pages page

-- the registers that aren't 0, each with its number
abbrev pub set_from : ℕ → List ℕ → List (ℕ × ℕ)
set_from n [] = []
set_from n (value ∷ values) = if value == 0 then set_from (n + 1) values else (n, value) ∷ set_from (n + 1) values

-- what a run comes to: its events, its end, the instructions retired, the registers that aren't 0, some words of memory, the
-- output, the transactions answered, and the records
pub record Came : Type 0 where
  pub events : ℕ
  pub end : End
  pub retired : ℕ
  pub registers : List (ℕ × ℕ)
  pub words : List (ℕ × ℕ)
  pub out : List ℕ
  pub answers : ℕ
  pub records : List Record

-- a run: the program's words and data, the absent pages, the limit, the schedule, and what the run comes to by hand
pub record Worked : Type 0 where
  pub mxm : Bool
  pub code : List (Option Instr)
  pub bytes : List ℕ
  pub pages : List ℕ
  pub limit : ℕ
  pub schedule : List Letter
  pub comes : Came

-- the events up to the first moment that is over, from a moment after some events on
abbrev events_from : Run → ℕ → ℕ → Moment → ℕ
events_from run zero k m = k
events_from run (suc most) k m =
    if is_over run m then k else events_from run most (k + 1) (after_letter run (letter_at run.schedule k) m)

-- what a moment shows
abbrev came_at : Program → List (ℕ × ℕ) → ℕ → Moment → Came
came_at p words events m = record {
  events = events;
  end = unwrap_or (end_at p m) Limit;
  retired = m.retired;
  registers = set_from 0 (state p m.retired).regs;
  words = map (λ (w : ℕ × ℕ). (w.0, in_words (state p m.retired).memory w.0)) words;
  out = (state p m.retired).out;
  answers = m.answers;
  records = m.records;
}

-- what a run comes to by the definitions
abbrev came_by : Run → List (ℕ × ℕ) → Came
came_by run words =
    let events : ℕ = events_from run 100 0 opening_moment in
    came_at run.program words events (moment_after run events)

abbrev pub came : Worked → Came
came w = came_by (run_with (program w.mxm w.code w.bytes) (named w.pages) w.limit w.schedule) w.comes.words

-- instructions and words in short
abbrev pub im : ImmOp → ℕ → ℕ → ℕ → Option Instr
im op d s1 imm = Some (instr.Imm op (reg_of d) (reg_of s1) imm)

abbrev pub regs : RegOp → ℕ → ℕ → ℕ → Option Instr
regs op d s1 s2 = Some (instr.Regs op (reg_of d) (reg_of s1) (reg_of s2))

abbrev pub mem : MemOp → ℕ → ℕ → Option Instr
mem op d imm = Some (instr.MemImm op (reg_of d) (reg_of 0) imm)

abbrev branch : Bool → Bool → ℕ → Option Instr
branch link delayed words = Some (instr.Branch link delayed (pos words))

abbrev trap : Option Instr
trap = Some (instr.TrapBit false 0 (reg_of 0) 496)

abbrev pub triple : ℕ → ℕ → ℕ → Triple
triple dmt dmd dma = record { dmt = dmt; dmd = dmd; dma = dma }

abbrev pub fault : ℕ → ℕ → ℕ → ℕ → ℕ → List Triple → Record
fault event sxip snip sfip ssbr triples = record {
  event = event;
  epsr = 0x3F8;
  sxip = sxip;
  snip = snip;
  sfip = sfip;
  ssbr = ssbr;
  triples = triples;
}

-- what a run comes to at its limit, in so many events: nothing else is seen
abbrev pub limited : ℕ → ℕ → List (ℕ × ℕ) → ℕ → Came
limited events retired registers answers = record {
  events = events;
  end = Limit;
  retired = retired;
  registers = registers;
  words = [];
  out = [];
  answers = answers;
  records = [];
}

-- a run of some instructions with a limit: MXM clear, no data, no absent page, no schedule
abbrev pub plain_run : List (Option Instr) → ℕ → Came → Worked
plain_run code limit comes =
    record { mxm = false; code = code; bytes = []; pages = []; limit = limit; schedule = []; comes = comes }

worked : List Worked
worked =
    -- no word to fetch
    plain_run [] 1 (record (limited 2 0 [] 0) { end = Vector 2 0x1000 })
    -- an output and an exit
    ∷ plain_run (im immop.Or 2 0 65 ∷ im immop.Or 9 0 0x20 ∷ trap ∷ im immop.Or 9 0 0x63 ∷ trap ∷ []) 100
    (record (limited 10 4 ((2, 0x41) ∷ (9, 0x63) ∷ []) 0) { end = Exit 0x1010; out = 0x41 ∷ [] })
    -- three loads from absent pages
    ∷ record (plain_run (mem memop.Ld 2 0x5000 ∷ mem memop.Ld 3 0x6000 ∷ mem memop.Ld 4 0x7000 ∷ []) 3
    (record (limited 4 3 [] 0) { records = fault 4 0x100A 0x100F 0x1013 0x1C (triple 0x13D 0 0x5000 ∷ triple 0x1BD 0 0x6000 ∷ triple 0x23D 0 0x7000 ∷ []) ∷ [] })) { pages = 5 ∷ 6 ∷ 7 ∷ []; schedule = i ∷ i ∷ i ∷ r ∷ [] }
    -- an instruction that is held as it writes a register that waits
    ∷ record (plain_run (mem memop.Ld 2 0x5000 ∷ im immop.Addu 2 5 1 ∷ []) 2
    (record (limited 4 2 ((2, 1) ∷ []) 0) { records = fault 3 0x1002 0x1006 0x100B 0x4 (triple 0x13D 0 0x5000 ∷ no_triple ∷ no_triple ∷ []) ∷ [] })) { pages = 5 ∷ []; schedule = i ∷ i ∷ r ∷ i ∷ [] }
    -- a store to an absent page, with an instruction behind it
    ∷ record (plain_run (im immop.Or 4 0 7 ∷ mem memop.St 4 0x5000 ∷ im immop.Addu 5 5 1 ∷ []) 3
    (record (limited 4 3 ((4, 7) ∷ (5, 1) ∷ []) 0) { words = (0x5000, 7) ∷ []; records = fault 4 0x100A 0x100F 0x1013 0 (triple 0x3F 7 0x5000 ∷ no_triple ∷ no_triple ∷ []) ∷ [] })) { pages = 5 ∷ []; schedule = i ∷ i ∷ i ∷ r ∷ [] }
    -- a store keeps the datum that its register had
    ∷ record (plain_run (im immop.Or 4 0 7 ∷ mem memop.St 4 0x5000 ∷ im immop.Addu 4 4 1 ∷ []) 3
    (record (limited 4 3 ((4, 8) ∷ []) 1) { words = (0x5000, 7) ∷ [] })) { schedule = i ∷ i ∷ i ∷ [] }
    -- a fault while a bubble stands
    ∷ record (plain_run (im immop.Or 4 0 7 ∷ mem memop.St 4 0x5000 ∷ mem memop.St 4 0x6000 ∷ branch false false 2 ∷ im immop.Or 4 0 9 ∷ im immop.Or 6 0 1 ∷ []) 5
    (record (limited 8 5 ((4, 7) ∷ (6, 1) ∷ []) 0) { words = (0x5000, 7) ∷ (0x6000, 7) ∷ []; records = fault 5 0x100E 0x1010 0x1016 0 (triple 0x3F 7 0x5000 ∷ triple 0x3F 7 0x6000 ∷ no_triple ∷ []) ∷ [] })) { pages = 5 ∷ []; schedule = i ∷ i ∷ i ∷ i ∷ r ∷ i ∷ [] }
    -- a fault between a branch and its delay slot
    ∷ record (plain_run (mem memop.Ld 2 0x5000 ∷ branch true true 3 ∷ mem memop.Ld 3 0x5004 ∷ im immop.Or 5 0 5 ∷ im immop.Or 4 0 4 ∷ []) 4
    (record (limited 6 4 ((1, 0x100C) ∷ (4, 4) ∷ []) 1) { records = fault 3 0x1006 0x100A 0x1012 0x4 (triple 0x13D 0 0x5000 ∷ no_triple ∷ no_triple ∷ []) ∷ [] })) { pages = 5 ∷ []; schedule = i ∷ i ∷ r ∷ i ∷ i ∷ [] }
    -- a word that is no instruction waits for an empty data unit
    ∷ record (plain_run (im immop.Or 4 0 7 ∷ mem memop.St 4 0x5000 ∷ None ∷ []) 9
    (record (limited 5 2 ((4, 7) ∷ []) 0) { end = Vector 5 0x1008; words = (0x5000, 7) ∷ []; records = fault 4 0x1006 0x100A 0x100F 0 (triple 0x3F 7 0x5000 ∷ no_triple ∷ no_triple ∷ []) ∷ [] })) { pages = 5 ∷ []; schedule = i ∷ i ∷ i ∷ [] }
    -- a load that isn't aligned
    ∷ plain_run (mem memop.Ld 2 2 ∷ []) 9 (record (limited 2 0 [] 0) { end = Vector 4 0x1000 })
    -- traps wait for two loads
    ∷ record (plain_run (im immop.Or 2 0 66 ∷ im immop.Or 9 0 0x20 ∷ mem memop.Ld 3 0x5000 ∷ mem memop.Ld 4 0x5004 ∷ trap ∷ im immop.Or 9 0 0x63 ∷ trap ∷ []) 9
    (record (limited 14 6 ((2, 0x42) ∷ (9, 0x63) ∷ []) 2) { end = Exit 0x1018; out = 0x42 ∷ [] })) { schedule = replicate 6 i }
    -- a signed sum that doesn't fit, and a division of a negative number
    ∷ plain_run (im immop.OrU 2 0 0x7FFF ∷ im immop.Or 2 2 0xFFFF ∷ im immop.Add 3 2 1 ∷ []) 9
    (record (limited 6 2 ((2, 0x7FFFFFFF) ∷ []) 0) { end = Vector 9 0x1008 })
    ∷ plain_run (im immop.Subu 2 0 1 ∷ im immop.Div 3 2 2 ∷ []) 9
    (record (limited 4 1 ((2, 0xFFFFFFFF) ∷ []) 0) { end = Vector 8 0x1004 })
    -- a double word into r31 and r0
    ∷ record (plain_run (mem memop.LdD 31 0x2000 ∷ []) 1
    (record (limited 2 1 ((31, 0x11223344) ∷ []) 0) { records = fault 2 0x1002 0x1007 0x100B 0x80000000 (triple 0x2FBD 0 0x2000 ∷ triple 0x3D 0 0x2004 ∷ no_triple ∷ []) ∷ [] })) { bytes = 0x11 ∷ 0x22 ∷ 0x33 ∷ 0x44 ∷ 0x55 ∷ 0x66 ∷ 0x77 ∷ 0x88 ∷ []; pages = 2 ∷ []; schedule = i ∷ r ∷ [] }
    -- an exchange on an absent page, and a privileged instruction that is held as busy
    ∷ record (plain_run (im immop.Or 2 0 5 ∷ mem memop.Xmem 2 0x5000 ∷ Some (instr.Ldcr (reg_of 2) 1 false) ∷ []) 9
    (record (limited 6 2 [] 0) { end = Vector 6 0x1008; words = (0x5000, 5) ∷ []; records = fault 4 0x1006 0x100A 0x100F 0x4 (triple 0x113D 0 0x5000 ∷ triple 0x103F 5 0x5000 ∷ no_triple ∷ []) ∷ [] })) { pages = 5 ∷ []; schedule = i ∷ i ∷ i ∷ r ∷ [] }
    -- a change of flow in a taken delay slot, and in one whose target is the word behind it
    ∷ plain_run (branch false true 3 ∷ branch false false 2 ∷ im immop.Or 2 0 1 ∷ im immop.Or 3 0 1 ∷ []) 9
    (record (limited 4 1 [] 0) { end = Vector 5 0x1004 })
    ∷ plain_run (branch false true 2 ∷ branch false false 2 ∷ im immop.Or 2 0 1 ∷ im immop.Or 3 0 1 ∷ []) 3
    (limited 8 3 ((3, 1) ∷ []) 0)
    -- a fourth load, for which there is no room
    ∷ record (plain_run (mem memop.Ld 2 0x5000 ∷ mem memop.Ld 3 0x5004 ∷ mem memop.Ld 4 0x5008 ∷ mem memop.Ld 5 0x6000 ∷ []) 4
    (record (limited 57 4 [] 3) { records = fault 57 0x100E 0x1013 0x1017 0x20 (triple 0x2BD 0 0x6000 ∷ no_triple ∷ no_triple ∷ []) ∷ [] })) { pages = 6 ∷ []; schedule = replicate 50 i }
    ∷ []

as_by_hand : map came worked ≡ map (λ w. w.comes) worked
unfolding worked moment_along after_letter situation_at record_of xip_along letter_at state opening transactions waits_for busy_register first_from uses_of writes_of in_words set.bits_below
as_by_hand = refl
