-- Worked runs of a machine with software behind it, computed by the definitions: what each comes to is what the rules give
-- by hand. No proof cites them; a definition that is changed must still give them.
use Rattle.std.specs.Prelude.{ℕ, Bool, true, false, List, [], ◌∷◌, Option, Some, None, ◌≡◌, ◌+◌, ◌-◌, ◌*◌, ◌/◌, ◌==◌, ◌&&◌, length, map, nat_le, nat_lt, pos, slice_get, unwrap_or, if◌then◌else◌}
use Rattle.std.proofs.Common.{refl}
use Rattle.m88_base.specs.Pages.{every_page, no_page}
use Rattle.m88_base.specs.Reg.{reg_of}
use Rattle.m88_base.specs.RegisterSet as set
use Rattle.m88_base.specs.Triple.{no_triple}
use Rattle.m88_isa.specs.Bus.{bus_after_all, in_words, stored, waits_for, with_word}
use Rattle.m88_isa.specs.Held.{busy_register, first_from}
use Rattle.m88_isa.specs.Machine.{Program, opening}
use Rattle.m88_isa.specs.Operands.{uses_of, writes_of}
use Rattle.m88_isa.specs.declared.instr.ImmOp.TheVariants as immop
use Rattle.m88_isa.specs.declared.instr.Instr.{Instr}
use Rattle.m88_isa.specs.declared.instr.Instr.TheVariants as instr
use Rattle.m88_isa.specs.declared.instr.MemOp.{MemOp}
use Rattle.m88_isa.specs.declared.instr.MemOp.TheVariants as memop
use Rattle.m88_isa.specs.declared.instr.RegOp.TheVariants as regop
use Rattle.m88_event.proofs.Laws.{fault, first_after, im, mem, regs, set_from, triple}
use Rattle.m88_event.specs.Letters.{letter_at}
use Rattle.m88_event.specs.Run.{IsFirst}
use Rattle.m88_event.specs.Situation.{record_of}
use Rattle.m88_event.specs.Timeline.{Run, is_over_along, run_with, xip_along}
use Rattle.m88_event.specs.declared.happened.End.{End}
use Rattle.m88_event.specs.declared.happened.End.TheVariants.{Exit, Limit, Vector}
use Rattle.m88_event.specs.declared.letter.Letter.{Letter}
use Rattle.m88_event.specs.declared.letter.Letter.TheVariants.{Answer as r, Evict as e, Issue as i}
use Rattle.m88_event.specs.declared.record.Record.{Record}
use Rattle.m88_emul.specs.Aid.{byte_stores, number_behind, places_from, with_all}
use Rattle.m88_emul.specs.Extended.{extended_history, extended_state, stored_all, transactions_before}
use Rattle.m88_emul.specs.Inside.Works.{bus_after_work, extended_bus, work_before}
use Rattle.m88_emul.specs.Timeline.{ExtendedMoment, after_event, extended_after, extended_outcome, has_place_in}
use Rattle.m88_emul.specs.declared.emulation.EmulOutcome.{EmulOutcome}
use Rattle.m88_emul.specs.declared.emulation.Emulation.{Emulation}

-- a program with its words from 0x1000 on, whose bytes are told by their instructions alone, and data from 0x2000 on
abbrev program : List (Option Instr) → List ℕ → Program
program code bytes = record {
  mxm = false;
  start = 0x1000;
  byte = λ a.
      if nat_le 0x1000 a && nat_lt a (0x1000 + 4 * length code) then Some 0
      else if nat_le 0x2000 a then slice_get bytes (a - 0x2000) else None;
  instruction = λ a. unwrap_or (slice_get code ((a - 0x1000) / 4)) None;
}

-- what a run comes to: its end, the instructions retired, the registers that aren't 0, some words of the memory of the
-- history and of the data bus, the events, the transactions answered, the records, and the emulations
pub record Came : Type 0 where
  pub end : End
  pub retired : ℕ
  pub registers : List (ℕ × ℕ)
  pub words : List (ℕ × ℕ)
  pub bus : List (ℕ × ℕ)
  pub events : ℕ
  pub answers : ℕ
  pub records : List Record
  pub emulated : List Emulation

-- a run: the program's words and data, the absent pages, the limit, the schedule, and what the run comes to by hand
pub record Worked : Type 0 where
  pub code : List (Option Instr)
  pub bytes : List ℕ
  pub pages : ℕ → Bool
  pub limit : ℕ
  pub schedule : List Letter
  pub comes : Came

-- its program
abbrev program_of : Worked → Program
program_of w = program w.code w.bytes

-- its run
abbrev run_of : Worked → Run
run_of w = run_with (program_of w) w.pages w.limit w.schedule

-- the moment after as many events
abbrev moment_of : Worked → ℕ → ExtendedMoment
moment_of w = extended_after (run_of w)

-- some words by address
abbrev words_at : List (ℕ × ℕ) → (ℕ → ℕ) → List (ℕ × ℕ)
words_at words memory = map (λ (word : ℕ × ℕ). (word.0, memory word.0)) words

-- what is seen of a moment and of what the run comes to that is over there
abbrev came_by : Worked → ExtendedMoment → EmulOutcome → Came
came_by w x o = record {
  end = o.outcome.end;
  retired = o.outcome.retired;
  registers = set_from 0 o.outcome.regs;
  words = words_at w.comes.words (in_words (extended_state (program_of w) x.moment.retired).memory);
  bus = words_at w.comes.words (extended_bus (program_of w) x.moment.retired x.moment.done);
  events = o.outcome.events;
  answers = o.outcome.answers;
  records = o.outcome.records;
  emulated = o.emulated;
}

-- the moment after as many events as the run has by hand
abbrev last_of : Worked → ExtendedMoment
last_of w = moment_of w w.comes.events

-- what a run comes to by the definitions
abbrev came : Worked → Came
came w = came_by w (last_of w) (extended_outcome (program_of w) (last_of w))

-- a run is over after so many events
abbrev over_at : Worked → ℕ → Bool
over_at w k = is_over_along (extended_history (program_of w)) (run_of w) (moment_of w k).moment

-- the least such number below the one by hand, and whether that one is such
abbrev over_before : Worked → Option ℕ
over_before w = first_from 0 w.comes.events (over_at w)

abbrev over_then : Worked → Bool
over_then w = over_at w w.comes.events

-- each run is over after so many events and not before
abbrev HaveEvents : List Worked → Type 0
HaveEvents [] = Unit {0}
HaveEvents (w ∷ runs) = IsFirst (over_at w) w.comes.events × HaveEvents runs

-- instructions and emulations in short
abbrev based : MemOp → ℕ → ℕ → ℕ → Option Instr
based op d s1 imm = Some (instr.MemImm op (reg_of d) (reg_of s1) imm)

abbrev emulation : ℕ → ℕ → ℕ → Emulation
emulation event at vector = record { event = event; at = at; vector = vector }

-- what a run comes to at its limit, in so many events: nothing else is seen
abbrev limited : ℕ → ℕ → List (ℕ × ℕ) → ℕ → Came
limited events retired registers answers = record {
  end = Limit;
  retired = retired;
  registers = registers;
  words = [];
  bus = [];
  events = events;
  answers = answers;
  records = [];
  emulated = [];
}

-- a run of some instructions with a limit: no data, no absent page, no schedule
abbrev plain_run : List (Option Instr) → ℕ → Came → Worked
plain_run code limit comes = record { code = code; bytes = []; pages = no_page; limit = limit; schedule = []; comes = comes }

-- a division of a negative number, and an exit
divided : Worked
divided =
    plain_run (im immop.Subu 2 0 6 ∷ im immop.Or 3 0 2 ∷ regs regop.Div 4 2 3 ∷ im immop.Or 9 0 0x63 ∷ Some (instr.TrapBit false 0 (reg_of 0) 496) ∷ []) 9
    (record (limited 10 4 ((2, 0xFFFFFFFA) ∷ (3, 2) ∷ (4, 0xFFFFFFFD) ∷ (9, 0x63) ∷ []) 0) { end = Exit 0x1010; emulated = emulation 6 0x1008 8 ∷ [] })

-- a load that isn't aligned, whose page is absent
loaded : Worked
loaded =
    record (plain_run (mem memop.Ld 2 0x2001 ∷ []) 1
    (record (limited 1 1 ((2, 0x22334455) ∷ []) 0) { emulated = emulation 1 0x1000 4 ∷ [] })) {
      bytes = 0x11 ∷ 0x22 ∷ 0x33 ∷ 0x44 ∷ 0x55 ∷ 0x66 ∷ 0x77 ∷ 0x88 ∷ [];
      pages = λ page. page == 2;
      schedule = i ∷ [];
    }

-- software supplies a page, from which a load is answered; then every page is made absent, and the next one faults
supplied : Worked
supplied =
    record (plain_run (mem memop.Ld 2 0x2001 ∷ mem memop.Ld 3 0x2004 ∷ mem memop.Ld 4 0x2000 ∷ []) 3
    (record (limited 6 3 ((2, 0x22334455) ∷ (3, 0x55667788) ∷ (4, 0x11223344) ∷ []) 1) { records = fault 6 0x100A 0x100F 0x1013 0x10 (triple 0x23D 0 0x2000 ∷ no_triple ∷ no_triple ∷ []) ∷ []; emulated = emulation 1 0x1000 4 ∷ [] })) {
      bytes = 0x11 ∷ 0x22 ∷ 0x33 ∷ 0x44 ∷ 0x55 ∷ 0x66 ∷ 0x77 ∷ 0x88 ∷ [];
      pages = λ page. page == 2;
      schedule = i ∷ i ∷ r ∷ e ∷ i ∷ r ∷ [];
    }

-- software waits until nothing is pending, and a fault comes before it
waited : Worked
waited =
    record (plain_run (mem memop.Ld 2 0x5000 ∷ mem memop.Ld 3 0x2001 ∷ []) 2
    (record (limited 4 2 ((3, 0x22334455) ∷ []) 0) { records = fault 3 0x1002 0x1006 0x100B 4 (triple 0x13D 0 0x5000 ∷ no_triple ∷ no_triple ∷ []) ∷ []; emulated = emulation 4 0x1004 4 ∷ [] })) {
      bytes = 0x11 ∷ 0x22 ∷ 0x33 ∷ 0x44 ∷ 0x55 ∷ 0x66 ∷ 0x77 ∷ 0x88 ∷ [];
      pages = λ page. page == 5;
      schedule = i ∷ i ∷ r ∷ i ∷ [];
    }

-- a store over the last byte of memory goes on at the first; both pages are present then
around : Worked
around =
    record (plain_run (im immop.OrU 4 0 0x1122 ∷ im immop.Or 4 4 0x3344 ∷ im immop.Subu 3 0 4 ∷ based memop.St 4 3 2 ∷ based memop.Ld 5 3 0 ∷ mem memop.Ld 6 0 ∷ []) 6
    (record (limited 8 6 ((3, 0xFFFFFFFC) ∷ (4, 0x11223344) ∷ (5, 0x1122) ∷ (6, 0x33440000) ∷ []) 2) { words = (0xFFFFFFFC, 0x1122) ∷ (0, 0x33440000) ∷ (4, 0) ∷ []; bus = (0xFFFFFFFC, 0x1122) ∷ (0, 0x33440000) ∷ (4, 0) ∷ []; emulated = emulation 4 0x100C 4 ∷ [] })) {
      pages = every_page;
      schedule = i ∷ i ∷ i ∷ i ∷ i ∷ i ∷ r ∷ r ∷ [];
    }

-- a transaction stores a word, software changes its middle, and a transaction loads it
between : Worked
between =
    record (plain_run (im immop.OrU 4 0 0x1122 ∷ im immop.Or 4 4 0x3344 ∷ mem memop.St 4 0x5000 ∷ mem memop.StH 4 0x5001 ∷ mem memop.Ld 5 0x5000 ∷ []) 5
    (record (limited 8 5 ((4, 0x11223344) ∷ (5, 0x11334444) ∷ []) 2) { words = (0x5000, 0x11334444) ∷ []; bus = (0x5000, 0x11334444) ∷ []; emulated = emulation 6 0x100C 4 ∷ [] })) {
      schedule = i ∷ i ∷ i ∷ i ∷ r ∷ i ∷ i ∷ r ∷ [];
    }

-- a quotient rounded towards 0, and one that is too large, which ends the program
rounded : Worked
rounded =
    record (plain_run (im immop.Subu 2 0 7 ∷ im immop.Or 3 0 2 ∷ regs regop.Div 4 2 3 ∷ im immop.OrU 2 0 0x8000 ∷ im immop.Subu 3 0 1 ∷ regs regop.Div 5 2 3 ∷ []) 9
    (record (limited 6 5 ((2, 0x80000000) ∷ (3, 0xFFFFFFFF) ∷ (4, 0xFFFFFFFD) ∷ []) 0) { end = Vector 8 0x1014; emulated = emulation 3 0x1008 8 ∷ [] })) {
      schedule = i ∷ i ∷ i ∷ i ∷ i ∷ i ∷ [];
    }

-- halves and a double that aren't aligned, and an exchange, which ends the program
sized : Worked
sized =
    record (plain_run (mem memop.LdH 2 0x2007 ∷ mem memop.LdHu 3 0x2007 ∷ mem memop.LdD 4 0x2001 ∷ mem memop.Xmem 6 0x2001 ∷ []) 9
    (record (limited 4 3 ((2, 0xFFFF8899) ∷ (3, 0x8899) ∷ (4, 0x22334455) ∷ (5, 0x66778899) ∷ []) 0) { end = Vector 4 0x100C; emulated = emulation 1 0x1000 4 ∷ emulation 2 0x1004 4 ∷ emulation 3 0x1008 4 ∷ [] })) {
      bytes = 0x11 ∷ 0x22 ∷ 0x33 ∷ 0x44 ∷ 0x55 ∷ 0x66 ∷ 0x77 ∷ 0x88 ∷ 0x99 ∷ 0xAA ∷ 0xBB ∷ 0xCC ∷ [];
      schedule = i ∷ i ∷ i ∷ i ∷ [];
    }

-- software does an instruction in a delay slot, and the carry stays
delayed : Worked
delayed =
    record (plain_run (regs regop.SubuCo 5 0 0 ∷ Some (instr.Branch false true (pos 3)) ∷ mem memop.Ld 2 0x2001 ∷ im immop.Or 3 0 9 ∷ regs regop.AdduCi 4 0 0 ∷ []) 4
    (record (limited 4 4 ((2, 0x22334455) ∷ (4, 1) ∷ []) 0) { emulated = emulation 3 0x1008 4 ∷ [] })) {
      bytes = 0x11 ∷ 0x22 ∷ 0x33 ∷ 0x44 ∷ 0x55 ∷ 0x66 ∷ 0x77 ∷ 0x88 ∷ [];
      schedule = i ∷ i ∷ i ∷ i ∷ [];
    }

worked : List Worked
worked = divided ∷ loaded ∷ supplied ∷ waited ∷ around ∷ between ∷ rounded ∷ sized ∷ delayed ∷ []

-- so of each run
each_after : (runs : List Worked) → map over_before runs ≡ map (λ w. None) runs → map over_then runs ≡ map (λ w. true) runs →
    HaveEvents runs
each_after [] none here = tt
each_after (w ∷ runs) none here =
    let not_before : over_before w ≡ None = cc in
    let over : over_then w ≡ true = cc in
    let before : map over_before runs ≡ map (λ w. None) runs = cc in
    let after : map over_then runs ≡ map (λ w. true) runs = cc in
    (first_after (over_at w) w.comes.events not_before over, each_after runs before after)

events_by_hand : HaveEvents worked
unfolding worked divided loaded supplied waited around between rounded sized delayed extended_after after_event extended_outcome extended_state xip_along has_place_in transactions_before work_before bus_after_work stored_all byte_stores number_behind places_from with_all record_of letter_at opening bus_after_all stored with_word waits_for busy_register first_from uses_of writes_of in_words set.bits_below
events_by_hand = each_after worked refl refl

as_by_hand : map came worked ≡ map (λ w. w.comes) worked
unfolding worked divided loaded supplied waited around between rounded sized delayed extended_after after_event extended_outcome extended_state xip_along has_place_in transactions_before work_before bus_after_work stored_all byte_stores number_behind places_from with_all record_of letter_at opening bus_after_all stored with_word waits_for busy_register first_from uses_of writes_of in_words set.bits_below
as_by_hand = refl
