-- Worked runs of programs that share a board, computed by the definitions: what each comes to is what the rules of
-- sharing give by hand. No proof cites them; a definition that is changed must still give them.
use Rattle.std.specs.Prelude.{ℕ, zero, suc, Bool, true, false, List, [], ◌∷◌, ◌++◌, Option, Some, None, ◌≡◌, ◌+◌, ◌-◌, ◌*◌, ◌/◌, ◌==◌, ◌&&◌, length, map, nat_le, nat_lt, pos, slice_get, unwrap_or, if◌then◌else◌}
use Rattle.std.proofs.Common.{refl}
use Rattle.m88_base.specs.Pages.{no_page}
use Rattle.m88_base.specs.RegisterSet as set
use Rattle.m88_base.specs.Triple.{no_triple}
use Rattle.m88_isa.specs.Bus.{in_words, waits_for}
use Rattle.m88_isa.specs.Held.{busy_register, first_from}
use Rattle.m88_isa.specs.History.{transactions}
use Rattle.m88_isa.specs.Machine.{Program, opening, state}
use Rattle.m88_isa.specs.Operands.{uses_of, writes_of}
use Rattle.m88_isa.specs.declared.instr.ImmOp.TheVariants as immop
use Rattle.m88_isa.specs.declared.instr.Instr.{Instr}
use Rattle.m88_isa.specs.declared.instr.Instr.TheVariants as instr
use Rattle.m88_isa.specs.declared.instr.MemOp.TheVariants as memop
use Rattle.m88_isa.specs.declared.instr.RegOp.TheVariants as regop
use Rattle.m88_event.proofs.Laws.{fault, first_after, im, mem, regs, set_from, triple}
use Rattle.m88_event.specs.Run.{outcome_at}
use Rattle.m88_event.specs.Situation.{record_of}
use Rattle.m88_event.specs.Timeline.{after_letter, situation_at, xip_along}
use Rattle.m88_event.specs.declared.happened.End.{End}
use Rattle.m88_event.specs.declared.happened.End.TheVariants.{Limit, Vector}
use Rattle.m88_event.specs.declared.letter.Letter.{Letter}
use Rattle.m88_event.specs.declared.letter.Letter.TheVariants.{Answer, Evict, Issue}
use Rattle.m88_event.specs.declared.outcome.Outcome.{Outcome}
use Rattle.m88_event.specs.declared.record.Record.{Record}
use Rattle.m88_tasks.specs.Letters.{share_letter_at}
use Rattle.m88_tasks.specs.Shared.{Group, IsSharedRun, SharedMoment, all_over, next_from, outcomes_of, shared_after, shared_at, turn_letter_at, turned_at}
use Rattle.m88_tasks.specs.declared.letter.ShareLetter.{ShareLetter}
use Rattle.m88_tasks.specs.declared.letter.ShareLetter.TheVariants.{Own, Turn}
use Rattle.m88_tasks.specs.declared.shared.Shared.{Shared}
use Rattle.m88_tasks.specs.declared.shared.Switch.{Switch}
use Rattle.m88_tasks.specs.declared.turned.Turned.{Turned}
use Rattle.m88_tasks.specs.declared.turned.Turned.TheVariants.{Alone, Held, Switched}

-- the letters in short
abbrev i : ShareLetter
i = Own Issue

abbrev r : ShareLetter
r = Own Answer

abbrev e : ShareLetter
e = Own Evict

abbrev t : ShareLetter
t = Turn

-- a program with its words from 0x1000 on and no data, whose bytes are told by their instructions alone
abbrev program : List (Option Instr) → Program
program code = record {
  mxm = false;
  start = 0x1000;
  byte = λ a. if nat_le 0x1000 a && nat_lt a (0x1000 + 4 * length code) then Some 0 else None;
  instruction = λ a. unwrap_or (slice_get code ((a - 0x1000) / 4)) None;
}

-- what a program comes to: its end, the instructions retired, the registers that aren't 0, its events, the transactions
-- answered, and the records
pub record OneCame : Type 0 where
  pub end : End
  pub retired : ℕ
  pub registers : List (ℕ × ℕ)
  pub events : ℕ
  pub answers : ℕ
  pub records : List Record

-- what a shared run comes to: each program, the letters that each took, what each letter `t` of the schedule said, the
-- switches, and the events of the whole board
pub record Came : Type 0 where
  pub outcomes : List OneCame
  pub owns : List (List Letter)
  pub turns : List Turned
  pub switches : List Switch
  pub events : ℕ

-- a shared run: the words of each program, the absent pages, the limit, the schedule, and what the run comes to by hand
pub record Worked : Type 0 where
  pub code : List (List (Option Instr))
  pub pages : ℕ → Bool
  pub limit : ℕ
  pub schedule : List ShareLetter
  pub comes : Came

-- its programs
abbrev group : Worked → Group
group w = record {
  count = length w.code;
  programs = λ q. program (unwrap_or (slice_get w.code q) []);
  absent = w.pages;
  limit = w.limit;
}

-- what an outcome shows, the words of memory aside
abbrev one_came : Outcome → OneCame
one_came o = record {
  end = o.end;
  retired = o.retired;
  registers = set_from 0 o.regs;
  events = o.events;
  answers = o.answers;
  records = o.records;
}

-- what the first so many programs took
abbrev owns_of : (ℕ → List Letter) → ℕ → List (List Letter)
owns_of owns zero = []
owns_of owns (suc q) = owns_of owns q ++ (owns q ∷ [])

-- what the letters `t` say, from an event on
abbrev turns_from : Worked → ℕ → List ShareLetter → List Turned
turns_from w k [] = []
turns_from w k (Own letter ∷ letters) = turns_from w (k + 1) letters
turns_from w k (Turn ∷ letters) =
    turned_at (group w) Turn (shared_after (group w) w.schedule k) ∷ turns_from w (k + 1) letters

-- what is seen of a run whose programs are all over
abbrev came_by : Worked → SharedMoment → Shared → Came
came_by w s o = record {
  outcomes = map one_came o.outcomes;
  owns = owns_of s.owns (length w.code);
  turns = turns_from w 0 w.schedule;
  switches = o.switches;
  events = o.events;
}

-- the shared moment after as many events as the run has by hand
abbrev last_of : Worked → SharedMoment
last_of w = shared_after (group w) w.schedule w.comes.events

-- what a run comes to by the definitions
abbrev came : Worked → Came
came w = came_by w (last_of w) (shared_at (group w) (last_of w))

-- every program is over after so many events
abbrev over_at : Worked → ℕ → Bool
over_at w k = all_over (group w) (shared_after (group w) w.schedule k).moments

-- the least such number below the one by hand, and whether that one is such
abbrev over_before : Worked → Option ℕ
over_before w = first_from 0 w.comes.events (over_at w)

abbrev over_then : Worked → Bool
over_then w = over_at w w.comes.events

-- each run has so many events
abbrev HaveEvents : List Worked → Type 0
HaveEvents [] = Unit {0}
HaveEvents (w ∷ runs) = IsSharedRun (group w) w.schedule w.comes.events × HaveEvents runs

-- a program that comes to its limit with no fault
abbrev limited : ℕ → List (ℕ × ℕ) → ℕ → ℕ → OneCame
limited retired registers events answers = record {
  end = Limit;
  retired = retired;
  registers = registers;
  events = events;
  answers = answers;
  records = [];
}

-- a switch with its program's status and pointers
abbrev switch : ℕ → ℕ → ℕ → ℕ → ℕ → ℕ → ℕ → Switch
switch event from to epsr sxip snip sfip =
    record { event = event; from = from; to = to; epsr = epsr; sxip = sxip; snip = snip; sfip = sfip }

-- an interrupt in the middle of a program
divided_by : List Switch
divided_by = switch 2 0 1 0x3F8 0x1002 0x1006 0x100B ∷ []

divided : Worked
divided = record {
  code = (im immop.Or 2 0 1 ∷ im immop.Or 3 0 2 ∷ []) ∷ (im immop.Or 2 0 3 ∷ im immop.Or 3 0 4 ∷ []) ∷ [];
  pages = no_page;
  limit = 2;
  schedule = i ∷ t ∷ i ∷ [];
  comes = record {
    outcomes = limited 2 ((2, 1) ∷ (3, 2) ∷ []) 3 0 ∷ limited 2 ((2, 3) ∷ (3, 4) ∷ []) 3 0 ∷ [];
    owns = (Issue ∷ Answer ∷ Issue ∷ []) ∷ (Issue ∷ Answer ∷ Issue ∷ []) ∷ [];
    turns = map Switched divided_by;
    switches = divided_by;
    events = 7;
  };
}

-- an interrupt that a load holds, which then faults: the record has the event's number in its own program's run
held : Worked
held = record {
  code = (mem memop.Ld 2 0x5000 ∷ []) ∷ (im immop.Or 2 0 1 ∷ []) ∷ [];
  pages = λ page. page == 5;
  limit = 1;
  schedule = i ∷ t ∷ r ∷ [];
  comes = record {
    outcomes =
        record (limited 1 [] 2 0) {
          records = fault 2 0x1002 0x1007 0x100B 4 (triple 0x13D 0 0x5000 ∷ no_triple ∷ no_triple ∷ []) ∷ [];
        }
        ∷ limited 1 ((2, 1) ∷ []) 2 0
        ∷ [];
    owns = (Issue ∷ Answer ∷ []) ∷ (Answer ∷ Issue ∷ []) ∷ [];
    turns = Held 1 ∷ [];
    switches = [];
    events = 5;
  };
}

-- three programs in cyclic order: the middle one ends at its first instruction, the first one takes its carry and the
-- last one a bubble across a switch and back; and an interrupt as every other program is over
cycled_by : List Switch
cycled_by =
    switch 1 0 1 0x3F8 0 0x1002 0x1006
    ∷ switch 4 2 0 0x3F8 0x1002 0x1004 0x100A
    ∷ switch 6 0 2 0x100003F8 0x1002 0x1006 0x100B
    ∷ switch 7 2 0 0x3F8 0x1002 0x1004 0x100A
    ∷ []

cycled : Worked
cycled = record {
  code =
      (regs regop.SubuCo 2 0 0 ∷ regs regop.AdduCi 3 0 0 ∷ [])
      ∷ []
      ∷ (Some (instr.Branch false false (pos 2)) ∷ im immop.Or 4 0 9 ∷ im immop.Or 2 0 5 ∷ [])
      ∷ [];
  pages = no_page;
  limit = 2;
  schedule = t ∷ i ∷ i ∷ t ∷ i ∷ t ∷ t ∷ i ∷ t ∷ i ∷ [];
  comes = record {
    outcomes =
        limited 2 ((3, 1) ∷ []) 2 0
        ∷ record (limited 0 [] 1 0) { end = Vector 2 0x1000 }
        ∷ limited 2 ((2, 5) ∷ []) 4 0
        ∷ [];
    owns = (Issue ∷ Issue ∷ []) ∷ (Issue ∷ []) ∷ (Issue ∷ Issue ∷ Answer ∷ Issue ∷ []) ∷ [];
    turns = map Switched cycled_by ++ (Alone ∷ []);
    switches = cycled_by;
    events = 12;
  };
}

-- the letter `e` makes the pages of the program that runs absent, and no other's; and an interrupt that loads hold as
-- every other program is over
apart : Worked
apart = record {
  code = (mem memop.Ld 2 0x5000 ∷ []) ∷ (mem memop.LdD 2 0x5000 ∷ []) ∷ [];
  pages = no_page;
  limit = 1;
  schedule = i ∷ e ∷ r ∷ i ∷ t ∷ r ∷ [];
  comes = record {
    outcomes =
        record (limited 1 [] 3 0) {
          records = fault 3 0x1002 0x1007 0x100B 4 (triple 0x13D 0 0x5000 ∷ no_triple ∷ no_triple ∷ []) ∷ [];
        }
        ∷ limited 1 [] 3 2
        ∷ [];
    owns = (Issue ∷ Evict ∷ Answer ∷ []) ∷ (Issue ∷ Answer ∷ Answer ∷ []) ∷ [];
    turns = Held 2 ∷ [];
    switches = [];
    events = 7;
  };
}

-- nothing may be retired
idle : Worked
idle = record {
  code = (im immop.Or 2 0 1 ∷ []) ∷ (im immop.Or 2 0 1 ∷ []) ∷ [];
  pages = no_page;
  limit = 0;
  schedule = [];
  comes = record {
    outcomes = limited 0 [] 0 0 ∷ limited 0 [] 0 0 ∷ [];
    owns = [] ∷ [] ∷ [];
    turns = [];
    switches = [];
    events = 0;
  };
}

worked : List Worked
worked = divided ∷ held ∷ cycled ∷ apart ∷ idle ∷ []

-- so of each run
each_after : (runs : List Worked) → map over_before runs ≡ map (λ w. None) runs → map over_then runs ≡ map (λ w. true) runs →
    HaveEvents runs
each_after [] none here = tt
each_after (w ∷ runs) none here =
    let not_before : over_before w ≡ None = cc in
    let over : over_then w ≡ true = cc in
    let before : map over_before runs ≡ map (λ w. None) runs = cc in
    let after : map over_then runs ≡ map (λ w. true) runs = cc in
    (first_after (over_at w) w.comes.events not_before over, each_after runs before after)

events_by_hand : HaveEvents worked
unfolding worked divided divided_by held cycled cycled_by apart idle shared_after share_letter_at next_from turn_letter_at outcomes_of outcome_at after_letter situation_at record_of xip_along state opening transactions waits_for busy_register first_from uses_of writes_of in_words set.bits_below
events_by_hand = each_after worked refl refl

as_by_hand : map came worked ≡ map (λ w. w.comes) worked
unfolding worked divided divided_by held cycled cycled_by apart idle shared_after share_letter_at next_from turn_letter_at outcomes_of outcome_at after_letter situation_at record_of xip_along state opening transactions waits_for busy_register first_from uses_of writes_of in_words set.bits_below
as_by_hand = refl
