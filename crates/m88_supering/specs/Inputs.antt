-- An input: a data fault with registers, and behind the first line `handler` the source of a handler. Which such inputs
-- are accepted, and where and why any other is refused: that it has no line `handler` comes before every fault of what
-- stands before that line, and these before those of the handler, whose lines are counted in the whole input.
use Rattle.std.specs.Prelude.{ℕ, ◌≡◌, ◌+◌, ◌⊎◌, List, Ok, Err, codes}
use Rattle.m88_asm.specs.Sources.{IsProgramSource, IsRefusedProgram}
use Rattle.m88_base.specs.Lines.{lines_of}
use Rattle.m88_base.specs.Parted.{IsParted, IsUnparted}
use Rattle.m88_base.specs.Refusal.{Refusal}
use Rattle.m88_entries.specs.Told.{Told, told_verdict}
use Rattle.m88_serving.specs.Served.{turned_down}
use Rattle.m88_serving.specs.declared.fault.ServeFault.{ServeFault}

-- the line between a fault and a handler
abbrev pub handler_separator : List ℕ
handler_separator = codes "handler"

-- what an input with a line `handler` says: what stands before that line, how many lines stand before the handler, and
-- the handler's source
pub record Parts : Type 0 where
  pub before : List ℕ
  pub lines : ℕ
  pub source : List ℕ

-- the input says that: its first line `handler` is the last of these lines
abbrev pub AreParts : List ℕ → Parts → Type 0
AreParts input parts = IsParted handler_separator input parts.before parts.lines parts.source

-- the input tells a fault, and its handler can be assembled and linked
pub record TellsFault (input : List ℕ) (told : Told) : Type 0 where
  pub parts : Parts
  pub are_parts : AreParts input parts
  pub is_told : told_verdict (lines_of parts.before) ≡ Ok told
  pub is_program : IsProgramSource parts.source

-- the input is accepted
abbrev pub IsFaultInput : List ℕ → Type 0
IsFaultInput input = (told : Told) × TellsFault input told

-- the refusal of an input without a line `handler`, at a line
abbrev pub no_handler_refusal : ℕ → Refusal
no_handler_refusal n = record { line = n; column = 1; reason = codes "no handler" }

-- an input is refused where it has no line `handler`: the line behind the last is missing
pub record LacksHandler (input : List ℕ) (r : Refusal) : Type 0 where
  pub lines : ℕ
  pub is_unparted : IsUnparted handler_separator input lines
  pub refusal : r ≡ no_handler_refusal (lines + 1)

-- where it has one, at the first fault of what stands before it
pub record IsRefusedBefore (input : List ℕ) (r : Refusal) : Type 0 where
  pub parts : Parts
  pub are_parts : AreParts input parts
  pub fault : ServeFault
  pub is_fault : told_verdict (lines_of parts.before) ≡ Err fault
  pub refusal : r ≡ turned_down fault

-- and where that has none, at the first fault of the handler
pub record IsRefusedBehind (input : List ℕ) (r : Refusal) : Type 0 where
  pub parts : Parts
  pub are_parts : AreParts input parts
  pub told : Told
  pub is_told : told_verdict (lines_of parts.before) ≡ Ok told
  pub is_refused : IsRefusedProgram parts.lines parts.source r

-- an input is refused so
abbrev pub IsRefusedInput : List ℕ → Refusal → Type 0
IsRefusedInput input r = LacksHandler input r ⊎ (IsRefusedBefore input r ⊎ IsRefusedBehind input r)
