-- A handler as the code has it, and what its instructions need.
use Rattle.std.specs.Prelude.{◌≡◌, ◌<◌, ◌≤◌, ◌+◌, ◌-◌, ◌%◌, ◌^◌}
use Rattle.m88_isa.specs.Flow.{FlowFits}
use Rattle.m88_isa.specs.Memory.{IsWordAccess}
use Rattle.m88_isa.specs.declared.planned.Accesses.{Accesses}
use Rattle.m88_isa.specs.declared.planned.Effect.{Effect}
use Rattle.m88_handler.specs.Handled.{base_of, code_of}
use Rattle.m88_handler.specs.declared.act.Act.{Act}
use Rattle.m88_handler.specs.declared.act.Act.TheVariants.{Works, Reaches}
use Rattle.m88_handler.specs.declared.handler.Handler.{Handler}

-- it stands at words
pub record StandsAtWords (h : Handler) : Type 0 where
  pub here : h.pc % 4 ≡ 0
  pub behind : h.next % 4 ≡ 0

-- accesses that are there can be made
pub record AreMakable (accesses : Accesses) : Type 0 where
  pub first : 0 < accesses.count → IsWordAccess accesses.first
  pub second : 1 < accesses.count → IsWordAccess accesses.second

-- the accesses of an effect can be made, and it goes on at words
pub record IsMakable (e : Effect) : Type 0 where
  pub accesses : AreMakable e.accesses
  pub flow : FlowFits e.after e.bubble

-- an act can be done
abbrev pub CanBeDone : Act → Type 0
CanBeDone (Works e) = IsMakable e
CanBeDone (Reaches e) = IsMakable e
CanBeDone _ = Unit {0}

-- the images stay
pub record KeepsImages (old new : Handler) : Type 0 where
  pub code : code_of new ≡ code_of old
  pub base : base_of new ≡ base_of old

-- accesses were made: the images stay, and where the handler stands
pub record IsTouched (old new : Handler) : Type 0 where
  pub code : code_of new ≡ code_of old
  pub base : base_of new ≡ base_of old
  pub pc : new.pc ≡ old.pc
  pub next : new.next ≡ old.next
  pub steps : new.steps ≡ old.steps

-- it can go on by an instruction
pub record CanStep (h : Handler) : Type 0 where
  pub here : h.pc % 4 ≡ 0
  pub behind : h.next % 4 ≡ 0
  pub room : h.steps < 2 ^ 32 - 1

-- it went on by one at most: it stands at words, the images stay, and so many are counted
pub record HasStepped (old new : Handler) : Type 0 where
  pub here : new.pc % 4 ≡ 0
  pub behind : new.next % 4 ≡ 0
  pub steps : new.steps ≤ old.steps + 1
  pub code : code_of new ≡ code_of old
  pub base : base_of new ≡ base_of old
