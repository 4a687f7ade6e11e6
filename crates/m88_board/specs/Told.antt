-- What an event tells of its instruction.
use Rattle.std.specs.Prelude.{ℕ, List, Option, Some, ◌≡◌, ◌<◌, ◌^◌}
use Rattle.std.specs.Int.{to_be_bytes, w32}
use Rattle.m88_event.specs.Choice.{issues}
use Rattle.m88_event.specs.Timeline.{Moment, Run, choice_at}
use Rattle.m88_event.specs.declared.happened.Happened.{Happened}
use Rattle.m88_event.specs.declared.happened.Happened.TheVariants as happened
use Rattle.m88_event.specs.declared.letter.Letter.TheVariants.{Issue}
use Rattle.m88_isa.specs.Effect.{Change, IfGo, recorded_change}
use Rattle.m88_isa.specs.Machine.{four_bytes, state}
use Rattle.m88_isa.specs.Memory.{AreWordAccesses}
use Rattle.m88_isa.specs.declared.planned.Plan.{Plan}
use Rattle.m88_isa.specs.declared.planned.Plan.TheVariants.{Go}
use Rattle.m88_board.specs.declared.told.Told.{Told}

-- an instruction went on: it was issued, or a byte was put out for it
abbrev pub WentOn : Happened → Type 0
WentOn happened.Issued = Unit {0}
WentOn (happened.Served byte) = Unit {0}
WentOn _ = ⊥

-- there are four bytes, and they are a word, the first of them the highest
abbrev pub IsWordOf : Option (List ℕ) → ℕ → Type 0
IsWordOf bytes word = (word < 2 ^ 32) × (bytes ≡ Some (to_be_bytes w32 word))

-- what an event of `i` at a moment tells: the word of the instruction that went on, and its changes where it is issued
pub record IsTold (r : Run) (m : Moment) (happened : Happened) (told : Told) : Type 0 where
  pub word : WentOn happened → IsWordOf (four_bytes r.program.byte (state r.program m.retired).pc) told.word
  pub plan : (change : Change) → choice_at r Issue m ≡ issues change → told.plan ≡ Go (recorded_change change)

-- the accesses of an instruction that goes on are those of words
abbrev pub MakesWordAccesses : Plan → Type 0
MakesWordAccesses plan = IfGo plan (λ effect. AreWordAccesses effect.accesses.count effect.accesses)
