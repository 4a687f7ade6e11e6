-- Where software has nothing to do: a run with it is the run of the board alone.
use Rattle.std.specs.Prelude.{ℕ, [], ◌≡◌, ◌<◌, ◌↔◌}
use Rattle.m88_isa.specs.Machine.{Program, state}
use Rattle.m88_event.specs.Run.{IsOutcome, moment_after}
use Rattle.m88_emul.specs.Extended.{IsAlone, deed_at}
use Rattle.m88_emul.specs.Timeline.{extended_after}
use Rattle.m88_emul.specs.declared.emulation.EmulOutcome.{EmulOutcome}
use Rattle.m88_event.specs.Timeline.{Run}

-- software has an aid for none of the first so many instructions of a program
abbrev pub IsUnaided : Program → ℕ → Type 0
IsUnaided p count = (n : ℕ) → n < count → IsAlone (deed_at p (state p n))

-- what a run comes to lists no emulation exactly where software has an aid for no instruction up to the limit. Then
-- each moment is that of the board alone, and so is the outcome.
pub record IsPlainUnaided (r : Run) (o : EmulOutcome) : Type 0 where
  pub none : (o.emulated ≡ []) ↔ IsUnaided r.program r.limit
  pub moments : IsUnaided r.program r.limit → (k : ℕ)
      → extended_after r k ≡ record { moment = moment_after r k; emulated = [] }
  pub outcome : IsUnaided r.program r.limit → IsOutcome r o.outcome
