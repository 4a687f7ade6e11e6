-- What is reached is in every set that has where code begins and is closed.
use Rattle.std.proofs.Common.{ℕ, List}
use Rattle.std.specs.Prelude.{Contains}
use Rattle.m88_base.specs.Image.{ProgramImage}
use Rattle.m88_sourcing.specs.Code.{HasInstruction, IsReachedFrom, IsReached}
use Rattle.m88_sourcing.specs.Code.IsReached.{begins, leads}

-- a set that has the seeds, and with an address those to which it leads, has all that is reached
pub all_reached : (image : ProgramImage) (seeds : List ℕ) (Has : ℕ → Type 0)
    → ((a : ℕ) → Contains seeds a → HasInstruction image a → Has a)
    → ((a b : ℕ) → Has a → IsReachedFrom image a b → Has b)
    → (a : ℕ) → IsReached image seeds a → Has a
all_reached image seeds Has seeded closed a (begins seed stands) = seeded a seed stands
all_reached image seeds Has seeded closed b (leads {a = a} from led) =
    closed a b (all_reached image seeds Has seeded closed a from) led
