-- What a loading stands for, and what a call that may run out of memory gives.
use Rattle.std.specs.Prelude.{ℕ, Result, Ok, Err, ◌≡◌, ◌+◌, ◌≤◌, ◌⊎◌}
use Rattle.m88_srec.specs.Begun.{load_in}
use Rattle.m88_srec.specs.Verdict.{Load}
use Rattle.m88_srec.specs.declared.fault.SrecFault.{SrecFault}
use Rattle.m88_srec.specs.declared.fault.SrecKind.{SrecKind}
use Rattle.m88_srec.specs.declared.fault.SrecKind.TheVariants.{Memory}
use Rattle.m88_srec.specs.declared.loading.Loading.{Loading}

-- what the lines of a loading write
abbrev pub load_seen : Loading → Load
load_seen x = load_in x.image x.records x.start

-- a call left what is said, or answered the kind that is said, or memory ran out
abbrev pub GivesLoad : {L T : Type 0} → L → Result T SrecKind → Result L SrecKind → Type 0
GivesLoad load (Ok u) said = said ≡ Ok load
GivesLoad load (Err kind) said = (kind ≡ Memory) ⊎ (said ≡ Err kind)

-- a line or a record was taken: what is said, or memory ran out; it loads one record at most
pub record TakesRecord {T : Type 0} (before after : Loading) (result : Result T SrecKind) (said : Result Load SrecKind)
    : Type 0 where
  pub value : GivesLoad (load_seen after) result said
  pub records : after.records ≤ before.records + 1

-- the fault that is answered at a line
abbrev pub fault_of_line : ℕ → SrecKind → SrecFault
fault_of_line line Memory = record { line = 0; kind = Memory }
fault_of_line line kind = record { line = line; kind = kind }
