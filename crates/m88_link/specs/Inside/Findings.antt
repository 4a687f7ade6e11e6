-- The faults that name a symbol, as linking comes upon them.
use Rattle.std.specs.Prelude.{◌≡◌, ◌⊎◌, Bool, false, None, Option, Result, MatchResult, Some}
use Rattle.std.specs.Option.{option_or}
use Rattle.m88_link.specs.declared.fault.LinkFault.{LinkFault}
use Rattle.m88_link.specs.declared.findings.Findings.{Findings}
use Rattle.m88_link.specs.Faults.{memory_fault}

-- where linking doesn't go on there was no such fault
abbrev pub IsEnded : Bool → Option LinkFault → Type 0
IsEnded goes_on fault = goes_on ≡ false → fault ≡ None

-- linking goes on behind the fault if there is one, or ends at it
abbrev pub EndsAtFault : {A : Type 0} → Bool → Option LinkFault → Type 0 → Result A LinkFault → Type 0
EndsAtFault goes_on fault Goes result =
    MatchResult result
    (λ _. Goes × IsEnded goes_on fault)
    (λ e. (e ≡ memory_fault) ⊎ ((goes_on ≡ false) × (fault ≡ Some e)))

-- what was found, with the first that repeats a name, unless there was one
abbrev pub with_duplicate : Findings → Option LinkFault → Findings
with_duplicate f fault = record f { duplicate = option_or f.duplicate fault }

-- and with the first name that means nothing and the first distance that is too far
abbrev pub with_uses : Findings → Option LinkFault → Option LinkFault → Findings
with_uses f undefined far =
    record f { undefined = option_or f.undefined undefined; far = option_or f.far far }
