-- What an answer of the program says of its watch; what it says of itself stands with the statuses.
use Rattle.m88_base.specs.declared.status.Status.{Status}
use Rattle.m88_base.specs.declared.status.Status.TheVariants.{Done, SinkFault, Memory}

-- an answer with which nobody was shown anything
abbrev pub ShowsNothing : Status → Type 0
ShowsNothing Done = ⊥
ShowsNothing SinkFault = ⊥
ShowsNothing Memory = ⊥
ShowsNothing _ = Unit {0}
