-- The numbers of a program's answers, and what an answer says of itself.
use Rattle.std.specs.Prelude.{ℕ, ◌≡◌, ◌⊎◌}
use Rattle.m88_base.specs.declared.reading.ReadEnd.{ReadEnd}
use Rattle.m88_base.specs.declared.reading.ReadEnd.TheVariants as end
use Rattle.m88_base.specs.declared.status.Status.{Status}
use Rattle.m88_base.specs.declared.status.Status.TheVariants.{Done, Usage, SourceFault, SinkFault, Refused, Memory, TooLong}

-- the exit status of each answer
abbrev pub exit_number : Status → ℕ
exit_number Done = 0
exit_number Usage = 1
exit_number SourceFault = 2
exit_number SinkFault = 3
exit_number Refused = 4
exit_number Memory = 5
exit_number TooLong = 6

-- an answer with which nothing was written
abbrev pub WritesNothing : Status → Type 0
WritesNothing Done = ⊥
WritesNothing Refused = ⊥
WritesNothing SinkFault = ⊥
WritesNothing _ = Unit {0}

-- an answer with which all was read and all was written
abbrev pub IsAnswered : Status → Type 0
IsAnswered Done = Unit {0}
IsAnswered Refused = Unit {0}
IsAnswered _ = ⊥

-- the answer where nothing failed: memory ran out, or Done where the input is accepted and Refused where it isn't
abbrev pub Answers : Type 0 → Status → Type 0
Answers Accepted status = (status ≡ Memory) ⊎ ((Accepted × (status ≡ Done)) ⊎ (¬ Accepted × (status ≡ Refused)))

-- the answer where an input was not read to its end
abbrev pub status_of_end : ReadEnd → Status
status_of_end end.SourceFault = SourceFault
status_of_end end.TooLong = TooLong
status_of_end end.Memory = Memory

-- an answer that may come before there is a text, from the source or for lack of memory
abbrev pub IsOfReading : Status → Type 0
IsOfReading SourceFault = Unit {0}
IsOfReading TooLong = Unit {0}
IsOfReading Memory = Unit {0}
IsOfReading _ = ⊥
