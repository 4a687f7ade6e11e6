-- How a line begins that tells of an event among others of its kind.
use Rattle.std.specs.Prelude.{ℕ, ◌++◌, List, codes, decimal}

-- a name, a number among those of that name, and the number of the event
abbrev pub numbered_event : List ℕ → ℕ → ℕ → List ℕ
numbered_event name number event = name ++ codes " " ++ decimal number ++ codes " event " ++ decimal event
