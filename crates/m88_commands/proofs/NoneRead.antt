-- Where nothing is read of what says nothing.
use Rattle.std.specs.Prelude.{◌≡◌, Option, None, Some}
use Rattle.m88_commands.specs.Inside.Reading.{ReadsFit}

pub reads_none : {T A : Type 0} {Say : A → Type 0} {value_of : T → A} {IsFit : T → Type 0} (r : Option T) → r ≡ None
    → ((said : A) → Say said → ⊥) → ReadsFit Say value_of IsFit r
reads_none None e none = record { found = tt; only = none; fit = tt }
reads_none (Some x) e none = absurd cc
