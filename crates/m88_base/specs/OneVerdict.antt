-- What the definition of a format promises of each input.
use Rattle.std.specs.Prelude.{◌≡◌, ◌⊎◌}

-- an input has a value or a first fault, never both, and one at most: so its verdict is one, the value or the fault
pub record HasOneVerdict {V F : Type 0} (IsValue : V → Type 0) (IsFault : F → Type 0) : Type 0 where
  pub some : ((value : V) × IsValue value) ⊎ ((fault : F) × IsFault fault)
  pub not_both : (value : V) (fault : F) → IsValue value → IsFault fault → ⊥
  pub one_value : (a b : V) → IsValue a → IsValue b → a ≡ b
  pub one_fault : (a b : F) → IsFault a → IsFault b → a ≡ b

-- the same where nothing is kept of an input but that it is accepted
abbrev pub HasOneFaultUnless : {F : Type 0} → Type 0 → (F → Type 0) → Type 0
HasOneFaultUnless Accepted IsFault = HasOneVerdict (λ (value : Unit {0}). Accepted) IsFault
